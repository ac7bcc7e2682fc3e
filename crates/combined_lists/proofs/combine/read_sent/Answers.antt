use Rattle.std.proofs.Common.{ap, ◌∙◌, None, Result, Option}
use Rattle.pauli.specs.Refusals.{told_of}
use Rattle.pauli.specs.declared.refusal.Refusal.{Refusal}
use Rattle.pauli.specs.declared.roll.Roll.{Roll}
use Rattle.pauli.proofs.refusal.HandedOn.{handed_on}
use Rattle.combined_lists.specs.LineCall.{passed}
use Rattle.combined_lists.proofs.combine.RollLaws.{none_passes, roll_refused, roll_passes, roll_is}
use Rattle.combined_lists.proofs.combine.read_sent.Goals as goal

pub returns-then-is_empty-clause-told : goal.returns-then-is_empty-clause-told
returns-then-is_empty-clause-told c = none_passes _ None c.if-is_empty.ensures

pub returns-in_err-read-clause-told : goal.returns-in_err-read-clause-told
returns-in_err-read-clause-told c =
    ap (λ (r : Result (Option Roll) Refusal). passed (told_of r)) (handed_on _ _ c.from_residual.ensures.1)
    ∙ roll_refused _ c.if-is_empty.ensures _ _ _ c.in_err-read.ensures.count

pub returns-clause-told : goal.returns-clause-told
returns-clause-told c = roll_passes _ c.if-is_empty.ensures _ _ c.in_ok-read.ensures.count

pub returns-clause-roll : goal.returns-clause-roll
returns-clause-roll c = roll_is _ c.if-is_empty.ensures c.in_ok-read.field-0 c.in_ok-read.ensures.count (ap (λ b. b.now) c.in_ok-read.ensures.bytes)
