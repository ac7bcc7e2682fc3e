-- The refusal of the checks is told on; else the common part is written.
use Rattle.std.proofs.Common.{refl, ap, ◌∙◌}
use Rattle.pauli.specs.Told.{map_told}
use Rattle.pauli_group.specs.Calls.{common_bytes, common_call}
use Rattle.pauli_group.proofs.checks.TwoLists.{paired, pair_none, ends_refused, ends_answered}
use Rattle.pauli.proofs.refusal.HandedOn.{handed_on}
use Rattle.pauli.specs.Refusals.{told_of}
use Rattle.pauli_group.proofs.common.bitand.Goals as goal

pub returns-in_err-pair : goal.returns-in_err-pair
unfolding common_call map_told
returns-in_err-pair c =
    let none = pair_none c.args.left.now c.args.right.now _ c.in_err-pair.ensures.counts in
    let e = ends_refused c.args.left.now c.args.right.now c.args.work.now c.args.out.now (map_told common_bytes) refl none in
    record { told = ap told_of (handed_on _ _ c.from_residual.ensures.1) ∙ e.answered; written = e.written; area = e.area }

pub returns : goal.returns
unfolding common_call map_told
returns c =
    let g = paired _ _ _ _ c.in_ok-pair.ensures.counts in
    let write = rw (c.in_ok-pair.ensures.rolls.0, c.in_ok-pair.ensures.rolls.1, c.area_of.ensures.value) at c.write_common.ensures in
    let e = ends_answered c.args.left.now c.args.right.now c.args.work.now c.args.out.now (map_told common_bytes) g.joining g.room _ refl _ _ _ write.told write.left write.area in
    record { told = e.answered; written = e.written; area = e.area }
