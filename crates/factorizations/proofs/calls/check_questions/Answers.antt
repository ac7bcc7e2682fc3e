-- The rolls, then the work area.
use Rattle.pauli_group.proofs.checks.RollsLaws.{both, rolls_none}
use Rattle.factorizations.proofs.calls.CallLaws.{counted_refused, counted_short, counted_long}
use Rattle.pauli.proofs.refusal.HandedOn.{handed_on}
use Rattle.pauli.specs.Refusals.{told_by}
use Rattle.std.proofs.Common.{ap, ◌∙◌}
use Rattle.factorizations.proofs.calls.check_questions.Goals as goal

pub returns-in_err-rolls-clause-counts : goal.returns-in_err-rolls-clause-counts
returns-in_err-rolls-clause-counts c = ap (told_by _) (handed_on _ _ c.from_residual.ensures.1) ∙ counted_refused _ _ _ _ _ (rolls_none _ _ c.in_err-rolls.ensures.counts)

pub returns-in_err-check_area-clause-counts : goal.returns-in_err-check_area-clause-counts
returns-in_err-check_area-clause-counts c =
    let read = both _ _ _ _ c.in_ok-rolls.ensures.counts in
    ap (told_by _) (handed_on _ _ c.from_residual-in_err-check_area.ensures.1) ∙ counted_short _ _ _ _ _ read _ _ c.in_err-check_area.ensures.told

pub returns-clause-counts : goal.returns-clause-counts
returns-clause-counts c =
    counted_long _ _ _ _ _ (both _ _ _ _ c.in_ok-rolls.ensures.counts) c.in_ok-check_area.ensures.room
