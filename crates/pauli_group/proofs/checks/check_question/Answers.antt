-- The rolls, the number and the work area, in this order.
use Rattle.pauli_group.proofs.checks.RollsLaws.{both, rolls_none}
use Rattle.pauli_group.proofs.checks.Question.{counts_refused, counts_past, counts_short, counts_pass}
use Rattle.pauli.proofs.refusal.HandedOn.{handed_on}
use Rattle.pauli.specs.Refusals.{told_by, told_refusal}
use Rattle.std.proofs.Common.{ap, ◌∙◌}
use Rattle.pauli_group.proofs.checks.check_question.Goals as goal

pub returns-in_err-rolls-clause-counts : goal.returns-in_err-rolls-clause-counts
returns-in_err-rolls-clause-counts c = ap (told_by _) (handed_on _ _ c.from_residual.ensures.1) ∙ counts_refused _ _ _ _ _ _ (rolls_none _ _ c.in_err-rolls.ensures.counts)

pub returns-then-number-rolls-clause-counts : goal.returns-then-number-rolls-clause-counts
returns-then-number-rolls-clause-counts c =
    let read = both _ _ _ _ c.in_ok-rolls.ensures.counts in
    ap told_refusal c.into.ensures ∙ counts_past _ _ _ _ _ _ read c.if-number-rolls.true

pub returns-in_err-check_area-clause-counts : goal.returns-in_err-check_area-clause-counts
returns-in_err-check_area-clause-counts c =
    let read = both _ _ _ _ c.in_ok-rolls.ensures.counts in
    ap (told_by _) (handed_on _ _ c.from_residual-in_err-check_area.ensures.1) ∙ counts_short _ _ _ _ _ _ read c.if-number-rolls.false _ _ c.in_err-check_area.ensures.told

pub returns-clause-counts : goal.returns-clause-counts
returns-clause-counts c =
    let read = both _ _ _ _ c.in_ok-rolls.ensures.counts in
    counts_pass _ _ _ _ _ _ read c.if-number-rolls.false c.in_ok-check_area.ensures.room
