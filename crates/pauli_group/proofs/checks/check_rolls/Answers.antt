-- The generators' roll, then the elements' roll.
use Rattle.std.proofs.Common.{sym, ap, ◌∙◌}
use Rattle.pauli_group.proofs.checks.RollsLaws.{rolls_left, rolls_right, rolls_both}
use Rattle.pauli.specs.Refusals.{told_by}
use Rattle.pauli.proofs.refusal.HandedOn.{handed_on}
use Rattle.pauli_group.proofs.checks.check_rolls.Goals as goal

pub returns-in_err-generators-clause-counts : goal.returns-in_err-generators-clause-counts
returns-in_err-generators-clause-counts c = ap (told_by _) (handed_on _ _ c.from_residual.ensures.1) ∙ rolls_left _ _ _ _ (sym c.in_err-generators.ensures.count)

pub returns-in_err-elements-clause-counts : goal.returns-in_err-elements-clause-counts
returns-in_err-elements-clause-counts c =
    let left = sym c.in_ok-generators.ensures.count in
    ap (told_by _) (handed_on _ _ c.from_residual-in_err-elements.ensures.1) ∙ rolls_right _ _ _ left _ _ (sym c.in_err-elements.ensures.count)

pub returns-clause-counts : goal.returns-clause-counts
returns-clause-counts c =
    let left = sym c.in_ok-generators.ensures.count in
    let right = sym c.in_ok-elements.ensures.count in
    rolls_both _ _ _ left _ right
