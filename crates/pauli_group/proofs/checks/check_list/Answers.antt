-- The roll, then the work area.
use Rattle.std.proofs.Common.{sym, ap, ◌∙◌}
use Rattle.pauli_group.proofs.checks.OneList.{list_refused, list_short, list_long}
use Rattle.pauli.specs.Refusals.{told_by}
use Rattle.pauli.proofs.refusal.HandedOn.{handed_on}
use Rattle.pauli_group.proofs.checks.check_list.Goals as goal

pub returns-in_err-roll-clause-count : goal.returns-in_err-roll-clause-count
returns-in_err-roll-clause-count c = ap (told_by _) (handed_on _ _ c.from_residual.ensures.1) ∙ list_refused _ _ _ _ (sym c.in_err-roll.ensures.count)

pub returns-in_err-check_area-clause-count : goal.returns-in_err-check_area-clause-count
returns-in_err-check_area-clause-count c =
    ap (told_by _) (handed_on _ _ c.from_residual-in_err-check_area.ensures.1) ∙ list_short _ _ _ (sym c.in_ok-roll.ensures.count) _ _ c.in_err-check_area.ensures.told

pub returns-clause-count : goal.returns-clause-count
returns-clause-count c = list_long _ _ _ (sym c.in_ok-roll.ensures.count) c.in_ok-check_area.ensures.room
