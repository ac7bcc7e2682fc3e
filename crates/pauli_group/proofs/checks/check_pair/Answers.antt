-- The rolls and the joined limits, then the work area.
use Rattle.std.proofs.Common.{sym, ap, ◌∙◌}
use Rattle.pauli.proofs.joined.JoinLaws.{counts_joining}
use Rattle.pauli_group.proofs.checks.TwoLists.{counted_refused, counted_short, counted_long}
use Rattle.pauli.specs.Refusals.{told_by}
use Rattle.pauli.proofs.refusal.HandedOn.{handed_on}
use Rattle.pauli_group.proofs.checks.check_pair.Goals as goal

pub returns-in_err-pair-clause-counts : goal.returns-in_err-pair-clause-counts
returns-in_err-pair-clause-counts c = ap (told_by _) (handed_on _ _ c.from_residual.ensures.1) ∙ counted_refused _ _ _ _ _ (sym c.in_err-pair.ensures.counts)

pub returns-in_err-check_area-clause-counts : goal.returns-in_err-check_area-clause-counts
returns-in_err-check_area-clause-counts c =
    let j = counts_joining _ _ _ (sym c.in_ok-pair.ensures.counts) in
    ap (told_by _) (handed_on _ _ c.from_residual-in_err-check_area.ensures.1) ∙ counted_short _ _ _ _ _ j _ _ c.in_err-check_area.ensures.told

pub returns-clause-counts : goal.returns-clause-counts
returns-clause-counts c =
    let j = counts_joining _ _ _ (sym c.in_ok-pair.ensures.counts) in
    counted_long _ _ _ _ _ j c.in_ok-check_area.ensures.room
