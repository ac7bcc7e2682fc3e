-- The refusal of the description is told on; else its rank is told.
use Rattle.pauli_theory.specs.Group.{none}
use Rattle.pauli_theory.specs.Standard.{rank}
use Rattle.pauli_group.specs.Calls.{rank_call}
use Rattle.pauli_group.proofs.calls.CallLaws.{facts_none, facts_given}
use Rattle.pauli_group.proofs.checks.OneList.{answers, refuses}
use Rattle.pauli.proofs.refusal.HandedOn.{handed_on}
use Rattle.pauli.specs.Refusals.{told_of}
use Rattle.std.proofs.Common.{ap, ◌∙◌}
use Rattle.pauli_group.proofs.calls.rank.Goals as goal

pub returns-in_err-d : goal.returns-in_err-d
unfolding rank_call
returns-in_err-d c =
    let promise = none in
    let e = c.describe_list.ensures in
    let refused = facts_none promise _ _ e.told _ c.in_err-d.was in
    record { told = ap told_of (handed_on _ _ c.from_residual.ensures.1) ∙ refuses c.args.b.now c.args.work.now refused rank; area = e.area }

pub returns : goal.returns
unfolding rank_call
returns c =
    let promise = none in
    let e = c.describe_list.ensures in
    let found = facts_given promise _ _ e.told _ c.in_ok-d.was in
    record { told = answers c.args.b.now c.args.work.now found.given rank _ found.facts.rank_is; area = e.area }
