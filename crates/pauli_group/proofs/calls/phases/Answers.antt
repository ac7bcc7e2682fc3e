-- The refusal of the description is told on; else the phases with its step are told.
use Rattle.std.proofs.Common.{◌∙◌, ap}
use Rattle.pauli_theory.specs.Standard.{phases_of}
use Rattle.pauli_group.specs.Promises.{promise_of}
use Rattle.pauli_group.specs.Calls.{phases_call}
use Rattle.pauli_group.proofs.calls.CallLaws.{facts_none, facts_given, phases_told_lem}
use Rattle.pauli_group.proofs.checks.OneList.{answers, refuses}
use Rattle.pauli.proofs.refusal.HandedOn.{handed_on}
use Rattle.pauli.specs.Refusals.{told_by}
use Rattle.pauli_group.specs.Answers.{phases_told}
use Rattle.pauli_group.proofs.calls.phases.Goals as goal

pub returns-in_err-d : goal.returns-in_err-d
unfolding phases_call
returns-in_err-d c =
    let promise = promise_of c.args.promise in
    let e = c.describe_list.ensures in
    let refused = facts_none promise _ _ e.told _ c.in_err-d.was in
    record { told = ap (told_by phases_told) (handed_on _ _ c.from_residual.ensures.1) ∙ refuses c.args.b.now c.args.work.now refused (phases_of promise); area = e.area }

pub returns : goal.returns
unfolding phases_call
returns c =
    let promise = promise_of c.args.promise in
    let e = c.describe_list.ensures in
    let found = facts_given promise _ _ e.told _ c.in_ok-d.was in
    record { told = answers c.args.b.now c.args.work.now found.given (phases_of promise) _ (phases_told_lem promise _ _ found.facts.step_is); area = e.area }
