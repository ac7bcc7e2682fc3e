-- The refusal of the description is told on; else its number for a stabilizer group is told.
use Rattle.std.proofs.Common.{◌∙◌, ap}
use Rattle.pauli_theory.specs.Standard.{stabilizer}
use Rattle.pauli_group.specs.Promises.{promise_of}
use Rattle.pauli_group.specs.Calls.{stabilizer_call}
use Rattle.pauli_group.proofs.calls.CallLaws.{facts_none, facts_given}
use Rattle.pauli_group.proofs.checks.OneList.{answers, refuses}
use Rattle.pauli.proofs.refusal.HandedOn.{handed_on}
use Rattle.pauli.specs.Refusals.{told_by}
use Rattle.pauli_group.specs.Answers.{yes_number}
use Rattle.pauli_group.proofs.calls.is_stabilizer_group.Goals as goal

pub returns-in_err-d : goal.returns-in_err-d
unfolding stabilizer_call
returns-in_err-d c =
    let promise = promise_of c.args.promise in
    let e = c.describe_list.ensures in
    let refused = facts_none promise _ _ e.told _ c.in_err-d.was in
    record { told = ap (told_by yes_number) (handed_on _ _ c.from_residual.ensures.1) ∙ refuses c.args.b.now c.args.work.now refused (stabilizer promise); area = e.area }

pub returns : goal.returns
unfolding stabilizer_call
returns c =
    let promise = promise_of c.args.promise in
    let e = c.describe_list.ensures in
    let found = facts_given promise _ _ e.told _ c.in_ok-d.was in
    record { told = answers c.args.b.now c.args.work.now found.given (stabilizer promise) _ found.facts.stabilizer_is; area = e.area }
