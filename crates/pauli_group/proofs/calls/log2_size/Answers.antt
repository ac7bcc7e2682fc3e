-- The refusal of the description is told on; else its rank and its step are told as one number.
use Rattle.std.proofs.Common.{ℕ, ◌+◌, arith, ap, ◌∙◌}
use Rattle.pauli_theory.specs.Standard.{log2_size}
use Rattle.pauli_group.specs.Promises.{promise_of}
use Rattle.pauli_group.specs.Calls.{size_call}
use Rattle.pauli_group.proofs.calls.CallLaws.{facts_none, facts_given, size_told}
use Rattle.pauli_group.proofs.group.GroupedLaws.{list_rank}
use Rattle.pauli_group.proofs.source.SourceLaws.{roll_counted}
use Rattle.pauli_group.proofs.checks.OneList.{answers, refuses}
use Rattle.pauli.proofs.refusal.HandedOn.{handed_on}
use Rattle.pauli.specs.Refusals.{told_of}
use Rattle.pauli_group.proofs.calls.log2_size.Goals as goal

pub overflow_add-result : goal.overflow_add-result
overflow_add-result c =
    let promise = promise_of c.args.promise in
    let e = c.describe_list.ensures in
    let found = facts_given promise _ _ e.told _ c.in_ok-d.was in
    omega (arith, found.facts.rank_is, list_rank _ _ (roll_counted _ _ found.given.count))

pub returns-in_err-d : goal.returns-in_err-d
unfolding size_call
returns-in_err-d c =
    let promise = promise_of c.args.promise in
    let e = c.describe_list.ensures in
    let refused = facts_none promise _ _ e.told _ c.in_err-d.was in
    record { told = ap told_of (handed_on _ _ c.from_residual.ensures.1) ∙ refuses c.args.b.now c.args.work.now refused (log2_size promise); area = e.area }

pub returns : goal.returns
unfolding size_call
returns c =
    let promise = promise_of c.args.promise in
    let e = c.describe_list.ensures in
    let found = facts_given promise _ _ e.told _ c.in_ok-d.was in
    record { told = answers c.args.b.now c.args.work.now found.given (log2_size promise) _ (ap (λ (k : ℕ). c.in_ok-d.d.rank + k) c.log2_count.ensures.0 ∙ size_told promise _ _ _ found.facts.rank_is found.facts.step_is); area = e.area }
