-- Invariant: for every list and promise that the group is of, the results of the first k elements are in the area, and the group still is.
use Rattle.std.proofs.Common.{◌≤◌}
use Rattle.pauli.specs.Condense.{list_of}
use Rattle.pauli_group.specs.Inner.Lists.{step_told}
use Rattle.pauli_group.specs.Inner.Members.{Asked}
use Rattle.factorizations.proofs.stored.ResultLaws.{Factored}
use Rattle.factorizations.proofs.stored.factor_all.Given as goal

abbrev pub invariant-loop-k : goal.invariant-loop-k
invariant-loop-k l =
    (l.k ≤ l.roll.count)
    × ((g : Asked l.known l.initial.w l.group.count l.group.places l.group.rank l.group.total (step_told l.phases)) → Factored g (list_of l.roll.bytes.now) l.k l.w)
