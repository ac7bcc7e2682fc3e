-- Invariant: what is kept of the first i Paulis stands at the generators' place.
use Rattle.pauli_theory.specs.Inner.WholePlaces.{shared_pauli}
use Rattle.pauli_group.specs.Inner.Lists.{step_told}
use Rattle.pauli_group.proofs.whole.WholeLaws.{KeptWhole}
use Rattle.pauli_group.proofs.whole.keep_whole.Given as goal

abbrev pub invariant-loop-i : goal.invariant-loop-i
invariant-loop-i l =
    KeptWhole (shared_pauli (step_told l.first.phases) (step_told l.second.phases)) l.first.by l.second.by l.m l.initial.w l.i l.kept l.dropped l.w
