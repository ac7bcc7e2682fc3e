-- Invariant: the first i Paulis have their phases mod m, and the rest is as it was.
use Rattle.pauli_group.proofs.scan.PhaseLaws.{Taken}
use Rattle.pauli_group.proofs.scan.take_mod.Given as goal

abbrev pub invariant-loop-i : goal.invariant-loop-i
invariant-loop-i l = Taken l.initial.w l.list.base l.m l.w l.i
