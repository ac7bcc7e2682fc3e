-- Invariant: the modulus is m or that of the Paulis that are left, whichever is less.
use Rattle.pauli_group.proofs.scan.PhaseLaws.{Lowered}
use Rattle.pauli_group.proofs.scan.modulus_of.Given as goal

abbrev pub invariant-loop-words : goal.invariant-loop-words
invariant-loop-words l = Lowered l.list l.m l.words-index
