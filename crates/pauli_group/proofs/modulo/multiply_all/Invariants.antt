-- Invariant: the first k standard generators are dealt with.
use Rattle.pauli_group.proofs.modulo.RemainderLaws.{MultipliedUpTo}
use Rattle.pauli_group.proofs.modulo.multiply_all.Given as goal

abbrev pub invariant-loop-k : goal.invariant-loop-k
invariant-loop-k l = MultipliedUpTo l.own l.joint l.initial.w l.fn.group.count l.fn.group.rank l.fn.group.total l.m l.k l.w
