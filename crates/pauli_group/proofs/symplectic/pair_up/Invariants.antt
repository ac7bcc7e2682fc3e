-- Invariant: what the pairing comes to is the same.
use Rattle.pauli_group.proofs.symplectic.PairLaws.{PairedUpTo}
use Rattle.pauli_group.proofs.symplectic.pair_up.Given as goal

abbrev pub invariant-loop-p : goal.invariant-loop-p
invariant-loop-p l = PairedUpTo l.initial.w l.n l.w l.p

abbrev pub decreases-loop-p : goal.decreases-loop-p
decreases-loop-p l = l.p.left
