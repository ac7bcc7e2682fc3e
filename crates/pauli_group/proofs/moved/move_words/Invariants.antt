-- Invariant: the first i Paulis are stored.
use Rattle.std.proofs.Common.{length}
use Rattle.pauli.specs.Pauli.{normal}
use Rattle.pauli.specs.Signed.{paulis_in}
use Rattle.pauli_theory.specs.Inner.ModuloPlaces.{moved_pauli}
use Rattle.pauli_group.proofs.list.ListLaws.{StoredUpTo}
use Rattle.pauli_group.proofs.moved.move_words.Given as goal

abbrev pub invariant-loop-i : goal.invariant-loop-i
invariant-loop-i l = StoredUpTo (λ p. normal (moved_pauli l.own l.joint p)) (paulis_in l.list) l.base (length l.list) l.initial.w l.i l.w
