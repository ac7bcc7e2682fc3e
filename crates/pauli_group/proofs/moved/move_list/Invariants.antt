-- Invariant: the first i Paulis are moved.
use Rattle.std.proofs.Common.{◌≤◌}
use Rattle.pauli.specs.Pauli.{normal}
use Rattle.pauli.specs.Signed.{list_in}
use Rattle.pauli_theory.specs.Inner.ModuloPlaces.{moved_pauli}
use Rattle.pauli_group.proofs.list.ListLaws.{StoredUpTo}
use Rattle.pauli_group.proofs.moved.move_list.Given as goal

abbrev pub invariant-loop-i : goal.invariant-loop-i
invariant-loop-i l = (l.i ≤ l.from.count) × StoredUpTo (λ p. normal (moved_pauli l.own l.joint p)) (list_in l.initial.w l.from.base l.from.count) l.to l.from.count l.initial.w l.i l.w
