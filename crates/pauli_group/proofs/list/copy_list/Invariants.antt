-- Invariant: the first i Paulis are copied.
use Rattle.pauli.specs.Pauli.{normal}
use Rattle.pauli.specs.Signed.{list_in}
use Rattle.pauli_group.proofs.list.ListLaws.{StoredUpTo}
use Rattle.pauli_group.proofs.list.copy_list.Given as goal

abbrev pub invariant-loop-i : goal.invariant-loop-i
invariant-loop-i l = StoredUpTo normal (list_in l.initial.w l.from.base l.from.count) l.to l.from.count l.initial.w l.i l.w
