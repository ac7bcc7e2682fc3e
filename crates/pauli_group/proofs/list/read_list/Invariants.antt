-- Invariant: the first i Paulis are stored.
use Rattle.pauli.specs.Condense.{list_of}
use Rattle.pauli_group.specs.Inner.Lists.{over_places}
use Rattle.pauli_group.proofs.list.ListLaws.{StoredUpTo}
use Rattle.pauli_group.proofs.list.read_list.Given as goal

abbrev pub invariant-loop-i : goal.invariant-loop-i
invariant-loop-i l = StoredUpTo (over_places l.support) (list_of l.roll.bytes.now) l.base l.roll.count l.initial.w l.i l.w
