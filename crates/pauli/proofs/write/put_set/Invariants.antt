-- Invariant: the numbers of the places left are left to write.
use Rattle.pauli.specs.Bytes.{le32s}
use Rattle.pauli.proofs.places.Members.{at_indexes}
use Rattle.pauli.proofs.write.Puts.{Left}
use Rattle.pauli.specs.Pauli.{select}
use Rattle.pauli.specs.PlaceSet.{set_in}
use Rattle.pauli.proofs.write.put_set.Given as goal

abbrev pub invariant-loop-p : goal.invariant-loop-p
invariant-loop-p l =
    (goal.iterator-loop-p).can_next l.p-iterator × (goal.iterator-loop-p).is_finite l.p-iterator
    × Left l.initial.out l.at (le32s (select (set_in l.fn.set) l.support)) l.out l.next (le32s (at_indexes l.p-iterator l.support))
