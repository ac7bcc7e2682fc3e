-- Invariant: the numbers of the places left are left to put.
use Rattle.pauli.specs.PlaceSet.{set_in}
use Rattle.combined_lists.proofs.slot.SlotLaws.{Putting}
use Rattle.combined_lists.proofs.slot.put_numbers.Given as goal

abbrev pub invariant-loop-p : goal.invariant-loop-p
invariant-loop-p l =
    (goal.iterator-loop-p).can_next l.p-iterator × (goal.iterator-loop-p).is_finite l.p-iterator
    × Putting (set_in l.fn.used) l.joint l.p-iterator l.count l.slot
