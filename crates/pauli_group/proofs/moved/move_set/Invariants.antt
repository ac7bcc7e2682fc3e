-- Invariant: the places left are left to move.
use Rattle.pauli.specs.PlaceSet.{set_in}
use Rattle.pauli_group.proofs.moved.MoveLaws.{Moving}
use Rattle.pauli_group.proofs.moved.move_set.Given as goal

abbrev pub invariant-loop-p : goal.invariant-loop-p
invariant-loop-p l =
    (goal.iterator-loop-p).can_next l.p-iterator × (goal.iterator-loop-p).is_finite l.p-iterator
    × Moving l.own l.joint (set_in l.fn.set) l.p-iterator l.from.0 (set_in l.moved)
