-- Invariant: the indexes left, below 128, are left to write.
use Rattle.std.proofs.Common.{◌<◌}
use Rattle.pauli.proofs.write.Puts.{Left}
use Rattle.pauli.specs.Sets.{members}
use Rattle.pauli.specs.PlaceSet.{set_in}
use Rattle.pauli.specs.Support.{All}
use Rattle.pauli_group.specs.Calls.{le16s}
use Rattle.pauli_group.proofs.member.put_indexes.Given as goal

abbrev pub invariant-loop-p : goal.invariant-loop-p
invariant-loop-p l =
    (goal.iterator-loop-p).can_next l.p-iterator × (goal.iterator-loop-p).is_finite l.p-iterator
    × All (λ i. i < 128) l.p-iterator
    × Left l.initial.out l.at (le16s (members (set_in l.fn.set))) l.out l.next (le16s l.p-iterator)
