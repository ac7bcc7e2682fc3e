-- Invariant: the set chosen so far and what is left to choose make the subset.
use Rattle.std.proofs.Common.{◌≡◌, ◌+◌, ◌-◌, ◌*◌, ◌^◌, ◌<◌, ◌≤◌}
use Rattle.pauli_theory.specs.Listing.{chosen_at}
use Rattle.pauli_group.proofs.listing.chosen_at.Given as goal

abbrev pub invariant-loop-p : goal.invariant-loop-p
invariant-loop-p l = (l.p ≤ l.n) × (l.c.size ≤ 16) × (l.c.bits < 2 ^ l.p) × (l.c.bits + 2 ^ l.p * chosen_at (l.n - l.p) l.c.size l.c.number ≡ chosen_at l.n l.k l.i)
