-- Invariant: number `number` of the sizes from k on is the subset.
use Rattle.std.proofs.Common.{◌≡◌, ◌-◌, ◌≤◌}
use Rattle.pauli_theory.specs.Listing.{of_sizes_at, subset_at}
use Rattle.pauli_group.proofs.listing.subset_at.Given as goal

abbrev pub invariant-loop-k : goal.invariant-loop-k
invariant-loop-k l = (l.k ≤ l.n) × (subset_at l.n l.i ≡ of_sizes_at (l.n - l.k) l.n l.k l.number)
