-- Invariant: the entries from k on are those of the next row.
use Rattle.std.proofs.Common.{◌≡◌, ◌-◌, ◌≤◌, length}
use Rattle.pauli_group.proofs.listing.ListingLaws.{RowPart}
use Rattle.pauli_group.proofs.listing.next_row.Given as goal

abbrev pub invariant-loop-k : goal.invariant-loop-k
invariant-loop-k l = (1 ≤ l.k) × RowPart l.n (l.k - 1) l.row × (length l.row ≡ length l.initial.row)
