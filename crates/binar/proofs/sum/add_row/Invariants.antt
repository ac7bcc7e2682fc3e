-- Invariant: the first k sums are made.
use Rattle.std.proofs.Common.{◌≡◌, ℕ, ◌+◌, ◌*◌, ◌<◌, length, get_or, bit_xor}
use Rattle.binar.proofs.row.Slice.{AreWords}
use Rattle.binar.proofs.sum.add_row.Given as goal

abbrev pub invariant-loop-k : goal.invariant-loop-k
invariant-loop-k g l =
    AreWords l.w
    × (length l.sums ≡ g.row.N)
    × ((k : ℕ) → k < l.k → get_or l.sums k 0 ≡ bit_xor (get_or l.w (l.to + k) 0) (l.bit * get_or l.w (l.from + k) 0))
