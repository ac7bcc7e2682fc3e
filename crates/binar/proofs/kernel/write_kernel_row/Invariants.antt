-- Invariant: the slice, which had words at entry, has the row of the first k pivots.
use Rattle.std.proofs.Common.{◌≡◌, length}
use Rattle.binar.specs.Words.{put_row}
use Rattle.binar.proofs.row.Slice.{AreWords}
use Rattle.binar.proofs.kernel.OneRow.{row_so_far}
use Rattle.binar.proofs.kernel.write_kernel_row.Given as goal

abbrev pub invariant-loop-k : goal.invariant-loop-k
invariant-loop-k l =
    AreWords l.fn.w
    × (length l.w ≡ length l.fn.w)
    × (l.w ≡ put_row l.fn.w l.at l.width (row_so_far l.fn.w l.shape.stride l.shape.rows l.rank l.col l.k))
