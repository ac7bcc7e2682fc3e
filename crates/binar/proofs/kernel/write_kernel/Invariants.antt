-- Invariant: the slice, which had words at entry, has the rows of the free columns below col.
use Rattle.std.proofs.Common.{◌≡◌, length}
use Rattle.binar.specs.Words.{put_rows}
use Rattle.binar.proofs.row.Slice.{AreWords}
use Rattle.binar.proofs.kernel.AllRows.{rows_so_far}
use Rattle.binar.proofs.kernel.write_kernel.Given as goal

abbrev pub invariant-loop-col : goal.invariant-loop-col
invariant-loop-col l =
    AreWords l.fn.w
    × (length l.w ≡ length l.fn.w)
    × (l.w ≡ put_rows l.fn.w l.at l.width (rows_so_far l.fn.w l.shape.stride l.shape.rows l.rank l.col))
    × (l.count ≡ length (rows_so_far l.fn.w l.shape.stride l.shape.rows l.rank l.col))
