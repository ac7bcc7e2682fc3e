-- Invariant: the slice differs from that at entry, which had words, in the target's row alone; what the pivot rows left leave of that row
-- is what all leave of the target.
use Rattle.binar.proofs.matrix_form.Sweep.{swept_from}
use Rattle.binar.proofs.row.Slice.{AreWords}
use Rattle.binar.specs.Layout.{swept}
use Rattle.binar.specs.Words.{row_at, put_row}
use lib.ListN.{length}
use mathlib.Core.Path.{◌≡◌}
use Rattle.binar.proofs.matrix_form.transpose_solve.Given as goal

abbrev pub invariant-loop-k : goal.invariant-loop-k
invariant-loop-k l =
    let s = l.shape.stride in
    AreWords l.initial.w
    × (length l.w ≡ length l.initial.w)
    × (l.w ≡ put_row l.initial.w l.at s (row_at l.w l.at s))
    × (swept s l.shape.rows l.rank l.at l.initial.w ≡ swept_from l.initial.w s l.shape.rows l.rank l.k (row_at l.w l.at s))
