-- Invariant: the first i rows are done, and the slice had words at entry.
use Rattle.binar.proofs.echelon.Others.{cleared}
use Rattle.binar.proofs.echelon.RowByRow.{rewritten}
use Rattle.binar.proofs.row.Slice.{AreWords}
use lib.ListN.{length}
use mathlib.Core.Path.{◌≡◌}
use Rattle.binar.proofs.echelon.reduce.Given as goal

abbrev pub invariant-loop-i : goal.invariant-loop-i
invariant-loop-i l =
    AreWords l.initial.w
    × (length l.w ≡ length l.initial.w)
    × (l.w ≡ rewritten l.initial.w l.fn.shape.stride l.fn.shape.rows (cleared l.initial.w l.fn.shape.stride l.fn.shape.rows l.pivot.row l.pivot.col) l.i)
