-- Invariant: the first i rows are done, and the slice had words at entry.
use Prim.Native.Nat.{◌*◌}
use Rattle.binar.proofs.echelon.RowByRow.{rewritten}
use Rattle.binar.proofs.row.Slice.{AreWords}
use Rattle.binar.specs.Echelon.{beside_identity}
use Rattle.binar.specs.Words.{matrix}
use lib.ListN.{length}
use mathlib.Core.Path.{◌≡◌}
use Rattle.binar.proofs.matrix_form.write_identity.Given as goal

abbrev pub invariant-loop-i : goal.invariant-loop-i
invariant-loop-i l =
    AreWords l.initial.w
    × (length l.w ≡ length l.initial.w)
    × (l.w ≡ rewritten l.initial.w l.shape.stride l.shape.rows (beside_identity (64 * l.width) 0 (matrix l.shape.stride l.shape.rows l.initial.w)) l.i)
