-- Invariant: what is left to do to the slice as it is gives what was to be done to the slice at entry.
use Prim.Native.Nat.{◌-◌, ◌≤◌}
use Rattle.binar.proofs.echelon.Passes.{final, total}
use Rattle.binar.proofs.row.Slice.{AreWords}
use lib.ListN.{length}
use mathlib.Core.Path.{◌≡◌}
use Rattle.binar.proofs.echelon.echelonize.Given as goal

abbrev pub invariant-loop-next : goal.invariant-loop-next
invariant-loop-next l =
    let s = l.shape.stride in
    let n = l.shape.rows in
    let cols = l.shape.cols in
    (l.next.row ≤ n)
    × (l.next.col ≤ cols)
    × (length l.w ≡ length l.initial.w)
    × AreWords l.w
    × (final l.initial.w s n cols 0 0 ≡ final l.w s n cols l.next.row l.next.col)
    × (total l.initial.w s n cols 0 0 ≡ total l.w s n cols l.next.row l.next.col)

abbrev pub decreases-loop-next : goal.decreases-loop-next
decreases-loop-next l = l.shape.rows - l.next.row
