-- Invariants: the answer from the start is the answer from the cell reached.
use Prim.Native.Nat.{◌+◌, ◌-◌}
use Rattle.binar.specs.Echelon.{pivot_of, in_column, by_columns}
use Rattle.binar.specs.Words.{matrix}
use lib.ListN.{drop}
use mathlib.Core.Path.{◌≡◌}
use Rattle.binar.proofs.echelon.pivot_of.Given as goal

abbrev pub invariant-loop-row : goal.invariant-loop-row
invariant-loop-row l =
    let M = matrix l.shape.stride l.shape.rows l.w in
    pivot_of l.shape.cols l.start.row l.start.col M
    ≡ in_column l.col l.row (drop l.row M) (by_columns (l.shape.cols - (l.col + 1)) (l.col + 1) l.start.row (drop l.start.row M))

abbrev pub invariant-loop-col : goal.invariant-loop-col
invariant-loop-col l =
    let M = matrix l.shape.stride l.shape.rows l.w in
    pivot_of l.shape.cols l.start.row l.start.col M ≡ by_columns (l.shape.cols - l.col) l.col l.start.row (drop l.start.row M)
