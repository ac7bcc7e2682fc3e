-- Invariant: the ones shared so far, by their parity, and those that the words left share are those that the rows share.
use Prim.Native.Nat.{◌+◌, ◌-◌, ◌%◌, ◌≤◌}
use Rattle.binar.specs.Row.{dot}
use Rattle.binar.specs.Words.{row_at}
use lib.Count.{ones}
use mathlib.Core.Path.{◌≡◌}
use Rattle.binar.proofs.row.dot.Given as goal

abbrev pub invariant-loop-k : goal.invariant-loop-k
invariant-loop-k l = (l.k ≤ l.n) × (dot (row_at l.w l.i l.n) (row_at l.w l.j l.n) ≡ (ones l.shared + dot (row_at l.w (l.i + l.k) (l.n - l.k)) (row_at l.w (l.j + l.k) (l.n - l.k))) % 2)
