-- Invariant: the ones counted and those of the words left are those of the row.
use Prim.Native.Nat.{◌+◌, ◌-◌, ◌*◌, ◌≤◌}
use Rattle.binar.specs.Row.{weight}
use Rattle.binar.specs.Words.{row_at}
use mathlib.Core.Path.{◌≡◌}
use Rattle.binar.proofs.row.weight.Given as goal

abbrev pub invariant-loop-k : goal.invariant-loop-k
invariant-loop-k l = (l.k ≤ l.n) × (l.total ≤ 64 * l.k) × (weight (row_at l.w l.at l.n) ≡ l.total + weight (row_at l.w (l.at + l.k) (l.n - l.k)))
