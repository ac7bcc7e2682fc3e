-- Invariant: what is left to do on the slice as it is gives what was to be done on the slice at entry.
use Prim.Native.Nat.{◌+◌, ◌-◌}
use Rattle.binar.proofs.row.Slice.{AreWords, exchanged}
use Rattle.binar.specs.Words.{TwoRows}
use mathlib.Core.Path.{◌≡◌}
use Rattle.binar.proofs.row.swap_rows.Given as goal

abbrev pub invariant-loop-k : goal.invariant-loop-k
invariant-loop-k l =
    AreWords l.w
    × TwoRows l.w (l.i + l.k) (l.j + l.k) (l.n - l.k)
    × (exchanged l.initial.w l.i l.j l.n ≡ exchanged l.w (l.i + l.k) (l.j + l.k) (l.n - l.k))
