-- Invariant: what is left to do on the slice as it is gives what was to be done on the slice at entry.
use Prim.Native.Nat.{◌+◌, ◌-◌}
use Rattle.binar.proofs.row.Slice.{AreWords, added}
use Rattle.binar.specs.Words.{TwoRows}
use mathlib.Core.Path.{◌≡◌}
use Rattle.binar.proofs.sum.add_words.Given as goal

abbrev pub invariant-loop-k : goal.invariant-loop-k
invariant-loop-k l =
    AreWords l.w
    × TwoRows l.w (l.to + l.k) (l.from + l.k) (l.n - l.k)
    × (added l.bit l.initial.w l.to l.from l.n ≡ added l.bit l.w (l.to + l.k) (l.from + l.k) (l.n - l.k))
