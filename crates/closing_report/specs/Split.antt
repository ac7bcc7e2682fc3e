-- What the function that splits the input tells.
use Rattle.std.specs.Prelude.{List, ℕ, ◌-◌, ◌≤◌, take, drop, Option, Some, None}
use Rattle.pauli.specs.Told.{Told, answer, refused}
use Rattle.closing_report.specs.InputRolls.{Rolls}

-- the rolls, or that the input is refused
abbrev pub rolls_told : List ℕ → Option ℕ → Told Rolls
rolls_told input (Some k) = answer (record { generators = take (k - 4) (drop 4 input); elements = drop k input })
rolls_told input None = refused 1 0

-- the element roll starts within an input of n bytes
abbrev pub SplitWithin : ℕ → Option ℕ → Type 0
SplitWithin n (Some k) = (4 ≤ k) × (k ≤ n)
SplitWithin n None = Unit {0}
