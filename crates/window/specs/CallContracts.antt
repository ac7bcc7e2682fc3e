-- What making a window and sending promise: the answer, and the window's bytes at exit. The four questions promise what the calls of
-- `pauli_group` do of the roll in the window, without promise (StandardCall, RankCall, PhasesCall, MemberCall).
use Rattle.std.specs.Prelude.{◌≡◌, ℕ, List, Result}
use Rattle.pauli.specs.Refusals.{told_of}
use Rattle.pauli.specs.Told.{map_told}
use Rattle.pauli.specs.declared.refusal.Refusal.{Refusal}
use Rattle.window.specs.History.{or_same}
use Rattle.window.specs.Layout.{front, made, sent}

pub record MakeCall (w : List ℕ) (width : ℕ) (r : Result Unit Refusal) (w' : List ℕ) : Type 0 where
  pub told : told_of r ≡ map_told (λ bytes. tt) (made (front w) width)
  pub left : front w' ≡ or_same (front w) (made (front w) width)

pub record SendCall (w b : List ℕ) (r : Result Unit Refusal) (w' : List ℕ) : Type 0 where
  pub told : told_of r ≡ map_told (λ bytes. tt) (sent (front w) b)
  pub left : front w' ≡ or_same (front w) (sent (front w) b)
