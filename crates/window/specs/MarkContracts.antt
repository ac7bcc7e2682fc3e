-- What the calls on marks promise: the answer, and all bytes at exit.
use Rattle.std.specs.Prelude.{◌≡◌, ℕ, List, Result}
use Rattle.pauli.specs.Refusals.{told_of}
use Rattle.pauli.specs.Told.{map_told}
use Rattle.pauli.specs.declared.refusal.Refusal.{Refusal}
use Rattle.window.specs.History.{or_same}
use Rattle.window.specs.MarkLayout.{round_in, saved, returned, deleted}

pub record SaveCall (w name : List ℕ) (r : Result Unit Refusal) (w' : List ℕ) : Type 0 where
  pub told : told_of r ≡ map_told (λ bytes. tt) (saved w name)
  pub left : w' ≡ or_same w (saved w name)

pub record ReturnCall (w name : List ℕ) (r : Result Unit Refusal) (w' : List ℕ) : Type 0 where
  pub told : told_of r ≡ map_told (λ bytes. tt) (returned w name)
  pub left : w' ≡ or_same w (returned w name)

pub record DeleteCall (w name : List ℕ) (r : Result Unit Refusal) (w' : List ℕ) : Type 0 where
  pub told : told_of r ≡ map_told (λ bytes. tt) (deleted w name)
  pub left : w' ≡ or_same w (deleted w name)

-- a question: it changes no byte
pub record RoundCall (w : List ℕ) (r : ℕ) : Type 0 where
  pub told : r ≡ round_in w
