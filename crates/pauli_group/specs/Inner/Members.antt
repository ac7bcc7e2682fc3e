-- Membership in the work area.
use Rattle.std.specs.Prelude.{◌≡◌, ℕ, Option as CodeOption, Some, None, Bool, true, false, cond, List, [], ◌∷◌, length, take, nat_lt}
use Rattle.std.proofs.Math.Option.{Option, some, none}
use Rattle.pauli.specs.Pauli.{Pauli}
use Rattle.pauli.specs.Known.{place_of}
use Rattle.pauli.specs.PlaceSet.{set_in}
use Rattle.pauli.specs.declared.places.Places.{Places}
use Rattle.pauli_theory.specs.Group.{Promise}
use Rattle.pauli_theory.specs.Membership.{Factorization}
use Rattle.pauli_theory.specs.Standard.{phase_step}
use Rattle.pauli_group.specs.Inner.Groups.{Grouped}
use Rattle.pauli_group.specs.declared.member.IndexSet.{IndexSet}

-- whether all numbers of a list are in the support qs
unfoldable pub covered : List ℕ → List ℕ → Bool
covered qs [] = true
covered qs (n ∷ ns) = cond (nat_lt (place_of qs n) (length qs)) (covered qs ns) false

-- the set that solving gives
abbrev pub set_told : CodeOption Places → Option ℕ
set_told (Some s) = some (set_in s)
set_told None = none

-- the index set and the exponent that the code holds
abbrev pub factors_told : IndexSet → Factorization
factors_told f = record { indexes = set_in f.set; exponent = f.exponent }

abbrev pub factoring_told : CodeOption IndexSet → Option Factorization
factoring_told (Some f) = some (factors_told f)
factoring_told None = none

-- a list of n Paulis and a promise that an element is put to: the group of the list is in the area x, as in `Grouped`, the first
-- numbers of `known` are its support, and its phases have this step
pub record Asked (known x : List ℕ) (n places rank total step : ℕ) : Type 0 where
  pub list : List Pauli
  pub promise : Promise
  pub size : n ≡ length list
  pub grouped : Grouped list (take places known) x places rank total
  pub step_is : step ≡ phase_step promise list
