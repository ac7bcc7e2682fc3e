-- The whole common part of two groups, in the work area.
use Rattle.std.specs.Prelude.{ℕ, zero, suc, ◌+◌, ◌*◌, Option as CodeOption, Some, None, List, [], ◌∷◌, ◌++◌, map, slice_index}
use Rattle.std.proofs.Math.Option.{Option, some, none}
use Rattle.pauli.specs.Pauli.{Pauli, normal}
use Rattle.pauli.specs.Signed.{held, pauli_in}
use Rattle.pauli.specs.declared.signed.Pauli.{Pauli as Held}
use Rattle.pauli_theory.specs.Group.{Promise}
use Rattle.pauli_theory.specs.Standard.{support_of, phase_step}
use Rattle.pauli_theory.specs.Common.{phases_from}
use Rattle.pauli_theory.specs.WholeCommon.{kept_from}
use Rattle.pauli_theory.specs.Inner.WholePlaces.{noted_both, shared_pauli, times_noted}
use Rattle.pauli_group.specs.Inner.Area.{further_at}
use Rattle.pauli_group.specs.Inner.Shared.{basis_over, exponent_for}
use Rattle.pauli_group.specs.declared.noted.Noted.{Noted}

-- the element that is held, its two exponents noted in its own
unfoldable pub noted_in : Noted → Pauli
noted_in n = noted_both n.left n.right (held n.pauli)

-- the first element with no shared exponent, if there was one
unfoldable pub first_told : CodeOption Noted → Option Pauli
first_told None = none
first_told (Some n) = some (noted_in n)

-- what is kept of an element, its exponent by value
unfoldable pub pauli_told : CodeOption Held → Option Pauli
pauli_told None = none
pauli_told (Some p) = some (normal (held p))

-- the first n Paulis of the further list in the area x, with the exponents us and vs noted
unfoldable pub noted_list : List ℕ → List ℕ → List ℕ → ℕ → List Pauli
noted_list us vs x zero = []
noted_list us vs x (suc n) = noted_list us vs x n ++ noted_both (slice_index us n) (slice_index vs n) (pauli_in x (further_at + 5 * n)) ∷ []

-- what the places of the joined support hold before the standard generators of the whole common part are made
unfoldable pub whole_over : List Pauli → List Pauli → List Pauli
whole_over gs hs =
    let qs = support_of (gs ++ hs) in
    let a = phase_step Promise.none gs in
    let b = phase_step Promise.none hs in
    kept_from (shared_pauli a b) times_noted none (map (λ p. noted_both (exponent_for qs gs p) (exponent_for qs hs p) p) (basis_over gs hs)) ++ phases_from a b 4 0
