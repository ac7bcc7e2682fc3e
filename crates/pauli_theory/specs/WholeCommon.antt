-- The whole common part of two groups: document 02, L7. "Abelian promises of both lists are set aside in this operation": there are none.
use Rattle.std.specs.Prelude.{List, [], ◌∷◌, ◌++◌}
use Rattle.std.proofs.Math.Option.{Option, some, none}
use Rattle.pauli.specs.Pauli.{Pauli, times}
use Rattle.pauli_theory.specs.Group.{Promise}
use Rattle.pauli_theory.specs.Standard.{standard}
use Rattle.pauli_theory.specs.Order.{partial_cmp}
use Rattle.pauli_theory.specs.Common.{common_basis, common_phase, cons_some, common_phases, lesser}

-- the first of two that is there
unfoldable pub or_else {ℓ} : {X : Type ℓ} → Option X → Option X → Option X
or_else none o = o
or_else (some x) o = some x

-- x, unless the other is there
unfoldable pub if_none {ℓ} : {X : Type ℓ} → Option X → X → Option X
if_none none x = some x
if_none (some y) x = none

-- ---- the elements that are kept: f gives an element its shared phase, if it has one, and mul multiplies two elements

-- p times the first element that has no shared phase, if there was one before p, with its shared phase
unfoldable pub paired : (Pauli → Option Pauli) → (Pauli → Pauli → Pauli) → Option Pauli → Pauli → Option Pauli
paired f mul none p = none
paired f mul (some first) p = f (mul p first)

-- of the elements ps each that has a shared phase, with it; and of those that have none, each but the first times that first one. It
-- is in the option, if it stood before ps
unfoldable pub kept_from : (Pauli → Option Pauli) → (Pauli → Pauli → Pauli) → Option Pauli → List Pauli → List Pauli
kept_from f mul first [] = []
kept_from f mul first (p ∷ ps) = cons_some (or_else (f p) (paired f mul first p)) (kept_from f mul (or_else first (if_none (f p) p)) ps)

-- the first element with no shared phase, once ps are looked at
unfoldable pub first_from : (Pauli → Option Pauli) → Option Pauli → List Pauli → Option Pauli
first_from f first [] = first
first_from f first (p ∷ ps) = first_from f (or_else first (if_none (f p) p)) ps

-- ---- the common part

-- "the common part is every element that is a member of both, and nothing else": this list generates it
unfoldable pub whole_part : List Pauli → List Pauli → List Pauli
whole_part gs hs =
    kept_from (common_phase Promise.none Promise.none gs hs) times none (common_basis gs hs) ++ common_phases Promise.none Promise.none gs hs

-- "Where neither group holds the other it comes back as standard generators; otherwise the smaller list as before"
unfoldable pub whole_common : List Pauli → List Pauli → List Pauli
whole_common gs hs = lesser (partial_cmp Promise.none Promise.none gs hs) gs hs (standard (whole_part gs hs))
