-- What is proved of claims, for every list of Paulis and every element. Each statement is a type; its proof is in proofs/.
use Rattle.std.specs.Prelude.{◌≡◌, ◌⊎◌, true, List, [], ◌∷◌, ℕ, ◌<◌, length}
use mathlib.Core.List.{Memᴰ as Mem}
use Rattle.std.proofs.Math.Option.{some, none}
use Rattle.pauli.specs.Pauli.{Pauli, Same, turned, anticommute, indexed_product}
use Rattle.pauli.specs.PauliTheorems.{PauliOn}
use Rattle.pauli.specs.Sets.{set_of}
use Rattle.pauli.specs.Support.{All, Rising}
use Rattle.pauli_theory.specs.Claims.{Claim, well_formed, member_accepted, absence_accepted, claim_of, InSpan}
use Rattle.pauli_theory.specs.Group.{Generated, Promise, Honest}
use Rattle.pauli_theory.specs.Membership.{Factorization, factorization_of}
use Rattle.pauli_theory.specs.Standard.{support_of, phases_of}

-- 1. What the tests say
pub record ClaimTests (promise : Promise) (gs : List Pauli) (p : Pauli) (c : Claim) : Type 0 where
  pub formed_right : well_formed gs c ≡ true → Rising 0 c.indexes × All (λ i. i < length gs) c.indexes × (c.exponent < 4)
  pub formed_only : Rising 0 c.indexes → All (λ i. i < length gs) c.indexes → c.exponent < 4 → well_formed gs c ≡ true
  -- the power is among the group's phases, as the call `phases` tells them
  pub member_right : c.exponent < 4 → member_accepted promise gs p c ≡ true
      → Same (turned c.exponent (indexed_product (set_of c.indexes) gs)) p × Mem c.exponent (phases_of promise gs)
  pub member_only : Same (turned c.exponent (indexed_product (set_of c.indexes) gs)) p → Mem c.exponent (phases_of promise gs)
      → member_accepted promise gs p c ≡ true

pub record AbsenceTest (gs : List Pauli) (p w : Pauli) : Type 0 where
  pub absence_right : absence_accepted gs p w ≡ true → All (λ g. anticommute w g ≡ 0) gs × (anticommute w p ≡ 1)
  pub absence_only : All (λ g. anticommute w g ≡ 0) gs → anticommute w p ≡ 1 → absence_accepted gs p w ≡ true

-- 2. "an accepted claim agrees with membership; each member has an acceptable claim", for an absent or a true promise
pub record MemberClaimLaw (promise : Promise) (gs : List Pauli) (p : Pauli) : Type 0 where
  pub generated : (c : Claim) → member_accepted promise gs p c ≡ true → Generated gs p
  pub member : (c : Claim) → member_accepted promise gs p c ≡ true → (f : Factorization) × (factorization_of promise gs p ≡ some f)
  -- what membership tells is one
  pub acceptable : (f : Factorization) → factorization_of promise gs p ≡ some f
      → (well_formed gs (claim_of f) ≡ true) × (member_accepted promise gs p (claim_of f) ≡ true)

-- a Pauli that shows that p is not in the group, and that fits a roll of its own: it lies on the list's qubits, or on one of p's
pub record Witness (gs : List Pauli) (p : Pauli) : Type 0 where
  pub pauli : Pauli
  pub accepted : absence_accepted gs p pauli ≡ true
  pub value : pauli.e < 4
  pub on : PauliOn (support_of gs) pauli ⊎ ((q : ℕ) × Mem q (support_of (p ∷ [])) × PauliOn (q ∷ []) pauli)

-- 3. An accepted claim of absence agrees with membership, whose promise is absent or true; "so has each element whose bits lie outside
-- the span" an acceptable claim
pub record AbsenceClaimLaw (gs : List Pauli) (p : Pauli) : Type 0 where
  pub absent : (w : Pauli) → absence_accepted gs p w ≡ true → Generated gs p → ⊥
  pub not_member : (w : Pauli) → absence_accepted gs p w ≡ true → (promise : Promise) → Honest promise gs → factorization_of promise gs p ≡ none
  pub outside : (w : Pauli) → absence_accepted gs p w ≡ true → InSpan gs p → ⊥
  pub has_claim : (InSpan gs p → ⊥) → Witness gs p

-- 4. The bits are inside the span exactly when some power of i times the element is in the group; and it is decided
pub record SpanLaw (gs : List Pauli) (p : Pauli) : Type 0 where
  pub in_span : InSpan gs p → (k : ℕ) × (k < 4) × Generated gs (turned k p)
  pub only : (k : ℕ) → Generated gs (turned k p) → InSpan gs p
  pub decided : InSpan gs p ⊎ (InSpan gs p → ⊥)
