-- Membership: `indexed_factorization_of`, document 01, "Group".
use Rattle.std.specs.Prelude.{cond, List, [], ◌∷◌, ℕ, ◌+◌, ◌-◌, ◌*◌, ◌%◌, eqb, length}
use Rattle.std.proofs.Math.Option.{Option, some, none}
use Rattle.std.specs.Int.Bits.{bit_or}
use Rattle.binar.specs.Row.{◌⊕◌}
use Rattle.binar.specs.Solve.{transpose_solve}
use Rattle.pauli.specs.Pauli.{Pauli, indexed_product}
use Rattle.pauli.specs.Sets.{row_of}
use Rattle.pauli_theory.specs.Group.{Promise}
use Rattle.pauli_theory.specs.Standard.{used_by, support_of, form_of, if_zero, phases_of}

-- the index set, as a number, and the exponent left
pub record Factorization : Type 0 where
  pub indexes : ℕ
  pub exponent : ℕ

-- the qubits of p that the list does not use
unfoldable pub outside : List Pauli → Pauli → ℕ
outside gs p = bit_or (used_by gs) (bit_or p.x p.z) ⊕ used_by gs

-- "e, the element's value less the product's, mod 4"
unfoldable pub exponent_left : Pauli → Pauli → ℕ
exponent_left p product = (p.e % 4 + 4 - product.e) % 4

-- x if e is among the numbers ks, else y
unfoldable pub if_among {ℓ} : {X : Type ℓ} → ℕ → List ℕ → X → X → X
if_among e [] x y = y
if_among e (k ∷ ks) x y = cond (eqb e k) x (if_among e ks x y)

-- "the index set and e [..], if e is among the phases; else none"
unfoldable pub with_phase : Promise → List Pauli → Pauli → Option ℕ → Option Factorization
with_phase promise gs p none = none
with_phase promise gs p (some s) =
    let e = exponent_left p (indexed_product s gs) in
    if_among e (phases_of promise gs) (some (record { indexes = s; exponent = e })) none

-- "none if the support sticks out or the bits don't solve"
unfoldable pub factorization_of : Promise → List Pauli → Pauli → Option Factorization
factorization_of promise gs p =
    let qs = support_of gs in
    if_zero (outside gs p) (with_phase promise gs p (transpose_solve (2 * length qs) (form_of gs) (row_of qs p))) none
