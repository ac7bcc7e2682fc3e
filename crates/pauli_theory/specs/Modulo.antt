-- `modulo` and `try_quotient`, by the steps of the source.
use Rattle.std.specs.Prelude.{cond, List, [], ◌∷◌, map, ℕ, ◌%◌, ltb, length, get_or}
use Rattle.std.proofs.Math.Option.{Option, some}
use Rattle.binar.specs.Row.{bit, if_bit}
use Rattle.pauli.specs.Pauli.{Pauli, times}
use Rattle.pauli_theory.specs.Group.{Promise}
use Rattle.pauli_theory.specs.Standard.{support_of, form_of, standard, phase_step, exponent_mod}
use Rattle.pauli_theory.specs.Order.{Order, equal, less, greater, no_order, partial_cmp}

-- `supports_x` or `supports_z` on the pivot's qubit: "column p is X at place p, column s + p is Z, where s is the support's size".
-- 1 if p has a one there, else 0
unfoldable pub supports_other : List ℕ → ℕ → Pauli → ℕ
supports_other support pivot p =
    let qubit = get_or support (pivot % length support) 0 in
    cond (ltb pivot (length support)) (bit p.x qubit) (bit p.z qubit)

-- `if supports_other(generator, pivot_qubit) { *generator *= other_generator; }`
unfoldable pub multiplied : List ℕ → ℕ → Pauli → Pauli → Pauli
multiplied support pivot other g = if_bit (supports_other support pivot g) (times g other) g

-- the other's standard generators zipped with its pivots, in turn; for each of them every generator
unfoldable pub multiplied_by_all : List ℕ → List Pauli → List ℕ → List Pauli → List Pauli
multiplied_by_all support [] pivots gs = gs
multiplied_by_all support (other ∷ others) [] gs = gs
multiplied_by_all support (other ∷ others) (pivot ∷ pivots) gs = multiplied_by_all support others pivots (map (multiplied support pivot other) gs)

-- `modulo` of the list gs by the other, hs, whose promise is given. The exponents at the end go mod the least of 4 - e over the
-- other's phases e: these are the multiples, below 4, of `phase_step`, so that it is `phase_step`
unfoldable pub modulo : Promise → List Pauli → List Pauli → List Pauli
modulo promise gs hs =
    let modulus = phase_step promise hs in
    map (exponent_mod modulus) (multiplied_by_all (support_of hs) (standard hs) (form_of hs).pivots (standard gs))

-- "divisor not a subgroup: `partial_cmp` gives neither less nor equal for it"
unfoldable pub if_below {ℓ} : {X : Type ℓ} → Order → X → Option X
if_below equal x = some x
if_below less x = some x
if_below greater x = Option.none
if_below no_order x = Option.none

-- `try_quotient` of the list gs by the divisor hs
unfoldable pub try_quotient : Promise → Promise → List Pauli → List Pauli → Option (List Pauli)
try_quotient promise divisor_promise gs hs = if_below (partial_cmp divisor_promise promise hs gs) (modulo divisor_promise gs hs)
