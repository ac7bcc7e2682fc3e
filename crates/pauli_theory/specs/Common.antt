-- What the common part of two groups is made from, by the steps of the source. The common part itself is in WholeCommon.
use Rattle.std.specs.Prelude.{List, [], ◌∷◌, ◌++◌, map, ℕ, zero, suc, ◌*◌, ◌%◌, ◌^◌, max, length}
use Rattle.std.proofs.Math.Option.{Option, some, none}
use Rattle.binar.specs.Row.{row_sum}
use Rattle.binar.specs.Echelon.{echelon}
use Rattle.pauli.specs.Pauli.{Pauli, phase}
use Rattle.pauli.specs.Sets.{row_of, pauli_of_row}
use Rattle.pauli_theory.specs.Group.{Promise}
use Rattle.pauli_theory.specs.Standard.{support_of, if_zero, zero_rows, nonzero_rows, standard, phase_step}
use Rattle.pauli_theory.specs.Membership.{Factorization, factorization_of}
use Rattle.pauli_theory.specs.Order.{Order, equal, less, greater, no_order}

-- ---- `row_space_intersection_with` of the matrices A and B, of c columns

-- "Rows of T beyond the rank": the sets of rows of A stacked on B that sum to zero. "Extract their first r_A entries": of each the
-- rows of A
unfoldable pub dependencies : ℕ → List ℕ → List ℕ → List ℕ
dependencies c A B = map (λ q. q.t % 2 ^ length A) (zero_rows (echelon c (A ++ B)).rows)

-- "Multiply by A"
unfoldable pub common_sums : ℕ → List ℕ → List ℕ → List ℕ
common_sums c A B = map (λ s. row_sum s A) (dependencies c A B)

-- "Echelonize the result to get a proper basis"
unfoldable pub common_rows : ℕ → List ℕ → List ℕ → List ℕ
common_rows c A B = map (λ q. q.r) (nonzero_rows (echelon c (common_sums c A B)).rows)

-- `phase_insensitive_intersection_of`: a basis of the rows that both lists' standard generators span, over the support of the two
-- joined, as Paulis with exponent 0
unfoldable pub common_basis : List Pauli → List Pauli → List Pauli
common_basis gs hs =
    let qs = support_of (gs ++ hs) in
    map (pauli_of_row qs 0) (common_rows (2 * length qs) (map (row_of qs) (standard gs)) (map (row_of qs) (standard hs)))

-- ---- `common_phase_variant_of`

unfoldable pub with_exponent : ℕ → Pauli → Pauli
with_exponent e p = record { e = e; x = p.x; z = p.z }

-- "group1.contains(&candidate) && group2.contains(&candidate)": x if both have a factorization, else y
unfoldable pub if_both {ℓ} : {X : Type ℓ} → Option Factorization → Option Factorization → X → X → X
if_both none g x y = y
if_both (some f) none x y = y
if_both (some f) (some g) x y = x

-- the first of the n exponents e, e + 1, .. with which both groups contain p
unfoldable pub common_phase_from : Promise → Promise → List Pauli → List Pauli → Pauli → ℕ → ℕ → Option Pauli
common_phase_from left right gs hs p zero e = none
common_phase_from left right gs hs p (suc n) e =
    let candidate = with_exponent e p in
    if_both (factorization_of left gs candidate) (factorization_of right hs candidate) (some candidate)
    (common_phase_from left right gs hs p n (suc e))

-- "Tests phases 0, 1, 2, 3 in order and returns the first that's in both groups"
unfoldable pub common_phase : Promise → Promise → List Pauli → List Pauli → Pauli → Option Pauli
common_phase left right gs hs p = common_phase_from left right gs hs p 4 0

-- ---- `bitand`

unfoldable pub cons_some {ℓ} : {X : Type ℓ} → Option X → List X → List X
cons_some none xs = xs
cons_some (some x) xs = x ∷ xs

-- "Its phase generators come from a hash set; ours rise": of the n exponents e, e + 1, .. those in both lists of phases, which are
-- the multiples of a and of b
unfoldable pub phases_from : ℕ → ℕ → ℕ → ℕ → List Pauli
phases_from a b zero e = []
phases_from a b (suc n) e = if_zero (max (e % a) (e % b)) (phase e ∷ phases_from a b n (suc e)) (phases_from a b n (suc e))

unfoldable pub common_phases : Promise → Promise → List Pauli → List Pauli → List Pauli
common_phases left right gs hs = phases_from (phase_step left gs) (phase_step right hs) 4 0

-- `match self.partial_cmp(other)`: the lesser of the two, where they compare
unfoldable pub lesser {ℓ} : {X : Type ℓ} → Order → X → X → X → X
lesser equal self other x = self
lesser less self other x = self
lesser greater self other x = other
lesser no_order self other x = x
