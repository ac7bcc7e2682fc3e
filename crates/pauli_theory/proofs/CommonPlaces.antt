-- The common basis by products over places: the rows of the products are the sums of rows, and the rows of the reduced form.
use mathlib.Core.Path.{◌≡◌, sym, ap, ap₂, ◌∙◌}
use mathlib.Core.List.{List, [], ◌∷◌, ◌++◌, map, map-append, map-map}
use Prim.Native.Nat.{ℕ, suc, ◌+◌, ◌-◌, ◌*◌, ◌/◌, ◌%◌, ◌^◌, ◌≤◌, ◌<◌}
use native.Mathlib.Omega.{arith}
use lib.ListN.{length}
use lib.Pow.{field, mod-mod-pow}
use Rattle.binar.specs.Row.{if_bit, row_sum}
use Rattle.binar.specs.Echelon.{Row, echelon}
use Rattle.binar.proofs.Lists.{all_of, all_map, all_left, all_over, map_same}
use Rattle.binar.proofs.echelon.Span.{row_sum_mod}
use Rattle.pauli.specs.Support.{All, Rising}
use Rattle.pauli.specs.Pauli.{Pauli, I, normal, times, select, indexed_product}
use Rattle.pauli.specs.Sets.{row_of, pauli_of_row}
use Rattle.pauli.specs.PauliTheorems.{PauliOn}
use Rattle.pauli.specs.Condense.{condensed}
use Rattle.pauli.specs.Writing.{OnPlaces}
use Rattle.pauli.proofs.signed.Algebra.{normal_lt}
use Rattle.pauli.proofs.signed.Products.{product_none, indexed_cons}
use Rattle.pauli.proofs.condense.Rows.{row_back}
use Rattle.pauli_theory.specs.Standard.{support_of, zero_rows, nonzero_rows, standard}
use Rattle.pauli_theory.specs.Common.{dependencies, common_sums, common_rows, common_basis, with_exponent}
use Rattle.pauli_theory.specs.Inner.CommonPlaces.{dependency_products, basis_products, common_products}
use Rattle.pauli_theory.specs.Inner.ModuloPlaces.{moved_pauli}
use Rattle.pauli_theory.proofs.Agree.{indexed_in}
use Rattle.pauli_theory.proofs.Products.{indexed_lt, indexed_zero}
use Rattle.pauli_theory.proofs.Form.{rows_split, pivot_rows_are, zero_rows_are, rows_made}
use Rattle.pauli_theory.proofs.Rows.{row_indexed, rows_narrow, on_subgroup, support_rises}
use Rattle.pauli_theory.proofs.StandardLaw.{standard_law}
use Rattle.pauli_theory.proofs.Placed.{condensed_on, condensed_indexed}
use Rattle.pauli_theory.proofs.OverPlaces.{placed}
use Rattle.pauli_theory.proofs.ModuloPlaces.{joined, left_standard_on, moved_standard}

-- ---- the Paulis of the first of two lists that a set names
pub first_product : (t : ℕ) (ps rs : List Pauli) → indexed_product (t % 2 ^ length ps) (ps ++ rs) ≡ indexed_product t ps
unfolding indexed_product select
first_product t [] rs =
    let none : t % 2 ^ 0 ≡ 0 = omega arith in
    ap (λ (s : ℕ). indexed_product s rs) none ∙ indexed_zero rs ∙ sym product_none
first_product t (p ∷ ps) rs =
    let n = length ps in
    let more : suc n ≡ n + 1 = omega arith in
    let low : t % 2 ^ suc n % 2 ≡ t % 2 = ap (λ (k : ℕ). t % 2 ^ k % 2) more ∙ mod-mod-pow t n 1 in
    let high : t % 2 ^ suc n / 2 ≡ t / 2 % 2 ^ n = ap (λ (k : ℕ). t % 2 ^ k / 2) more ∙ field t n 1 in
    indexed_cons (t % 2 ^ suc n) p (ps ++ rs)
    ∙ ap₂ (λ (d s : ℕ). times (if_bit d p I) (indexed_product s (ps ++ rs))) low high
    ∙ ap (times (if_bit (t % 2) p I)) (first_product (t / 2) ps rs) ∙ sym (indexed_cons t p ps)

-- a set whose numbers from k on do not matter
pub product_mod : (t k : ℕ) (ps : List Pauli) → length ps ≤ k → indexed_product (t % 2 ^ k) ps ≡ indexed_product t ps
product_mod t k ps h =
    let n = length ps in
    let parts : k ≡ k - n + n = omega arith in
    let same : t % 2 ^ k % 2 ^ n ≡ t % 2 ^ n = ap (λ (j : ℕ). t % 2 ^ j % 2 ^ n) parts ∙ mod-mod-pow t (k - n) n in
    sym (first_product (t % 2 ^ k) ps []) ∙ ap (λ (s : ℕ). indexed_product s (ps ++ [])) same ∙ first_product t ps []

-- ---- Paulis on rising qubits, with exponents by value, over places
module _ (qs : List ℕ) (rises : Rising 0 qs) where
  abbrev places : List Pauli → List Pauli
  places ps = map (condensed qs) ps

  pub rows_of_places : (ps : List Pauli) → map (λ p. p.x + 2 ^ length qs * p.z) (places ps) ≡ map (row_of qs) ps
  unfolding row_of condensed
  rows_of_places ps = map-map (λ p. p.x + 2 ^ length qs * p.z) (condensed qs) ps

  pub indexed_places : (s : ℕ) (ps : List Pauli) → All (PauliOn qs) ps → All (λ p. p.e < 4) ps
      → indexed_product s (places ps) ≡ condensed qs (indexed_product s ps)
  unfolding condensed
  indexed_places s ps on low =
      ap (indexed_product s)
      (map_same (condensed qs) (λ p. normal (condensed qs p)) ps (all_map (λ p l. sym (normal_lt (condensed qs p) l)) ps low))
      ∙ condensed_indexed qs rises s ps on

  -- the products that rows of T name
  products_places : (ps : List Pauli) → All (PauliOn qs) ps → All (λ p. p.e < 4) ps → (rows : List Row)
      → map (λ q. indexed_product q.t (places ps)) rows ≡ places (map (λ q. indexed_product q.t ps) rows)
  products_places ps on low rows =
      map_same (λ q. indexed_product q.t (places ps)) (λ q. condensed qs (indexed_product q.t ps)) rows
      (all_of (λ q. indexed_places q.t ps on low) rows)
      ∙ sym (map-map (condensed qs) (λ q. indexed_product q.t ps) rows)

  module _ (ps : List Pauli) (rows : List Row) where
    products_on : All (PauliOn qs) ps → All (PauliOn qs) (map (λ q. indexed_product q.t ps) rows)
    products_on on =
        all_over (PauliOn qs) (λ q. indexed_product q.t ps) rows (all_of (λ q. indexed_in (on_subgroup qs 4) ps on q.t) rows)

    products_low : All (λ p. p.e < 4) (map (λ q. indexed_product q.t ps) rows)
    products_low = all_over (λ p. p.e < 4) (λ q. indexed_product q.t ps) rows (all_of (λ q. indexed_lt q.t ps) rows)

    products_rows : map (row_of qs) (map (λ q. indexed_product q.t ps) rows) ≡ map (λ q. row_sum q.t (map (row_of qs) ps)) rows
    products_rows =
        map-map (row_of qs) (λ q. indexed_product q.t ps) rows
        ∙ map_same (λ q. row_of qs (indexed_product q.t ps)) (λ q. row_sum q.t (map (row_of qs) ps)) rows
        (all_of (λ q. row_indexed qs q.t ps) rows)

  -- ---- the products of the pivot rows
  module _ (ps : List Pauli) (on : All (PauliOn qs) ps) (low : All (λ p. p.e < 4) ps) where
    abbrev pivot_rows_of : List Row
    pivot_rows_of = nonzero_rows (echelon (2 * length qs) (map (row_of qs) ps)).rows

    basis_products_lem : basis_products (length qs) (places ps) ≡ places (map (λ q. indexed_product q.t ps) pivot_rows_of)
    unfolding basis_products
    basis_products_lem =
        rw (rows_of_places ps, ← pivot_rows_are (2 * length qs) (map (row_of qs) ps)) (products_places ps on low pivot_rows_of)

    -- without exponents they are the Paulis of these rows
    basis_sets : map (with_exponent 0) (basis_products (length qs) (places ps)) ≡ places (map (λ q. pauli_of_row qs 0 q.r) pivot_rows_of)
    unfolding with_exponent condensed
    basis_sets =
        let c = 2 * length qs in
        let A = map (row_of qs) ps in
        let P : Row → Pauli = λ q. indexed_product q.t ps in
        let made = all_left (λ q. row_sum q.t A ≡ q.r) pivot_rows_of (zero_rows (echelon c A).rows)
        (rw (rows_split c A) (rows_made c A (rows_narrow qs ps))) in
        ap (map (with_exponent 0)) (basis_products_lem ∙ map-map (condensed qs) P pivot_rows_of) ∙ map-map (with_exponent 0) (λ q. condensed qs (P q)) pivot_rows_of
        ∙ map_same (λ q. with_exponent 0 (condensed qs (P q))) (λ q. condensed qs (pauli_of_row qs 0 q.r)) pivot_rows_of
        (all_map (λ q e. ap (condensed qs)
        (sym (row_back qs rises 0 (P q) (indexed_in (on_subgroup qs 4) ps on q.t)) ∙ ap (pauli_of_row qs 0) (row_indexed qs q.t ps ∙ e)))
        pivot_rows_of made)
        ∙ sym (map-map (condensed qs) (λ q. pauli_of_row qs 0 q.r) pivot_rows_of)

  -- ---- the products beside the zero rows of two lists stacked
  module _ (ps rs : List Pauli) (on : All (PauliOn qs) ps) (low : All (λ p. p.e < 4) ps) where
    abbrev A : List ℕ
    A = map (row_of qs) ps

    abbrev B : List ℕ
    B = map (row_of qs) rs

    abbrev zero_rows_of : List Row
    zero_rows_of = zero_rows (echelon (2 * length qs) (A ++ B)).rows

    abbrev dependency_paulis : List Pauli
    dependency_paulis = map (λ q. indexed_product q.t ps) zero_rows_of

    pub stacked : map (λ p. p.x + 2 ^ length qs * p.z) (places ps ++ places rs) ≡ A ++ B
    stacked = map-append (λ p. p.x + 2 ^ length qs * p.z) (places ps) (places rs) ∙ ap₂ ◌++◌ (rows_of_places ps) (rows_of_places rs)

    dependency_products_lem : dependency_products (length qs) (places ps) (places rs) ≡ places dependency_paulis
    unfolding dependency_products
    dependency_products_lem = rw (stacked, ← zero_rows_are (2 * length qs) (A ++ B)) (products_places ps on low zero_rows_of)

    pub dependency_on : OnPlaces (length qs) (dependency_products (length qs) (places ps) (places rs))
    dependency_on = rw dependency_products_lem (condensed_on qs dependency_paulis)

    dependency_rows : map (row_of qs) dependency_paulis ≡ common_sums (2 * length qs) A B
    unfolding common_sums dependencies
    dependency_rows =
        products_rows ps zero_rows_of
        ∙ map_same (λ q. row_sum q.t A) (λ q. row_sum (q.t % 2 ^ length A) A) zero_rows_of (all_of (λ q. sym (row_sum_mod q.t A)) zero_rows_of)
        ∙ sym (map-map (λ s. row_sum s A) (λ q. q.t % 2 ^ length A) zero_rows_of)

    pub common_sets : map (with_exponent 0) (common_products (length qs) (places ps) (places rs))
        ≡ places (map (pauli_of_row qs 0) (common_rows (2 * length qs) A B))
    unfolding common_products common_rows
    common_sets =
        ap (λ us. map (with_exponent 0) (basis_products (length qs) us)) dependency_products_lem
        ∙ basis_sets dependency_paulis (products_on ps zero_rows_of on) (products_low ps zero_rows_of)
        ∙ ap (λ (M : List ℕ). places (map (λ q. pauli_of_row qs 0 q.r) (nonzero_rows (echelon (2 * length qs) M).rows))) dependency_rows
        ∙ ap places (sym (map-map (pauli_of_row qs 0) (λ q. q.r) (nonzero_rows (echelon (2 * length qs) (common_sums (2 * length qs) A B)).rows)))

-- ---- the common basis of two lists over the places of the joined support
module _ (gs hs : List Pauli) where
  -- what the places hold after the two reductions
  abbrev pub basis_places : List Pauli
  basis_places =
      common_products (length (joined gs hs)) (map (moved_pauli (support_of gs) (joined gs hs)) (standard (placed gs)))
      (map (moved_pauli (support_of hs) (joined gs hs)) (standard (placed hs)))

  pub places_basis : map (with_exponent 0) basis_places ≡ map (condensed (joined gs hs)) (common_basis gs hs)
  unfolding common_basis
  places_basis =
      let qs = joined gs hs in
      rw (moved_standard gs qs, moved_standard hs qs)
      (common_sets qs (support_rises (gs ++ hs)) (standard gs) (standard hs) (left_standard_on gs hs) (standard_law gs).values)
