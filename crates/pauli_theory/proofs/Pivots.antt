-- The products of generators that the rows of T name. Beside zero rows they are powers of i; beside pivot rows they have the pivot
-- rows. What holds of the products of all sets of generators is decided by them.
use mathlib.Core.Path.{◌≡◌, sym, ap, ap₂, ◌∙◌}
use mathlib.Core.List.{List, ◌++◌, map, map-map}
use Prim.Native.Nat.{ℕ, ◌+◌, ◌*◌, ◌%◌, ◌^◌, ◌<◌}
use native.Mathlib.Omega.{arith}
use lib.ListN.{length, get_or, length-map}
use lib.Pow.{pow-lt}
use Rattle.binar.specs.Row.{dot, row_sum}
use Rattle.binar.specs.Space.{RowSpace, Independent}
use Rattle.binar.proofs.row.Bits.{dot_zero_l}
use Rattle.binar.proofs.Lists.{all_map, all_zip, all_join, all_left, all_right, all_get, all_by, all_under, map_same}
use Rattle.binar.proofs.echelon.Span.{Subspace}
use Rattle.pauli.specs.Support.{All}
use Rattle.pauli.specs.Pauli.{Pauli, I, anticommute, order_four, indexed_product}
use Rattle.pauli.specs.Sets.{row_of, pauli_of_row}
use Rattle.pauli.proofs.signed.Algebra.{anticommute_comm, order_four-I, order_four_times}
use Rattle.pauli.proofs.condense.Rows.{row_back, on-I}
use Rattle.pauli_theory.specs.Group.{Generated}
use Rattle.pauli_theory.specs.Standard.{support_of, form_of, rank, phase_of, zero_rows, nonzero_rows, modulus, row_generators, exponent_mod}
use Rattle.pauli_theory.proofs.Agree.{two, four, Agree, agree_path, agree_join, agree_weaker, agree_normal}
use Rattle.pauli_theory.proofs.Group.{generated_in, generated_indexed}
use Rattle.pauli_theory.proofs.Products.{indexed_unit, indexed_zero, indexed_times, indexed_subspace, covers_two, anticommute_agree, anticommute_unit, commuting_subgroup}
use Rattle.pauli_theory.proofs.Form.{rows_split, pivot_count, zero_rows_zero, pivot_rows_free, rows_made, all_sets, zero_sets, pivot_rows_span}
use Rattle.pauli_theory.proofs.Rows.{row-I, row_indexed, rows_narrow, row_sets, support_rises, indexed_on}
use Rattle.pauli_theory.proofs.Tests.{Commuting}

-- the products beside pivot rows
unfoldable pub pivot_products : List Pauli → List Pauli
pivot_products gs = map (λ q. indexed_product q.t gs) (nonzero_rows (form_of gs).rows)

module _ (gs : List Pauli) where
  made : All (λ q. row_of (support_of gs) (indexed_product q.t gs) ≡ q.r) (nonzero_rows (form_of gs).rows ++ zero_rows (form_of gs).rows)
  unfolding form_of
  made =
      let qs = support_of gs in
      let A = map (row_of qs) gs in
      rw (rows_split (2 * length qs) A) (all_map (λ q e. row_indexed qs q.t gs ∙ e) (form_of gs).rows (rows_made (2 * length qs) A (rows_narrow qs gs)))

  pivots_made : All (λ q. row_of (support_of gs) (indexed_product q.t gs) ≡ q.r) (nonzero_rows (form_of gs).rows)
  pivots_made = all_left _ (nonzero_rows (form_of gs).rows) (zero_rows (form_of gs).rows) made

  -- ---- the pivot rows
  pub pivot_rows_of_lem : map (row_of (support_of gs)) (pivot_products gs) ≡ map (λ q. q.r) (nonzero_rows (form_of gs).rows)
  unfolding pivot_products
  pivot_rows_of_lem =
      let D = nonzero_rows (form_of gs).rows in
      map-map (row_of (support_of gs)) (λ q. indexed_product q.t gs) D ∙ map_same (λ q. row_of (support_of gs) (indexed_product q.t gs)) (λ q. q.r) D pivots_made

  pub pivots_count : length (pivot_products gs) ≡ rank gs
  unfolding pivot_products rank form_of
  pivots_count = length-map (nonzero_rows (form_of gs).rows) (λ q. indexed_product q.t gs) ∙ pivot_count (2 * length (support_of gs)) (map (row_of (support_of gs)) gs)

  pub pivots_free : Independent (map (row_of (support_of gs)) (pivot_products gs))
  unfolding form_of
  pivots_free = rw pivot_rows_of_lem (pivot_rows_free (2 * length (support_of gs)) (map (row_of (support_of gs)) gs))

  pub pivots_span : (v : ℕ) → RowSpace (map (row_of (support_of gs)) gs) v → RowSpace (map (row_of (support_of gs)) (pivot_products gs)) v
  unfolding form_of
  pivots_span v s = rw pivot_rows_of_lem (pivot_rows_span (2 * length (support_of gs)) (map (row_of (support_of gs)) gs) (rows_narrow (support_of gs) gs) v s)

  -- the Pauli of a pivot row, with the phase that `standard` gives it
  pub row_generators_are : row_generators gs ≡ map (exponent_mod (modulus gs)) (pivot_products gs)
  unfolding row_generators pivot_products phase_of exponent_mod
  row_generators_are =
      let qs = support_of gs in
      let D = nonzero_rows (form_of gs).rows in
      let m = modulus gs in
      map_same (λ q. pauli_of_row qs ((indexed_product q.t gs).e % m) q.r) (λ q. exponent_mod m (indexed_product q.t gs)) D
      (all_map (λ q e. ap (pauli_of_row qs _) (sym e) ∙ row_back qs (support_rises gs) _ (indexed_product q.t gs) (indexed_on gs q.t)) D pivots_made)
      ∙ sym (map-map (exponent_mod m) (λ q. indexed_product q.t gs) D)

  -- ---- the zero rows
  pub zero_rows_scalar : All (λ q. Agree 1 (indexed_product q.t gs) I) (zero_rows (form_of gs).rows)
  unfolding form_of
  zero_rows_scalar =
      let qs = support_of gs in
      all_zip (λ q e z. row_sets qs (support_rises gs) (indexed_on gs q.t) (on-I qs) (e ∙ z ∙ sym (row-I qs))) (zero_rows (form_of gs).rows)
      (all_right _ (nonzero_rows (form_of gs).rows) (zero_rows (form_of gs).rows) made) (zero_rows_zero (2 * length qs) (map (row_of qs) gs))

  -- ---- sets of generators
  module _ {P : ℕ → Type 0} (S : Subspace P) where
    pub sets_in : All (λ q. P q.t) (nonzero_rows (form_of gs).rows) → All (λ q. P q.t) (zero_rows (form_of gs).rows) → (s : ℕ) → s < 2 ^ length gs → P s
    unfolding form_of
    sets_in h k s l =
        let qs = support_of gs in
        let A = map (row_of qs) gs in
        let both = all_join (λ q. P q.t) (nonzero_rows (form_of gs).rows) (zero_rows (form_of gs).rows) h k in
        all_sets (2 * length qs) A (rows_narrow qs gs) S (rw (rows_split (2 * length qs) A) at both) s (rw (length-map gs (row_of qs)) l)

    -- the sets whose product has no row left
    pub kernel_in : All (λ q. P q.t) (zero_rows (form_of gs).rows) → (s : ℕ) → s < 2 ^ length gs → row_sum s (map (row_of (support_of gs)) gs) ≡ 0 → P s
    unfolding form_of
    kernel_in k s l e =
        let qs = support_of gs in
        zero_sets (2 * length qs) (map (row_of qs) gs) (rows_narrow qs gs) S k s (rw (length-map gs (row_of qs)) l) e

  -- what holds of all products of sets holds of the generators
  generators_by : {Q : Pauli → Type 0} → ((p q : Pauli) → Agree 4 p q → Q p → Q q) → ((s : ℕ) → s < 2 ^ length gs → Q (indexed_product s gs)) → All Q gs
  generators_by {Q} f h =
      all_by Q gs I λ i l. f _ _ (agree_join (agree_path 4 (indexed_unit i gs)) (agree_normal (get_or gs i I) four)) (h (2 ^ i) (pow-lt l))

  -- ---- commutation
  commutes_with : (h : Pauli) → All (λ p. anticommute h p ≡ 0) (pivot_products gs) → All (λ g. anticommute h g ≡ 0) gs
  unfolding pivot_products
  commutes_with h c =
      generators_by (commuting_subgroup 4 h).agrees
      (sets_in (indexed_subspace two gs (covers_two gs) (commuting_subgroup 2 h))
      (all_under (λ p. anticommute h p ≡ 0) (λ q. indexed_product q.t gs) (nonzero_rows (form_of gs).rows) c)
      (all_map (λ q a. anticommute_agree h a ∙ anticommute_unit h) (zero_rows (form_of gs).rows) zero_rows_scalar))

  pub commute_by_pivots : Commuting (pivot_products gs) → Commuting gs
  commute_by_pivots c = all_by _ gs I λ i l.
      let g = get_or gs i I in
      let with-g = all_map (λ p w. anticommute_comm g p ∙ all_get (λ h. anticommute p h ≡ 0) gs I (commutes_with p w) i l) (pivot_products gs) c in
      commutes_with g with-g

pub generated_commute : (gs : List Pauli) → Commuting gs → (p q : Pauli) → Generated gs p → Generated gs q → anticommute p q ≡ 0
generated_commute gs c p q a b =
    generated_in (commuting_subgroup 4 p) four gs
    (all_map (λ g w. anticommute_comm p g ∙ generated_in (commuting_subgroup 4 g) four gs w p a) gs c) q b

-- ---- order four
pub order_four_agree : {p q : Pauli} → Agree 2 p q → order_four p ≡ order_four q
unfolding order_four
order_four_agree {p} {q} a = ap₂ (λ (u v : ℕ). (p.e + dot u v) % 2) a.x a.z ∙ omega (arith, a.phase)

pub order_four_scalar : (p : Pauli) → Agree 1 p I → order_four p ≡ p.e % 2
unfolding order_four I
order_four_scalar p a = ap (λ (u : ℕ). (p.e + dot u p.z) % 2) a.x ∙ omega (arith, dot_zero_l p.z)

module _ (gs : List Pauli) where
  order_subspace : Commuting gs → Subspace (λ s. order_four (indexed_product s gs) ≡ 0)
  order_subspace c = record {
    origin = ap order_four (indexed_zero gs) ∙ order_four-I;
    sum = λ s t h k.
        let p = indexed_product s gs in
        let q = indexed_product t gs in
        sym (order_four_agree (indexed_times two gs (covers_two gs) s t)) ∙ order_four_times p q
        ∙ omega (arith, generated_commute gs c p q (generated_indexed gs s) (generated_indexed gs t));
  }

  pub order_by_pivots : Commuting gs → All (λ p. order_four p ≡ 0) (pivot_products gs) → All (λ q. (indexed_product q.t gs).e % 2 ≡ 0) (zero_rows (form_of gs).rows)
      → All (λ g. order_four g ≡ 0) gs
  unfolding pivot_products
  order_by_pivots c h k =
      generators_by gs (λ p q a e. sym (order_four_agree (agree_weaker two a)) ∙ e)
      (sets_in gs (order_subspace c)
      (all_under (λ p. order_four p ≡ 0) (λ q. indexed_product q.t gs) (nonzero_rows (form_of gs).rows) h)
      (all_zip (λ q a e. order_four_scalar (indexed_product q.t gs) a ∙ e) (zero_rows (form_of gs).rows) (zero_rows_scalar gs) k))
