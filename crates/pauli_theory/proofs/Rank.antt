-- The rank is the dimension of the row space. A group inside another of the same rank and grade is the same.
use mathlib.Core.Path.{◌≡◌, sym, ◌∙◌}
use mathlib.Core.List.{List, map}
use Prim.Native.Nat.{ℕ, ◌*◌, ◌≤◌}
use native.Mathlib.Omega.{arith}
use lib.ListN.{length, length-map}
use Rattle.binar.specs.Row.{row_sum}
use Rattle.binar.specs.Space.{RowSpace, Independent}
use Rattle.binar.proofs.echelon.Dimension.{independent_le}
use Rattle.binar.proofs.Lists.{all_map, all_over}
use Rattle.binar.proofs.matrix_form.Theorems.{space_law}
use Rattle.pauli.specs.Support.{All}
use Rattle.pauli.specs.Pauli.{Pauli, indexed_product}
use Rattle.pauli.specs.Sets.{row_of}
use Rattle.pauli.proofs.condense.Rows.{row_lt, on-I}
use Rattle.pauli_theory.specs.Group.{Generated, Inside}
use Rattle.pauli_theory.specs.Standard.{support_of, form_of, rank}
use Rattle.pauli_theory.specs.Theorems.{RankLaw}
use Rattle.pauli_theory.proofs.Rows.{row_agree, row-I, row_indexed, rows_narrow, row_sets, span_sets, generated_row, support_rises, generated_on}
use Rattle.pauli_theory.proofs.Spaces.{columns_narrow, fills}
use Rattle.pauli_theory.proofs.Powers.{agree_in}
use Rattle.pauli_theory.proofs.Pivots.{pivots_span}
use Rattle.pauli_theory.proofs.Grade.{grade, grade_divisor, grade_power}
use Rattle.pauli_theory.proofs.Elements.{same_sets, basis, basis_count, basis_in, basis_products_in, basis_rows, basis_free}

pub rank_law : (gs : List Pauli) → RankLaw gs
unfolding rank form_of
rank_law gs =
    let qs = support_of gs in
    let c = 2 * length qs in
    let A = map (row_of qs) gs in
    rw (columns_narrow c A (rows_narrow qs gs)) at (space_law c A).dimension

basis_span : (gs : List Pauli) (p : Pauli) → Generated gs p → RowSpace (map (row_of (support_of gs)) (basis gs)) (row_of (support_of gs) p)
basis_span gs p a = rw (basis_rows gs) (pivots_span gs (row_of (support_of gs) p) (generated_row (support_of gs) gs p a))

-- the basis of a group inside another, by its rows over the support of the other
module _ (gs hs : List Pauli) (f : Inside gs hs) where
  rows : List ℕ
  rows = map (row_of (support_of hs)) (basis gs)

  product_row : (s : ℕ) → row_of (support_of hs) (indexed_product s (basis gs)) ≡ row_sum s rows
  unfolding rows
  product_row s = row_indexed (support_of hs) s (basis gs)

  rows_count : length rows ≡ rank gs
  unfolding rows
  rows_count = length-map (basis gs) (row_of (support_of hs)) ∙ basis_count gs

  products_in : (s : ℕ) → Generated hs (indexed_product s (basis gs))
  unfolding Inside
  products_in s = f (indexed_product s (basis gs)) (basis_products_in gs s)

  rows_free : Independent rows
  unfolding Independent rows
  rows_free s l e =
      let ks = support_of hs in
      let qs = support_of gs in
      let p = indexed_product s (basis gs) in
      let a = row_sets ks (support_rises hs) (generated_on hs p (products_in s)) (on-I ks) (product_row s ∙ e ∙ sym (row-I ks)) in
      basis_free gs s (rw (length-map (basis gs) (row_of qs)) (rw (length-map (basis gs) (row_of ks)) at l))
      (sym (row_indexed qs s (basis gs)) ∙ row_agree qs a ∙ row-I qs)

  rows_spanned : All (RowSpace (map (row_of (support_of hs)) (basis hs))) rows
  unfolding rows Inside
  rows_spanned =
      let ks = support_of hs in
      all_over (RowSpace (map (row_of ks) (basis hs))) (row_of ks) (basis gs) (all_map (λ p a. basis_span hs p (f p a)) (basis gs) (basis_in gs))

  pub rank_le : rank gs ≤ rank hs
  rank_le =
      let B = map (row_of (support_of hs)) (basis hs) in
      omega (arith, independent_le rows B rows_free rows_spanned, rows_count, length-map (basis hs) (row_of (support_of hs)), basis_count hs)

  pub inside_back : rank gs ≡ rank hs → grade gs ≡ grade hs → Inside hs gs
  unfolding Inside rows
  inside_back r g p a =
      let ks = support_of hs in
      let C = map (row_of ks) (basis hs) in
      let n : length C ≤ length rows = omega (arith, rows_count, length-map (basis hs) (row_of ks), basis_count hs) in
      let w = fills (2 * length ks) rows (rows_narrow ks (basis gs)) (row_of ks p) (row_lt ks p) rows_free C rows_spanned n (basis_span hs p a) in
      let q = indexed_product w.subset (basis gs) in
      let b = products_in w.subset in
      let s = span_sets ks (support_rises hs) (basis gs) w (generated_on hs p a) (generated_on hs q b) in
      agree_in gs (grade_divisor gs) (grade_power gs) p q (rw g (same_sets hs p q a b s)) (basis_products_in gs w.subset)
