-- The standard generators by the products that the rows of T name: the first of these, as many as the rank, stand beside pivot
-- rows, and the others beside zero rows.
use mathlib.Core.Path.{◌≡◌, sym, ap, ap₂, ◌∙◌}
use mathlib.Core.List.{List, ◌++◌, map, map-map, map-append}
use Prim.Native.Nat.{ℕ, ◌*◌, ◌%◌, ◌≤◌, ◌<◌, max}
use native.Mathlib.Omega.{arith}
use lib.ListN.{length, take, drop, length-map, length-append}
use lib.Seq.{take_at, drop_at}
use Rattle.binar.proofs.echelon.Transform.{rows_count}
use Rattle.pauli.specs.Pauli.{Pauli, indexed_product}
use Rattle.pauli.specs.Sets.{row_of}
use Rattle.pauli_theory.specs.Standard.{support_of, form_of, rank, phase_of, if_zero, zero_rows, nonzero_rows, modulus_of, modulus, some_order_four, some_anticommute, appended, exponent_mod, standard}
use Rattle.pauli_theory.proofs.Agree.{Divisor, divisor_positive, divisor_le}
use Rattle.pauli_theory.proofs.Form.{rows_split}
use Rattle.pauli_theory.proofs.Pivots.{pivot_products, pivots_count, row_generators_are}
use Rattle.pauli_theory.proofs.Modulus.{modulus_divisor}
use Rattle.pauli_theory.proofs.Grade.{sign_test}
use Rattle.pauli_theory.proofs.Standard.{standard_of}

-- the products that the rows of T name
abbrev pub row_products : List Pauli → List Pauli
row_products gs = map (λ q. indexed_product q.t gs) (form_of gs).rows

module _ (gs : List Pauli) where
  -- the products beside zero rows
  zero_products : List Pauli
  zero_products = map (λ q. indexed_product q.t gs) (zero_rows (form_of gs).rows)

  products_split : row_products gs ≡ pivot_products gs ++ zero_products
  unfolding pivot_products zero_products form_of
  products_split =
      let qs = support_of gs in
      let rows = (form_of gs).rows in
      ap (map (λ q. indexed_product q.t gs)) (sym (rows_split (2 * length qs) (map (row_of qs) gs)))
      ∙ map-append (λ q. indexed_product q.t gs) (nonzero_rows rows) (zero_rows rows)

  pub products_count : length (row_products gs) ≡ length gs
  unfolding form_of
  products_count =
      let qs = support_of gs in
      let A = map (row_of qs) gs in
      length-map (form_of gs).rows (λ q. indexed_product q.t gs) ∙ rows_count (2 * length qs) A ∙ length-map gs (row_of qs)

  pub rank_le : rank gs ≤ length gs
  rank_le = omega (arith, products_count, ap length products_split, length-append (pivot_products gs) zero_products, pivots_count gs)

  pub products_pivots : take (rank gs) (row_products gs) ≡ pivot_products gs
  products_pivots = ap (take (rank gs)) products_split ∙ take_at (pivot_products gs) zero_products (rank gs) (pivots_count gs)

  products_zeros : drop (rank gs) (row_products gs) ≡ zero_products
  products_zeros = ap (drop (rank gs)) products_split ∙ drop_at (pivot_products gs) zero_products (rank gs) (pivots_count gs)

  pub products_modulus : modulus_of (map (λ p. p.e) (drop (rank gs) (row_products gs))) ≡ modulus gs
  unfolding modulus phase_of zero_products
  products_modulus =
      ap modulus_of
      (ap (map (λ p. p.e)) products_zeros ∙ map-map (λ p. p.e) (λ q. indexed_product q.t gs) (zero_rows (form_of gs).rows))

  pub products_divisor : Divisor (modulus_of (map (λ p. p.e) (drop (rank gs) (row_products gs))))
  products_divisor = rw products_modulus (modulus_divisor gs)

  pub products_positive : 0 < modulus_of (map (λ p. p.e) (drop (rank gs) (row_products gs)))
  products_positive = divisor_positive products_divisor

  pub products_le : modulus_of (map (λ p. p.e) (drop (rank gs) (row_products gs))) ≤ 4
  products_le = divisor_le products_divisor

  pub standard_by_products :
      let P = row_products gs in
      let r = rank gs in
      let m = modulus_of (map (λ p. p.e) (drop r P)) in
      let ps = map (exponent_mod m) (take r P) in
      standard gs
      ≡ if_zero (max (some_order_four ps) (some_anticommute ps)) (ps ++ appended m ps) (map (exponent_mod 2) ps ++ appended (m % 2) ps)
  unfolding standard sign_test
  standard_by_products =
      ap₂ (λ (m : ℕ) (ps : List Pauli). standard_of (sign_test ps) m ps) (sym products_modulus)
      (row_generators_are gs ∙ ap₂ (λ (m : ℕ) (ps : List Pauli). map (exponent_mod m) ps) (sym products_modulus) (sym products_pivots))
