-- The grade of a list: the powers of i in its group are those of i^grade. It is the modulus, or 2 if that is smaller and a row
-- generator is of order four or two of them anticommute.
use mathlib.Core.Path.{◌≡◌, refl, sym, ap, ◌∙◌}
use mathlib.Core.List.{List, map}
use Prim.Native.Nat.{ℕ, zero, suc, ◌%◌, ◌^◌, ◌<◌, max}
use native.Mathlib.Nat.{zero-mod}
use native.Mathlib.Omega.{arith}
use lib.ListN.{length}
use Rattle.binar.specs.Row.{row_sum}
use Rattle.binar.proofs.Lists.{all_of, all_map, all_zip, all_over, all_under}
use Rattle.pauli.specs.Support.{All}
use Rattle.pauli.specs.Pauli.{Pauli, I, anticommute, order_four, indexed_product}
use Rattle.pauli.specs.Sets.{row_of}
use Rattle.pauli.proofs.signed.Algebra.{I-times, order_four_lt}
use Rattle.pauli_theory.specs.Group.{Generated}
use Rattle.pauli_theory.specs.Standard.{support_of, form_of, if_zero, zero_rows, nonzero_rows, modulus, row_generators, some_order_four, some_anticommute, exponent_mod}
use Rattle.pauli_theory.proofs.Agree.{Divisor, one, two, four, Agree, agree_path, agree_flip, agree_join, agree_weaker, agree_normal, agree_times, agree_exponent_mod, Subgroup}
use Rattle.pauli_theory.proofs.Group.{generated_indexed}
use Rattle.pauli_theory.proofs.Products.{Covers, covers_by, indexed_subspace}
use Rattle.pauli_theory.proofs.Powers.{Power, agree_in, minus_by_square, minus_by_pair}
use Rattle.pauli_theory.proofs.Tests.{order_four_largest, largest_none, largest_found, Commuting, anticommute_none, anticommute_found, max_found}
use Rattle.pauli_theory.proofs.Pivots.{pivot_products, row_generators_are, order_four_agree, zero_rows_scalar, kernel_in, commute_by_pivots, order_by_pivots}
use Rattle.pauli_theory.proofs.Modulus.{lowered, lowered_divisor, lowered_multiple, lowered_power, modulus_divisor, modulus_divides, modulus_power}

-- the test of `standard`: more than 0 if one is of order four or two anticommute
unfoldable pub sign_test : List Pauli → ℕ
sign_test ps = max (some_order_four ps) (some_anticommute ps)

unfoldable pub grade : List Pauli → ℕ
grade gs = lowered (sign_test (row_generators gs)) (modulus gs)

lowered_four : (w : ℕ) {m : ℕ} → Divisor m → lowered w m ≡ 4 → (w ≡ 0) × (m ≡ 4)
unfolding lowered if_zero
lowered_four zero d h = (refl, h)
lowered_four (suc w) one h = absurd (omega arith)
lowered_four (suc w) two h = absurd (omega arith)
lowered_four (suc w) four h = absurd (omega arith)

-- where it is more than 0, a group that has these Paulis has -I
pub sign_test_minus : (gs ps : List Pauli) → 0 < sign_test ps → All (Generated gs) ps → Power gs 2
unfolding sign_test
sign_test_minus gs ps l h =
    max_found (some_order_four ps) (some_anticommute ps) l
    (λ o. largest_found order_four ps (omega (arith, order_four_largest ps)) h λ p a b. minus_by_square gs p (omega (arith, order_four_lt p)) b)
    (λ o. anticommute_found ps o h (minus_by_pair gs))

-- where it is 0, with exponents modulo 4, all commute and are of order two
sign_test_none : (ps : List Pauli) → sign_test (map (exponent_mod 4) ps) ≡ 0 → All (λ p. order_four p ≡ 0) ps × Commuting ps
unfolding sign_test exponent_mod anticommute
sign_test_none ps e =
    let hs = map (exponent_mod 4) ps in (
      all_map (λ p o. sym (order_four_agree (agree_weaker two (agree_exponent_mod p four))) ∙ o) ps
          (all_under (λ p. order_four p ≡ 0) (exponent_mod 4) ps (largest_none order_four hs (omega (arith, order_four_largest hs)))),
      all_map (λ p w. all_under (λ q. anticommute p q ≡ 0) (exponent_mod 4) ps w) ps
          (all_under (λ p. All (λ q. anticommute p q ≡ 0) hs) (exponent_mod 4) ps (anticommute_none hs (omega arith))),
    )

-- the powers of i^m
scalar_subgroup : {m : ℕ} → Divisor m → Subgroup m (λ p. Agree m p I)
scalar_subgroup {m} d = record {
  agrees = λ p q a h. agree_join (agree_flip a) h;
  unit = agree_path m refl;
  products = λ p q h k. agree_join (agree_times d h k) (agree_join (agree_path m (I-times I)) (agree_normal I d));
}

module _ (gs : List Pauli) where
  pub grade_divisor : Divisor (grade gs)
  unfolding grade
  grade_divisor = lowered_divisor (sign_test (row_generators gs)) (modulus_divisor gs)

  zero_rows_divided : All (λ q. (indexed_product q.t gs).e % grade gs ≡ 0) (zero_rows (form_of gs).rows)
  unfolding grade
  zero_rows_divided = all_map (λ q h. lowered_multiple (sign_test (row_generators gs)) (modulus_divisor gs) _ h) (zero_rows (form_of gs).rows) (modulus_divides gs)

  -- ---- i^grade covers the signs of products
  pub grade_covers : Covers (grade gs) gs
  unfolding grade
  grade_covers = covers_by (grade gs) gs λ e.
      let f = lowered_four (sign_test (row_generators gs)) (modulus_divisor gs) e in
      let w = sign_test_none (pivot_products gs) (ap (λ (m : ℕ). sign_test (map (exponent_mod m) (pivot_products gs))) (sym f.1) ∙ ap sign_test (sym (row_generators_are gs)) ∙ f.0) in
      let c = commute_by_pivots gs w.1 in
      (order_by_pivots gs c w.0 (all_map (λ q h. even (indexed_product q.t gs).e (modulus gs) f.1 h) (zero_rows (form_of gs).rows) (modulus_divides gs)), c)
    where
      even : (n m : ℕ) → m ≡ 4 → n % m ≡ 0 → n % 2 ≡ 0
      even n m e h = omega (arith, ap (λ (k : ℕ). n % k) e)

  -- ---- a set of generators whose rows cancel has a power of i^grade for its product
  zero_rows_agree : All (λ q. Agree (grade gs) (indexed_product q.t gs) I) (zero_rows (form_of gs).rows)
  unfolding I
  zero_rows_agree =
      all_zip (λ q a h. record { phase = h ∙ sym (zero-mod (grade gs)); x = a.x; z = a.z }) (zero_rows (form_of gs).rows) (zero_rows_scalar gs) zero_rows_divided

  pub kernel : (s : ℕ) → s < 2 ^ length gs → row_sum s (map (row_of (support_of gs)) gs) ≡ 0 → Agree (grade gs) (indexed_product s gs) I
  kernel = kernel_in gs (indexed_subspace grade_divisor gs grade_covers (scalar_subgroup grade_divisor)) zero_rows_agree

  -- ---- i^grade is generated
  -- products beside pivot rows, with exponents modulo m, are generated if i^m is
  pub pivots_in : {m : ℕ} → Divisor m → Power gs m → All (Generated gs) (map (exponent_mod m) (pivot_products gs))
  unfolding pivot_products
  pivots_in {m} d a =
      all_over (Generated gs) (exponent_mod m) (pivot_products gs)
      (all_over (λ p. Generated gs (exponent_mod m p)) (λ q. indexed_product q.t gs) (nonzero_rows (form_of gs).rows)
      (all_of (λ q. agree_in gs d a _ _ (agree_exponent_mod (indexed_product q.t gs) d) (generated_indexed gs q.t)) (nonzero_rows (form_of gs).rows)))

  pub grade_power : Power gs (grade gs)
  unfolding grade
  grade_power =
      let d = modulus_divisor gs in
      let p = modulus_power gs in
      lowered_power gs (sign_test (row_generators gs)) d p (λ l. sign_test_minus gs (row_generators gs) l (rw (row_generators_are gs) (pivots_in d p)))
