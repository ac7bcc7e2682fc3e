-- How many standard generators there are, and what they are made of.
use mathlib.Core.Path.{◌≡◌, refl, ap}
use mathlib.Core.List.{List, [], ◌∷◌, map}
use Prim.Native.Nat.{ℕ, zero, suc, ◌+◌, ◌*◌, ◌%◌, ◌≤◌, ◌<◌, max}
use native.Mathlib.Nat.{mod-lt}
use native.Mathlib.Omega.{arith}
use lib.ListN.{length, length-append, length-map}
use Rattle.binar.specs.Echelon.{Row}
use Rattle.binar.proofs.Lists.{all_of, all_map, all_join, all_over}
use Rattle.binar.proofs.echelon.Transform.{rows_count}
use Rattle.pauli.specs.Support.{All}
use Rattle.pauli.specs.Pauli.{Pauli, phase}
use Rattle.pauli.specs.Sets.{row_of}
use Rattle.pauli_theory.specs.Standard.{support_of, form_of, rank, phase_of, if_zero, zero_rows, nonzero_rows, modulus_of, modulus, row_generators, some_order_four, some_anticommute, appended, exponent_mod, standard}
use Rattle.pauli_theory.specs.Theorems.{StandardLaw}
use Rattle.pauli_theory.proofs.Agree.{divisor_positive, divisor_le}
use Rattle.pauli_theory.proofs.Form.{rows_split, pivot_count}
use Rattle.pauli_theory.proofs.Rows.{generated_on}
use Rattle.pauli_theory.proofs.Pivots.{pivot_products, pivots_count, row_generators_are}
use Rattle.pauli_theory.proofs.Grade.{sign_test, grade, grade_divisor}
use Rattle.pauli_theory.proofs.Elements.{basis}
use Rattle.pauli_theory.proofs.Standard.{standard_of, completed, standard_is, standard_in, standard_inside, inside_standard}

-- ---- exponents
appended_values : (k : ℕ) (ps : List Pauli) → All (λ p. p.e < 4) (appended k ps)
unfolding appended phase
appended_values zero ps = tt
appended_values (suc zero) ps = (omega arith, tt)
appended_values (suc (suc zero)) ps = (omega arith, tt)
appended_values (suc (suc (suc k))) [] = (omega arith, tt)
appended_values (suc (suc (suc k))) (p ∷ ps) = tt

module _ (gs : List Pauli) where
  pub basis_low : All (λ p. p.e < grade gs) (basis gs)
  unfolding basis exponent_mod
  basis_low = all_over (λ p. p.e < grade gs) (exponent_mod (grade gs)) (pivot_products gs) (all_of (λ p. mod-lt p.e (divisor_positive (grade_divisor gs))) (pivot_products gs))

  standard_values : All (λ p. p.e < 4) (standard gs)
  unfolding completed
  standard_values =
      rw (standard_is gs)
      (all_join (λ p. p.e < 4) (basis gs) (appended (if_zero (sign_test (basis gs)) (grade gs) (grade gs % 2)) (basis gs))
      (all_map (λ p l. omega (arith, divisor_le (grade_divisor gs))) (basis gs) basis_low) (appended_values _ (basis gs)))

-- ---- how many
pub appended_count : (k : ℕ) (ps : List Pauli) → length (appended k ps) ≤ 1
unfolding appended
appended_count zero ps = omega arith
appended_count (suc zero) ps = omega arith
appended_count (suc (suc zero)) ps = omega arith
appended_count (suc (suc (suc k))) [] = omega arith
appended_count (suc (suc (suc k))) (p ∷ ps) = omega arith

one_more : (w m : ℕ) (ps : List Pauli) → length (standard_of w m ps) ≤ suc (length ps)
unfolding if_zero
one_more zero m ps = omega (arith, length-append ps (appended m ps), appended_count m ps)
one_more (suc w) m ps =
    omega (arith, length-append (map (exponent_mod 2) ps) (appended (m % 2) ps), length-map ps (exponent_mod 2), appended_count (m % 2) ps)

none_more : (w : ℕ) (ps : List Pauli) → length (standard_of w 4 ps) ≤ max (length ps) 1
unfolding if_zero appended
none_more zero [] = omega arith
none_more zero (p ∷ ps) = omega (arith, length-append ps [])
none_more (suc w) ps = omega (arith, length-append (map (exponent_mod 2) ps) [], length-map ps (exponent_mod 2))

module _ (gs : List Pauli) where
  rows_total : length (row_generators gs) + length (zero_rows (form_of gs).rows) ≡ length gs
  unfolding rank form_of
  rows_total =
      let qs = support_of gs in
      let A = map (row_of qs) gs in
      omega (
        arith,
        ap length (row_generators_are gs),
        length-map (pivot_products gs) (exponent_mod (modulus gs)),
        pivots_count gs,
        pivot_count (2 * length qs) A,
        length-append (nonzero_rows (form_of gs).rows) (zero_rows (form_of gs).rows),
        ap length (rows_split (2 * length qs) A),
        rows_count (2 * length qs) A,
        length-map gs (row_of qs),
      )

  -- without zero rows the modulus is 4
  standard_count : length (standard gs) ≤ max (length gs) 1
  unfolding standard modulus modulus_of
  standard_count = go (zero_rows (form_of gs).rows) refl
    where
      ps : List Pauli
      ps = row_generators gs

      w : ℕ
      w = max (some_order_four ps) (some_anticommute ps)

      go : (Z : List Row) → zero_rows (form_of gs).rows ≡ Z → length (standard_of w (modulus gs) ps) ≤ max (length gs) 1
      go [] e = rw (ap (λ rs. modulus_of (map (phase_of gs) rs)) e) (omega (arith, none_more w ps, rows_total, ap length e))
      go (q ∷ Z) e = omega (arith, one_more w (modulus gs) ps, rows_total, ap length e)

  pub standard_law : StandardLaw gs
  standard_law = record {
    generates = record { there = standard_inside gs; back = inside_standard gs };
    count = standard_count;
    on_support = all_map (generated_on gs) (standard gs) (standard_in gs);
    values = standard_values gs;
  }
