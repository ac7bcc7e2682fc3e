-- Abelian and stabilizer groups are what the definitions find.
use mathlib.Core.Path.{◌≡◌, refl, sym, ap, ◌∙◌}
use mathlib.Core.List.{List}
use Prim.Native.Nat.{ℕ, ◌%◌, max}
use native.Mathlib.Omega.{arith}
use Rattle.binar.proofs.Lists.{all_map}
use Rattle.pauli.specs.Pauli.{Pauli, I, turned, order_four}
use Rattle.pauli_theory.specs.Group.{Generated, Abelian, Promise, Honest}
use Rattle.pauli_theory.specs.Standard.{standard, some_order_four, nonabelian, some_imaginary, some_minus, phase_step, stabilizer}
use Rattle.pauli_theory.specs.Theorems.{AbelianLaw}
use Rattle.pauli_theory.proofs.Agree.{Divisor, one, two, four}
use Rattle.pauli_theory.proofs.IfZero.{if_zero_zero, if_zero_one}
use Rattle.pauli_theory.proofs.Tests.{imaginary, imaginary_largest, order_four_largest, largest_none, none_largest}
use Rattle.pauli_theory.proofs.Pivots.{order_four_scalar}
use Rattle.pauli_theory.proofs.Grade.{grade_divisor}
use Rattle.pauli_theory.proofs.Abelian.{abelian_right, abelian_only, promise_nonabelian}
use Rattle.pauli_theory.proofs.Phases.{bare_case, step_four, step_four_only, phase_step_grade, step_in, step_only}

-- a power of i of odd exponent is of order four
imaginary_none : (ps : List Pauli) → some_order_four ps ≡ 0 → some_imaginary ps ≡ 0
imaginary_none ps e =
    imaginary_largest ps
    ∙ none_largest imaginary ps (all_map (λ p o. bare_case (λ k. k ≡ 0) p (p.e % 2) (λ a. sym (order_four_scalar p a) ∙ o) refl) ps
    (largest_none order_four ps (sym (order_four_largest ps) ∙ e)))

no_half : {m : ℕ} → Divisor m → (2 % m ≡ 0 → ⊥) → m ≡ 4
no_half one n = absurd (n refl)
no_half two n = absurd (n refl)
no_half four n = refl

module _ (promise : Promise) (gs : List Pauli) (h : Honest promise gs) where
  -- -I is generated unless the step is 4
  step_by_minus : (Generated gs (turned 2 I) → ⊥) → phase_step promise gs ≡ 4
  step_by_minus n =
      let e = phase_step_grade promise gs h in
      e ∙ no_half (grade_divisor gs) (λ d. n (step_in promise gs h 2 (rw e d)))

  minus_by_step : phase_step promise gs ≡ 4 → Generated gs (turned 2 I) → ⊥
  minus_by_step e a = omega (arith, ap (λ (m : ℕ). 2 % m) e, step_only promise gs h 2 a)

  stabilizer_right : stabilizer promise gs ≡ 1 → Abelian gs × (Generated gs (turned 2 I) → ⊥)
  unfolding stabilizer phase_step
  stabilizer_right e =
      let ps = standard gs in
      let n = nonabelian promise gs in
      let z = if_zero_one (max n (max (some_order_four ps) (some_minus ps))) e in (
        abelian_right gs (sym (promise_nonabelian promise gs h) ∙ omega arith),
        minus_by_step (step_four n ps (imaginary_none ps (omega arith)) z),
      )

  stabilizer_only : (Generated gs (turned 2 I) → ⊥) → stabilizer promise gs ≡ 1
  unfolding stabilizer phase_step
  stabilizer_only n = if_zero_zero _ _ (step_four_only (nonabelian promise gs) (standard gs) (step_by_minus n))

  pub abelian_law : AbelianLaw promise gs
  abelian_law = record {
    abelian_right = λ e. abelian_right gs (sym (promise_nonabelian promise gs h) ∙ e);
    abelian_only = λ a. promise_nonabelian promise gs h ∙ abelian_only gs a;
    stabilizer_right = stabilizer_right;
    stabilizer_only = λ a n. stabilizer_only n;
  }
