-- The standard generators are the basis with a power of i, by the grade. They generate the group.
use mathlib.Core.Path.{◌≡◌, refl, sym, ap, ap₂, ◌∙◌}
use mathlib.Core.List.{List, [], ◌∷◌, ◌++◌, map, map-map}
use Prim.Native.Nat.{ℕ, zero, suc, ◌%◌, ◌<◌, max}
use native.Mathlib.Omega.{arith}
use Rattle.binar.proofs.Lists.{all_of, all_join, all_left, all_right, map_same}
use Rattle.pauli.specs.Support.{All}
use Rattle.pauli.specs.Pauli.{Pauli, I, turned, anticommute, order_four, indexed_product, phase}
use Rattle.pauli.proofs.signed.Algebra.{pauli_path}
use Rattle.pauli_theory.specs.Group.{Generated, Inside}
use Rattle.pauli_theory.specs.Standard.{if_zero, modulus, row_generators, appended, exponent_mod, standard}
use Rattle.pauli_theory.proofs.Agree.{Divisor, one, two, four, Agree, agree_flip, agree_exponent_mod, power_phase, indexed_in}
use Rattle.pauli_theory.proofs.Group.{generated_subgroup, generators, inside_by}
use Rattle.pauli_theory.proofs.Powers.{Power, power_zero, power_four, agree_in}
use Rattle.pauli_theory.proofs.Tests.{order_four_largest, largest_map, some_anticommute_map}
use Rattle.pauli_theory.proofs.Pivots.{pivot_products, row_generators_are, order_four_agree}
use Rattle.pauli_theory.proofs.Modulus.{lowered, modulus_divisor}
use Rattle.pauli_theory.proofs.Grade.{sign_test, sign_test_minus, grade, grade_divisor, grade_power}
use Rattle.pauli_theory.proofs.Elements.{basis, basis_in, of_basis}

-- what `standard` makes of the row generators ps, by the test w and the modulus m
abbrev pub standard_of : ℕ → ℕ → List Pauli → List Pauli
standard_of w m ps = if_zero w (ps ++ appended m ps) (map (exponent_mod 2) ps ++ appended (m % 2) ps)

-- ---- the standard generators by basis and grade
-- ps with what `standard` appends, by the grade m
unfoldable pub completed : ℕ → List Pauli → List Pauli
completed m ps = ps ++ appended (if_zero (sign_test ps) m (m % 2)) ps

sign_test_two : (ps : List Pauli) → sign_test (map (exponent_mod 2) ps) ≡ sign_test ps
unfolding sign_test exponent_mod anticommute
sign_test_two ps =
    ap₂ max
    (order_four_largest (map (exponent_mod 2) ps)
    ∙ largest_map order_four (exponent_mod 2) ps (all_of (λ p. order_four_agree (agree_exponent_mod p two)) ps) ∙ sym (order_four_largest ps))
    (some_anticommute_map (exponent_mod 2) (λ p. Unit {0}) (λ p q _ _. refl) ps (all_of (λ p. tt) ps))

exponent_mod_twice : (w : ℕ) {m : ℕ} → Divisor m → (p : Pauli) → exponent_mod 2 (exponent_mod m p) ≡ exponent_mod (lowered (suc w) m) p
unfolding exponent_mod lowered if_zero
exponent_mod_twice w one p = pauli_path (omega arith) refl refl
exponent_mod_twice w two p = pauli_path (omega arith) refl refl
exponent_mod_twice w four p = pauli_path (omega arith) refl refl

appended_odd : (w : ℕ) {m : ℕ} → Divisor m → (ps qs : List Pauli) → appended (m % 2) ps ≡ appended (lowered (suc w) m % 2) qs
unfolding appended lowered if_zero
appended_odd w one ps qs = refl
appended_odd w two ps qs = refl
appended_odd w four ps qs = refl

-- where w is the test of the row generators
completed_by : (w : ℕ) {m : ℕ} → Divisor m → (bs : List Pauli) → let ps = map (exponent_mod m) bs in
    sign_test ps ≡ w → standard_of w m ps ≡ completed (lowered w m) (map (exponent_mod (lowered w m)) bs)
unfolding completed if_zero lowered
completed_by zero {m} d bs e = ap (λ (v : ℕ). ps ++ appended (if_zero v m (m % 2)) ps) (sym e)
  where
    ps : List Pauli
    ps = map (exponent_mod m) bs
completed_by (suc w) {m} d bs e = ap₂ ◌++◌ twice (appended_odd w d ps rs) ∙ ap (λ (v : ℕ). rs ++ appended (if_zero v n (n % 2)) rs) (sym tested)
  where
    n : ℕ
    n = lowered (suc w) m

    ps : List Pauli
    ps = map (exponent_mod m) bs

    rs : List Pauli
    rs = map (exponent_mod n) bs

    twice : map (exponent_mod 2) ps ≡ rs
    twice = map-map (exponent_mod 2) (exponent_mod m) bs ∙ map_same (λ p. exponent_mod 2 (exponent_mod m p)) (exponent_mod n) bs (all_of (exponent_mod_twice w d) bs)

    tested : sign_test rs ≡ suc w
    tested = ap sign_test (sym twice) ∙ sign_test_two ps ∙ e

pub standard_is : (gs : List Pauli) → standard gs ≡ completed (grade gs) (basis gs)
unfolding standard grade basis sign_test
standard_is gs =
    let w = sign_test (row_generators gs) in
    let e = row_generators_are gs in
    ap (standard_of w (modulus gs)) e ∙ completed_by w (modulus_divisor gs) (pivot_products gs) (ap sign_test (sym e))

-- ---- what a power of i appended brings
phase_turned : (k : ℕ) → Agree 4 (turned k I) (phase k)
unfolding turned I phase
phase_turned k = record { phase = power_phase four k; x = refl; z = refl }

module _ (gs : List Pauli) where
  pub phase_in : (k : ℕ) → Power gs k → Generated gs (phase k)
  phase_in k = (generated_subgroup gs).agrees (turned k I) (phase k) (phase_turned k)

  pub in_phase : (k : ℕ) → Generated gs (phase k) → Power gs k
  in_phase k = (generated_subgroup gs).agrees (phase k) (turned k I) (agree_flip (phase_turned k))

  -- in a group with i^m: what is appended, where the test is w
  appended_in : (w : ℕ) {m : ℕ} → Divisor m → (ps : List Pauli) → Power gs m → All (Generated gs) (appended (if_zero w m (m % 2)) ps)
  unfolding if_zero appended
  appended_in zero one ps a = (phase_in 1 a, tt)
  appended_in zero two ps a = (phase_in 2 a, tt)
  appended_in zero four [] a = (phase_in 0 (power_zero gs), tt)
  appended_in zero four (p ∷ ps) a = tt
  appended_in (suc w) one ps a = (phase_in 1 a, tt)
  appended_in (suc w) two ps a = tt
  appended_in (suc w) four ps a = tt

  -- and back: with what is appended, and -I where w is not 0, it has i^m
  appended_power : (w : ℕ) {m : ℕ} → Divisor m → (ps : List Pauli) → All (Generated gs) (appended (if_zero w m (m % 2)) ps) → (0 < w → Power gs 2) → Power gs m
  unfolding if_zero appended
  appended_power zero one ps h k = in_phase 1 h.0
  appended_power zero two ps h k = in_phase 2 h.0
  appended_power zero four ps h k = power_four gs
  appended_power (suc w) one ps h k = in_phase 1 h.0
  appended_power (suc w) two ps h k = k (omega arith)
  appended_power (suc w) four ps h k = power_four gs

-- ---- they generate the group
module _ {m : ℕ} (d : Divisor m) (ps : List Pauli) where
  -- its group has ps and i^m
  completed_first : All (Generated (completed m ps)) ps
  unfolding completed
  completed_first = all_left (Generated (completed m ps)) ps (appended (if_zero (sign_test ps) m (m % 2)) ps) (generators (completed m ps))

  completed_power : Power (completed m ps) m
  unfolding completed
  completed_power =
      appended_power (completed m ps) (sign_test ps) d ps (all_right (Generated (completed m ps)) ps (appended (if_zero (sign_test ps) m (m % 2)) ps) (generators (completed m ps)))
      (λ l. sign_test_minus (completed m ps) ps l completed_first)

module _ (gs : List Pauli) where
  pub standard_in : All (Generated gs) (standard gs)
  unfolding completed
  standard_in =
      rw (standard_is gs)
      (all_join (Generated gs) (basis gs) (appended (if_zero (sign_test (basis gs)) (grade gs) (grade gs % 2)) (basis gs)) (basis_in gs)
      (appended_in gs (sign_test (basis gs)) (grade_divisor gs) (basis gs) (grade_power gs)))

  pub standard_inside : Inside (standard gs) gs
  standard_inside = inside_by (standard gs) gs standard_in

  inside_completed : Inside gs (completed (grade gs) (basis gs))
  unfolding Inside
  inside_completed p a =
      let hs = completed (grade gs) (basis gs) in
      let d = grade_divisor gs in
      let o = of_basis gs p a in
      agree_in hs d (completed_power d (basis gs)) p (indexed_product o.set (basis gs)) (agree_flip o.agrees)
      (indexed_in (generated_subgroup hs) (basis gs) (completed_first d (basis gs)) o.set)

  pub inside_standard : Inside gs (standard gs)
  inside_standard = rw (standard_is gs) inside_completed
