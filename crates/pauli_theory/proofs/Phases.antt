-- The phases read off the standard generators are the powers of i in the group: their step is the grade.
use mathlib.Core.Path.{◌≡◌, refl, sym, ap, ap₂, ◌∙◌}
use mathlib.Core.Option.{Option, some, none}
use mathlib.Core.List.Memᴰ.{head as here}
use mathlib.Core.List.Memᴰ.{tail as there}
use mathlib.Core.List.{List, [], ◌∷◌, ◌++◌, map, append-nil, Memᴰ as Mem}
use Prim.Native.Nat.{ℕ, zero, suc, ◌/◌, ◌%◌, ◌^◌, ◌<◌, max}
use native.Mathlib.Nat.{zero-mod}
use native.Mathlib.Omega.{arith}
use lib.Bits.{bit_or}
use lib.ListN.{length, get_or, length-map, get_or-map}
use lib.Pow.{pow_pos, pow-lt}
use Rattle.binar.specs.Row.{bit}
use Rattle.binar.specs.Space.{Independent}
use Rattle.binar.proofs.row.Bits.{no_bits, bit_of_zero, dot_zero_l}
use Rattle.binar.proofs.Lists.{all_map, all_by}
use Rattle.binar.proofs.echelon.Span.{row_sum_unit}
use Rattle.pauli.specs.Support.{All}
use Rattle.pauli.specs.Pauli.{Pauli, I, turned, order_four, indexed_product, phase}
use Rattle.pauli.specs.Sets.{row_of}
use Rattle.pauli.proofs.condense.MoreBits.{bit_or_lem}
use Rattle.pauli.proofs.support.Lists.{all_mem}
use Rattle.pauli_theory.specs.Group.{Generated, Promise, none as no_promise, Honest}
use Rattle.pauli_theory.specs.Standard.{support_of, if_zero, appended, standard, some_order_four, anticommutes_with_some, some_anticommute, nonabelian, bare, some_imaginary, some_minus, phases_of, step_of, phase_step}
use Rattle.pauli_theory.specs.Membership.{Factorization, if_among, exponent_left, with_phase}
use Rattle.pauli_theory.specs.Theorems.{PhasesLaw}
use Rattle.pauli_theory.proofs.Agree.{Divisor, one, two, four, Agree, agree_sets, power_phase}
use Rattle.pauli_theory.proofs.Group.{generated_subgroup}
use Rattle.pauli_theory.proofs.IfZero.{if_zero_zero, if_zero_more}
use Rattle.pauli_theory.proofs.Rows.{row_agree, row-I}
use Rattle.pauli_theory.proofs.Powers.{Power, powers}
use Rattle.pauli_theory.proofs.Tests.{imaginary, minus, imaginary_largest, minus_largest, largest_append, none_largest}
use Rattle.pauli_theory.proofs.Grade.{sign_test, sign_test_minus, grade, grade_divisor, grade_power}
use Rattle.pauli_theory.proofs.Elements.{same_sets, basis, basis_in, basis_free}
use Rattle.pauli_theory.proofs.Standard.{completed, standard_is}
use Rattle.pauli_theory.proofs.Abelian.{promise_nonabelian}

-- ---- the powers of i in the group are multiples of the grade
module _ (gs : List Pauli) where
  pub power_divided : (k : ℕ) → Power gs k → k % grade gs ≡ 0
  unfolding turned I
  power_divided k a =
      let d = grade_divisor gs in
      let s = same_sets gs (turned k I) I a (generated_subgroup gs).unit (agree_sets refl refl) in
      sym (power_phase d k) ∙ s.phase ∙ zero-mod (grade gs)

  -- -I is no power of i^4
  sign_test_not_four : 0 < sign_test (basis gs) → grade gs ≡ 4 → ⊥
  sign_test_not_four l e = omega (arith, ap (λ (m : ℕ). 2 % m) e, power_divided 2 (sign_test_minus gs (basis gs) l (basis_in gs)))

-- ---- no basis element has weight 0
or_zero : (a b : ℕ) → bit_or a b ≡ 0 → (a ≡ 0) × (b ≡ 0)
or_zero a b e = (
  no_bits a λ k. omega (arith, bit_or_lem a b k, ap (λ (v : ℕ). bit v k) e, bit_of_zero k),
  no_bits b λ k. omega (arith, bit_or_lem a b k, ap (λ (v : ℕ). bit v k) e, bit_of_zero k),
)

pub bare_case : (P : ℕ → Type 0) (p : Pauli) (e : ℕ) → (Agree 1 p I → P e) → P 0 → P (bare p e)
unfolding bare if_zero I
bare_case P p e f z = go (bit_or p.x p.z) refl
  where
    go : (v : ℕ) → bit_or p.x p.z ≡ v → P (if_zero v e 0)
    go zero h = f (agree_sets (or_zero p.x p.z h).0 (or_zero p.x p.z h).1)
    go (suc v) h = z

-- independent rows are not zero
free_nonzero : (B : List ℕ) → Independent B → (i : ℕ) → i < length B → get_or B i 0 ≡ 0 → ⊥
unfolding Independent
free_nonzero B free i l e = omega (arith, pow_pos i, free (2 ^ i) (pow-lt l) (row_sum_unit i B ∙ e))

pub basis_bare : (gs : List Pauli) → All (λ p. (e : ℕ) → bare p e ≡ 0) (basis gs)
basis_bare gs =
    let qs = support_of gs in
    all_by _ (basis gs) I λ i l e. bare_case (λ k. k ≡ 0) (get_or (basis gs) i I) e
    (λ a. absurd (free_nonzero (map (row_of qs) (basis gs)) (basis_free gs) i (rw (length-map (basis gs) (row_of qs)) l)
    (ap (get_or (map (row_of qs) (basis gs)) i) (sym (row-I qs)) ∙ get_or-map (row_of qs) (basis gs) i I ∙ row_agree qs a ∙ row-I qs))) refl

-- ---- the step of the standard generators
-- where n is more than 0 if the list is not abelian
step_one : (n : ℕ) (hs : List Pauli) → 0 < some_imaginary hs → step_of n hs ≡ 1
unfolding step_of
step_one n hs h = if_zero_more _ _ _ h

step_two : (n : ℕ) (hs : List Pauli) → some_imaginary hs ≡ 0 → 0 < max n (max (some_order_four hs) (some_minus hs)) → step_of n hs ≡ 2
unfolding step_of
step_two n hs h k = if_zero_zero _ _ h ∙ if_zero_more _ _ _ k

pub step_four : (n : ℕ) (hs : List Pauli) → some_imaginary hs ≡ 0 → max n (max (some_order_four hs) (some_minus hs)) ≡ 0 → step_of n hs ≡ 4
unfolding step_of
step_four n hs h k = if_zero_zero _ _ h ∙ if_zero_zero _ _ k

pub step_four_only : (n : ℕ) (hs : List Pauli) → step_of n hs ≡ 4 → max n (max (some_order_four hs) (some_minus hs)) ≡ 0
unfolding step_of if_zero
step_four_only n hs = go (some_imaginary hs) (max n (max (some_order_four hs) (some_minus hs)))
  where
    go : (a b : ℕ) → ◌≡◌ {A = ℕ} (if_zero a (if_zero b 4 2) 1) 4 → b ≡ 0
    go zero zero e = refl
    go zero (suc b) e = absurd (omega arith)
    go (suc a) b e = absurd (omega arith)

imaginary_append : (ps qs : List Pauli) → some_imaginary (ps ++ qs) ≡ max (some_imaginary ps) (some_imaginary qs)
imaginary_append ps qs = imaginary_largest (ps ++ qs) ∙ largest_append imaginary ps qs ∙ sym (ap₂ max (imaginary_largest ps) (imaginary_largest qs))

minus_append : (ps qs : List Pauli) → some_minus (ps ++ qs) ≡ max (some_minus ps) (some_minus qs)
minus_append ps qs = minus_largest (ps ++ qs) ∙ largest_append minus ps qs ∙ sym (ap₂ max (minus_largest ps) (minus_largest qs))

imaginary_i : some_imaginary (phase 1 ∷ []) ≡ 1
unfolding some_imaginary bare if_zero phase
imaginary_i = refl

imaginary_minus : some_imaginary (phase 2 ∷ []) ≡ 0
unfolding some_imaginary bare if_zero phase
imaginary_minus = refl

minus_minus : some_minus (phase 2 ∷ []) ≡ 1
unfolding some_minus bare if_zero phase
minus_minus = refl

identity_step : step_of (some_anticommute (phase 0 ∷ [])) (phase 0 ∷ []) ≡ 4
unfolding some_imaginary some_minus some_anticommute anticommutes_with_some some_order_four order_four bare if_zero phase
identity_step = step_four 0 (phase 0 ∷ []) refl (omega (arith, dot_zero_l 0))

completed_step : (w : ℕ) {m : ℕ} → Divisor m → (ps : List Pauli) → sign_test ps ≡ w → some_imaginary ps ≡ 0 → some_minus ps ≡ 0 → (0 < w → m ≡ 4 → ⊥)
    → let hs = ps ++ appended (if_zero w m (m % 2)) ps in step_of (some_anticommute hs) hs ≡ m
unfolding if_zero appended sign_test
completed_step zero one ps e i n f = step_one _ (ps ++ phase 1 ∷ []) (omega (arith, imaginary_append ps (phase 1 ∷ []), imaginary_i))
completed_step zero two ps e i n f =
    step_two _ (ps ++ phase 2 ∷ []) (omega (arith, imaginary_append ps (phase 2 ∷ []), imaginary_minus)) (omega (arith, minus_append ps (phase 2 ∷ []), minus_minus))
completed_step zero four [] e i n f = identity_step
completed_step zero four (p ∷ ps) e i n f = rw (append-nil ps) (step_four _ (p ∷ ps) i (omega arith))
completed_step (suc w) one ps e i n f = step_one _ (ps ++ phase 1 ∷ []) (omega (arith, imaginary_append ps (phase 1 ∷ []), imaginary_i))
completed_step (suc w) two ps e i n f = rw (append-nil ps) (step_two _ ps i (omega arith))
completed_step (suc w) four ps e i n f = absurd (f (omega arith) refl)

module _ (gs : List Pauli) where
  step_none : phase_step no_promise gs ≡ grade gs
  unfolding phase_step nonabelian completed
  step_none =
      let ps = basis gs in
      let b = basis_bare gs in
      ap (λ hs. step_of (some_anticommute hs) hs) (standard_is gs)
      ∙ completed_step (sign_test ps) (grade_divisor gs) ps refl
      (imaginary_largest ps ∙ none_largest imaginary ps (all_map (λ p h. h (p.e % 2)) ps b))
      (minus_largest ps ∙ none_largest minus ps (all_map (λ p h. h (if_zero (p.e % 2) (p.e / 2 % 2) 0)) ps b))
      (sign_test_not_four gs)

-- with an absent or true promise
pub phase_step_grade : (promise : Promise) (gs : List Pauli) → Honest promise gs → phase_step promise gs ≡ grade gs
unfolding phase_step
phase_step_grade promise gs h = ap (λ (n : ℕ). step_of n (standard gs)) (promise_nonabelian promise gs h) ∙ step_none gs

module _ (promise : Promise) (gs : List Pauli) (h : Honest promise gs) where
  pub step_in : (k : ℕ) → k % phase_step promise gs ≡ 0 → Generated gs (turned k I)
  step_in k e = powers gs (grade_divisor gs) (grade_power gs) k (rw (phase_step_grade promise gs h) at e)

  pub step_only : (k : ℕ) → Generated gs (turned k I) → k % phase_step promise gs ≡ 0
  step_only k a = rw (phase_step_grade promise gs h) (power_divided gs k a)

-- ---- the phases and their step

-- they are one of three
pub phases_cases : (P : List ℕ → ℕ → Type 0) → P (0 ∷ []) 4 → P (0 ∷ 2 ∷ []) 2 → P (0 ∷ 1 ∷ 2 ∷ 3 ∷ []) 1
    → (promise : Promise) (gs : List Pauli) → P (phases_of promise gs) (phase_step promise gs)
unfolding phases_of phase_step step_of if_zero
phases_cases P x y z promise gs =
    go (some_imaginary (standard gs)) (max (nonabelian promise gs) (max (some_order_four (standard gs)) (some_minus (standard gs))))
  where
    go : (a b : ℕ) → P (if_zero a (if_zero b (0 ∷ []) (0 ∷ 2 ∷ [])) (0 ∷ 1 ∷ 2 ∷ 3 ∷ [])) (if_zero a (if_zero b 4 2) 1)
    go zero zero = x
    go zero (suc b) = y
    go (suc a) b = z

-- the phases are the multiples, below 4, of the step
two_phases : (r : ℕ) → r < 4 → r % 2 ≡ 0 → Mem r (0 ∷ 2 ∷ [])
two_phases zero l e = here refl
two_phases (suc zero) l e = absurd (omega arith)
two_phases (suc (suc zero)) l e = there (here refl)
two_phases (suc (suc (suc zero))) l e = absurd (omega arith)
two_phases (suc (suc (suc (suc r)))) l e = absurd (omega arith)

all_phases : (r : ℕ) → r < 4 → Mem r (0 ∷ 1 ∷ 2 ∷ 3 ∷ [])
all_phases zero l = here refl
all_phases (suc zero) l = there (here refl)
all_phases (suc (suc zero)) l = there (there (here refl))
all_phases (suc (suc (suc zero))) l = there (there (there (here refl)))
all_phases (suc (suc (suc (suc r)))) l = absurd (omega arith)

pub phases_has : (promise : Promise) (gs : List Pauli) (r : ℕ) → r < 4 → r % phase_step promise gs ≡ 0 → Mem r (phases_of promise gs)
phases_has promise gs r l =
    phases_cases (λ ks s. r % s ≡ 0 → Mem r ks) (λ e. let z : r ≡ 0 = omega arith in here z) (two_phases r l) (λ e. all_phases r l) promise gs

pub phases_only : (promise : Promise) (gs : List Pauli) (r : ℕ) → Mem r (phases_of promise gs) → (r < 4) × (r % phase_step promise gs ≡ 0)
phases_only promise gs r =
    phases_cases (λ ks s. Mem r ks → (r < 4) × (r % s ≡ 0))
    (all_mem (λ k. (k < 4) × (k % 4 ≡ 0)) (0 ∷ []) ((omega arith, refl), tt) r)
    (all_mem (λ k. (k < 4) × (k % 2 ≡ 0)) (0 ∷ 2 ∷ []) ((omega arith, refl), ((omega arith, refl), tt)) r)
    (all_mem (λ k. (k < 4) × (k % 1 ≡ 0)) (0 ∷ 1 ∷ 2 ∷ 3 ∷ [])
    ((omega arith, refl), ((omega arith, refl), ((omega arith, refl), ((omega arith, refl), tt)))) r)
    promise gs

-- a number and its remainder by 4 are multiples of the step alike
step_value : (promise : Promise) (gs : List Pauli) (k : ℕ) → k % 4 % phase_step promise gs ≡ k % phase_step promise gs
step_value promise gs k = phases_cases (λ ks s. k % 4 % s ≡ k % s) (omega arith) (omega arith) (omega arith) promise gs

pub phases_law : (promise : Promise) (gs : List Pauli) → Honest promise gs → PhasesLaw promise gs
phases_law promise gs h = record {
  in_group = λ k m. step_in promise gs h k (sym (step_value promise gs k) ∙ (phases_only promise gs (k % 4) m).1);
  all_of_group = λ k a. phases_has promise gs (k % 4) (omega arith) (step_value promise gs k ∙ step_only promise gs h k a);
}

-- to be among the phases is to be a multiple of the step
module _ {X : Type 0} (x y : X) where
  among_one : (e : ℕ) → e < 4 → if_among e (0 ∷ []) x y ≡ if_zero (e % 4) x y
  unfolding if_among if_zero
  among_one zero l = refl
  among_one (suc zero) l = refl
  among_one (suc (suc zero)) l = refl
  among_one (suc (suc (suc zero))) l = refl
  among_one (suc (suc (suc (suc e)))) l = absurd (omega arith)

  among_two : (e : ℕ) → e < 4 → if_among e (0 ∷ 2 ∷ []) x y ≡ if_zero (e % 2) x y
  unfolding if_among if_zero
  among_two zero l = refl
  among_two (suc zero) l = refl
  among_two (suc (suc zero)) l = refl
  among_two (suc (suc (suc zero))) l = refl
  among_two (suc (suc (suc (suc e)))) l = absurd (omega arith)

  among_four : (e : ℕ) → e < 4 → if_among e (0 ∷ 1 ∷ 2 ∷ 3 ∷ []) x y ≡ if_zero (e % 1) x y
  unfolding if_among if_zero
  among_four zero l = refl
  among_four (suc zero) l = refl
  among_four (suc (suc zero)) l = refl
  among_four (suc (suc (suc zero))) l = refl
  among_four (suc (suc (suc (suc e)))) l = absurd (omega arith)

-- so the code's test is the definition's
pub with_phase_lem : (promise : Promise) (gs : List Pauli) (p : Pauli) (s : ℕ) → let e = exponent_left p (indexed_product s gs) in
    with_phase promise gs p (some s) ≡ if_zero (e % phase_step promise gs) (some (record { indexes = s; exponent = e })) none
unfolding with_phase exponent_left
with_phase_lem promise gs p s =
    let e = exponent_left p (indexed_product s gs) in
    let x : Option Factorization = some (record { indexes = s; exponent = e }) in
    phases_cases (λ ks m. if_among e ks x none ≡ if_zero (e % m) x none)
    (among_one x none e (omega arith)) (among_two x none e (omega arith)) (among_four x none e (omega arith)) promise gs
