-- The elements of the group, each once: the products of the sets of the basis, times the powers of i^grade.
use mathlib.Core.Path.{◌≡◌, refl, sym, ap, ap₂, ◌∙◌}
use mathlib.Core.List.{List, [], ◌∷◌, map}
use Prim.Native.Nat.{ℕ, zero, suc, ◌+◌, ◌-◌, ◌*◌, ◌/◌, ◌%◌, ◌^◌, ◌<◌}
use native.Mathlib.Nat.{mod-lt, mod-mod, mul-mod_right, div-lt_iff_lt-mul, div-add-mod'}
use native.Mathlib.Decide.{dec_lt}
use native.Mathlib.Omega.{arith}
use lib.Arith.{digits_lt, digits_div, digits_mod}
use lib.ListN.{length, get_or, length-map}
use lib.Pow.{pow-add}
use Rattle.binar.proofs.Lists.{all_by}
use Rattle.pauli.specs.Pauli.{Pauli, I, Same, turned, indexed_product}
use Rattle.pauli.specs.Sets.{row_of}
use Rattle.pauli_theory.specs.Group.{Generated, Promise, Honest}
use Rattle.pauli_theory.specs.Standard.{support_of, rank, phase_step, log2_size}
use Rattle.pauli_theory.specs.Membership.{exponent_left}
use Rattle.pauli_theory.specs.Theorems.{SizeLaw}
use Rattle.pauli_theory.proofs.Agree.{Divisor, one, two, four, Agree, agree_sets, agree_flip, left_same, left_agree, left_lt}
use Rattle.pauli_theory.proofs.Products.{indexed_lt}
use Rattle.pauli_theory.proofs.Rows.{row_agree, row_indexed}
use Rattle.pauli_theory.proofs.Spaces.{free_injective}
use Rattle.pauli_theory.proofs.Powers.{powers, turned_in}
use Rattle.pauli_theory.proofs.Grade.{grade, grade_divisor, grade_power}
use Rattle.pauli_theory.proofs.Elements.{basis, basis_count, basis_products_in, basis_free, of_basis}
use Rattle.pauli_theory.proofs.Phases.{phase_step_grade}

-- ---- the list of the values of f below n
values_of : (ℕ → Pauli) → ℕ → List Pauli
values_of f zero = []
values_of f (suc n) = f 0 ∷ values_of (λ i. f (suc i)) n

values_count : (f : ℕ → Pauli) (n : ℕ) → length (values_of f n) ≡ n
unfolding values_of
values_count f zero = refl
values_count f (suc n) = ap suc (values_count (λ i. f (suc i)) n)

value_at_lem : (f : ℕ → Pauli) (n i : ℕ) → i < n → get_or (values_of f n) i I ≡ f i
unfolding values_of
value_at_lem f zero i l = absurd (omega arith)
value_at_lem f (suc n) zero l = refl
value_at_lem f (suc n) (suc i) l = value_at_lem (λ j. f (suc j)) n i (omega arith)

-- ---- the multiples of a divisor m of 4: there are 4 / m of them below 4
pub some_multiple : {m : ℕ} → Divisor m → 0 < 4 / m
some_multiple one = omega arith
some_multiple two = omega arith
some_multiple four = omega arith

multiple_of : {m : ℕ} → Divisor m → (e : ℕ) → e < 4 → e % m ≡ 0 → (e / m < 4 / m) × (m * (e / m) ≡ e)
multiple_of one e l h = (omega arith, omega arith)
multiple_of two e l h = (omega arith, omega arith)
multiple_of four e l h = (omega arith, omega arith)

value_cancel : (a b e : ℕ) → a < 4 → b < 4 → (a + e) % 4 ≡ (b + e) % 4 → a ≡ b
value_cancel a b e la lb h = go (dec_lt ((a + e) / 4) ((b + e) / 4)) (dec_lt ((b + e) / 4) ((a + e) / 4))
  where
    go : Dec ((a + e) / 4 < (b + e) / 4) → Dec ((b + e) / 4 < (a + e) / 4) → a ≡ b
    go (yes x) y = absurd (omega arith)
    go (no x) (yes y) = absurd (omega arith)
    go (no x) (no y) = omega arith

multiples_apart : {m : ℕ} → Divisor m → (r t e : ℕ) → r < 4 / m → t < 4 / m → (m * r + e) % 4 ≡ (m * t + e) % 4 → r ≡ t
multiples_apart one r t e lr lt h = omega (arith, value_cancel (1 * r) (1 * t) e (omega arith) (omega arith) h)
multiples_apart two r t e lr lt h = omega (arith, value_cancel (2 * r) (2 * t) e (omega arith) (omega arith) h)
multiples_apart four r t e lr lt h = omega arith

pub multiples_count : {m : ℕ} → Divisor m → 4 / m ≡ 2 ^ (2 - m / 2)
multiples_count one = refl
multiples_count two = refl
multiples_count four = refl

module _ (gs : List Pauli) where
  -- how many powers of i, how many elements, and element number i
  unfoldable pub phases : ℕ
  phases = 4 / grade gs

  unfoldable pub size : ℕ
  size = 2 ^ rank gs * phases

  unfoldable pub element : ℕ → Pauli
  element i = turned (grade gs * (i % phases)) (indexed_product (i / phases) (basis gs))

  pub phases_positive : 0 < phases
  unfolding phases
  phases_positive = some_multiple (grade_divisor gs)

  pub element_in : (i : ℕ) → Generated gs (element i)
  unfolding element
  element_in i =
      let d = grade_divisor gs in
      turned_in gs (grade gs * (i % phases)) (indexed_product (i / phases) (basis gs))
      (powers gs d (grade_power gs) (grade gs * (i % phases)) (mul-mod_right (grade gs) (i % phases))) (basis_products_in gs (i / phases))

  -- ---- no element twice
  sets_apart : (s t : ℕ) → s < 2 ^ rank gs → t < 2 ^ rank gs → Agree 1 (indexed_product s (basis gs)) (indexed_product t (basis gs)) → s ≡ t
  sets_apart s t ls lt a =
      let qs = support_of gs in
      let B = map (row_of qs) (basis gs) in
      let n : length B ≡ rank gs = length-map (basis gs) (row_of qs) ∙ basis_count gs in
      free_injective B (basis_free gs) s t (rw n ls) (rw n lt) (sym (row_indexed qs s (basis gs)) ∙ row_agree qs a ∙ row_indexed qs t (basis gs))

  pub set_below : (i : ℕ) → i < size → i / phases < 2 ^ rank gs
  unfolding size
  set_below i l = (div-lt_iff_lt-mul phases_positive).1 l

  pub elements_apart : (i j : ℕ) → i < size → j < size → Same (element i) (element j) → i ≡ j
  unfolding element turned phases
  elements_apart i j li lj h =
      let e : i / phases ≡ j / phases = sets_apart (i / phases) (j / phases) (set_below i li) (set_below j lj) (agree_sets h.x h.z) in
      let v : (grade gs * (i % phases) + (indexed_product (j / phases) (basis gs)).e) % 4 ≡ (grade gs * (j % phases) + (indexed_product (j / phases) (basis gs)).e) % 4 =
      ap (λ (s : ℕ). (grade gs * (i % phases) + (indexed_product s (basis gs)).e) % 4) (sym e) ∙ sym (mod-mod _ 4) ∙ h.value ∙ mod-mod _ 4 in
      let r = multiples_apart (grade_divisor gs) (i % phases) (j % phases) _ (mod-lt i phases_positive) (mod-lt j phases_positive) v in
      sym (div-add-mod' i phases) ∙ ap₂ (λ (a b : ℕ). a * phases + b) e r ∙ div-add-mod' j phases

  -- ---- every element
  pub element_found : (p : Pauli) → Generated gs p → (i : ℕ) × (i < size) × Same (element i) p
  unfolding element size phases
  element_found p a =
      let d = grade_divisor gs in
      let o = of_basis gs p a in
      let q = indexed_product o.set (basis gs) in
      let e = exponent_left p q in
      let f = multiple_of d e (left_lt p q) (left_agree d (indexed_lt o.set (basis gs)) (agree_flip o.agrees)) in
      let l : o.set < 2 ^ rank gs = rw (basis_count gs) at o.within in (
        o.set * phases + e / grade gs,
        digits_lt l f.0,
        rw (digits_div o.set f.0, digits_mod o.set f.0, f.1) (left_same p q (indexed_lt o.set (basis gs)) (sym o.agrees.x) (sym o.agrees.z)),
      )

  elements : List Pauli
  elements = values_of element size

  elements_count : length elements ≡ size
  unfolding elements
  elements_count = values_count element size

  element_at_lem : (i : ℕ) → i < length elements → get_or elements i I ≡ element i
  unfolding elements
  element_at_lem i l = value_at_lem element size i (rw elements_count at l)

pub size_law : (promise : Promise) (gs : List Pauli) → Honest promise gs → SizeLaw promise gs
unfolding log2_size size phases elements
size_law promise gs h = record {
  elements = elements gs;
  count = elements_count gs ∙ total;
  distinct = λ i j li lj s. elements_apart gs i j (rw (elements_count gs) at li) (rw (elements_count gs) at lj) (rw (element_at_lem gs i li, element_at_lem gs j lj) at s);
  generated = all_by (Generated gs) (elements gs) I λ i l. rw (element_at_lem gs i l) (element_in gs i);
  complete = λ p a. let f = element_found gs p a in
      let l : f.0 < length (elements gs) = rw (elements_count gs) f.1 in (f.0, l, rw (element_at_lem gs f.0 l) f.2);
}
  where
    total : 2 ^ rank gs * (4 / grade gs) ≡ 2 ^ (rank gs + (2 - phase_step promise gs / 2))
    total =
        ap (2 ^ rank gs *◌) (multiples_count (grade_divisor gs) ∙ ap (λ (m : ℕ). 2 ^ (2 - m / 2)) (sym (phase_step_grade promise gs h)))
        ∙ sym (pow-add 2 (rank gs) (2 - phase_step promise gs / 2))
