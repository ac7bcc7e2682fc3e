-- The listed elements: how many, which has a given number, and that they are the group's, each once.
use mathlib.Core.Path.{◌≡◌, refl, sym, ap, ap₂, ◌∙◌}
use mathlib.Core.List.{List, [], ◌∷◌, ◌++◌, map, flat_map, append-nil}
use Prim.Native.Nat.{ℕ, zero, suc, ◌+◌, ◌-◌, ◌*◌, ◌/◌, ◌%◌, ◌^◌, ◌<◌}
use native.Mathlib.Nat.{mod-lt, div-add-mod', div-lt_iff_lt-mul, pow-suc}
use native.Mathlib.Decide.{dec_lt}
use native.Mathlib.Omega.{arith}
use lib.Arith.{digits_lt, digits_div, digits_mod}
use lib.Bits.{bit_or}
use lib.ListN.{length, get_or, take, length-append, length-map, get_or-append}
use lib.Pow.{pow-add}
use lib.Seq.{get_or-append-add, take_at}
use Rattle.binar.specs.Row.{weight}
use Rattle.binar.proofs.row.Bits.{ones_zero}
use Rattle.binar.proofs.Lists.{all_map, all_by}
use Rattle.pauli.specs.Support.{All}
use Rattle.pauli.specs.Pauli.{Pauli, I, turned, pauli_weight, product, cons_if, select, indexed_product, phase}
use Rattle.pauli.specs.PauliTheorems.{PauliOn}
use Rattle.pauli_theory.specs.Group.{Generated, Promise, Honest}
use Rattle.pauli_theory.specs.Standard.{support_of, if_zero, rank, appended, standard, bare, phases_of, phase_step, log2_size}
use Rattle.pauli_theory.specs.Listing.{count_from, up_to, subsets, subset_at, nontrivial, phase_count, with_phases, elements_of}
use Rattle.pauli_theory.specs.ListingTheorems.{ElementsLaw, ListedLaw}
use Rattle.pauli_theory.proofs.Agree.{Divisor, one, two, four}
use Rattle.pauli_theory.proofs.IfZero.{if_zero_zero, if_zero_more}
use Rattle.pauli_theory.proofs.Rows.{generated_on}
use Rattle.pauli_theory.proofs.Grade.{sign_test, grade}
use Rattle.pauli_theory.proofs.Elements.{basis, basis_count, basis_products_in}
use Rattle.pauli_theory.proofs.Standard.{completed, standard_is}
use Rattle.pauli_theory.proofs.Phases.{basis_bare, phase_step_grade, phases_cases}
use Rattle.pauli_theory.proofs.Size.{some_multiple, multiples_count, phases, size, element, phases_positive, element_in, set_below, elements_apart, element_found}
use Rattle.pauli_theory.proofs.OverPlaces.{up_to_length, up_to_at}
use Rattle.pauli_theory.proofs.ListingSubsets.{get_map, select_none, subset_at_lem, subsets_count}
use Rattle.pauli_theory.proofs.ListingNumbers.{ones_none, numbers_law}

-- ---- the generators taken are the basis
nontrivial_append : (ps qs : List Pauli) → All (λ p. 0 < pauli_weight p) ps → nontrivial (ps ++ qs) ≡ ps ++ nontrivial qs
unfolding nontrivial
nontrivial_append [] qs h = refl
nontrivial_append (p ∷ ps) qs h =
    if_zero_more (pauli_weight p) [] (p ∷ nontrivial (ps ++ qs)) h.0 ∙ ap (p ∷◌) (nontrivial_append ps qs h.1)

phase_trivial : (k : ℕ) → nontrivial (phase k ∷ []) ≡ []
unfolding nontrivial pauli_weight weight phase
phase_trivial k = if_zero_zero [] (phase k ∷ []) ones_zero

appended_trivial : (m : ℕ) (ps : List Pauli) → nontrivial (appended m ps) ≡ []
unfolding appended nontrivial
appended_trivial zero ps = refl
appended_trivial (suc zero) ps = phase_trivial 1
appended_trivial (suc (suc zero)) ps = phase_trivial 2
appended_trivial (suc (suc (suc m))) [] = phase_trivial 0
appended_trivial (suc (suc (suc m))) (p ∷ ps) = refl

bare_weight : (p : Pauli) → bare p 1 ≡ 0 → 0 < pauli_weight p
unfolding bare pauli_weight weight
bare_weight p h =
    let v = bit_or p.x p.z in
    elim (dec_lt 0 (weight v)) [
      | yes y ↦ y
      | no z ↦ absurd (omega (arith, h, if_zero_zero {X = ℕ} {n = v} 1 0 (ones_none v (omega arith))))
    ]

module _ (gs : List Pauli) where
  rest : List Pauli
  rest = appended (if_zero (sign_test (basis gs)) (grade gs) (grade gs % 2)) (basis gs)

  standard_parts : standard gs ≡ basis gs ++ rest
  unfolding completed rest
  standard_parts = standard_is gs

  nontrivial_basis : nontrivial (standard gs) ≡ basis gs
  unfolding rest
  nontrivial_basis =
      ap nontrivial standard_parts
      ∙ nontrivial_append (basis gs) rest (all_map (λ p h. bare_weight p (h 1)) (basis gs) (basis_bare gs))
      ∙ ap (basis gs ++◌) (appended_trivial _ (basis gs)) ∙ append-nil (basis gs)

  pub first_standard : take (rank gs) (standard gs) ≡ basis gs
  first_standard = ap (take (rank gs)) standard_parts ∙ take_at (basis gs) rest (rank gs) (basis_count gs)

-- ---- lists of one length in a row
module _ {A : Type 0} {B : Type 0} (f : A → List B) (c : ℕ) (each : (a : A) → length (f a) ≡ c) where
  flat_count : (l : List A) → length (flat_map f l) ≡ length l * c
  unfolding flat_map
  flat_count [] = omega arith
  flat_count (a ∷ l) = length-append (f a) (flat_map f l) ∙ omega (arith, each a, flat_count l)

  flat_at : (l : List A) (q r : ℕ) (a : A) (b : B) → q < length l → r < c → get_or (flat_map f l) (q * c + r) b ≡ get_or (f (get_or l q a)) r b
  unfolding flat_map
  flat_at [] q r a b h k = absurd (omega arith)
  flat_at (x ∷ l) zero r a b h k =
      let e : 0 * c + r ≡ r = omega arith in
      ap (λ (i : ℕ). get_or (f x ++ flat_map f l) i b) e ∙ get_or-append (f x) (flat_map f l) b r (rw (each x) k)
  flat_at (x ∷ l) (suc q) r a b h k =
      let e : suc q * c + r ≡ length (f x) + (q * c + r) = omega (arith, each x) in
      ap (λ (i : ℕ). get_or (f x ++ flat_map f l) i b) e ∙ get_or-append-add (f x) (flat_map f l) (q * c + r) b ∙ flat_at l q r a b (omega arith) k

-- ---- the elements by the step m and the generators ps
abbrev multiples : ℕ → List ℕ
multiples m = map (m *◌) (up_to (4 / m))

abbrev listed : ℕ → List Pauli → List Pauli
listed m ps = flat_map (with_phases (multiples m)) (subsets ps)

module _ (m : ℕ) where
  multiples_length : length (multiples m) ≡ 4 / m
  multiples_length = length-map (up_to (4 / m)) (m *◌) ∙ up_to_length (4 / m)

  multiple_at : (r : ℕ) → r < 4 / m → get_or (multiples m) r 0 ≡ m * r
  multiple_at r h = get_map (m *◌) (up_to (4 / m)) r 0 0 (rw up_to_length h) ∙ ap (m *◌) (up_to_at (4 / m) r h)

  phases_length : (ps : List Pauli) → length (with_phases (multiples m) ps) ≡ 4 / m
  unfolding with_phases
  phases_length ps = length-map (multiples m) (λ k. turned k (product ps)) ∙ multiples_length

  listed_count : (ps : List Pauli) → length (listed m ps) ≡ 2 ^ length ps * (4 / m)
  listed_count ps = flat_count (with_phases (multiples m)) (4 / m) phases_length (subsets ps) ∙ ap (◌* (4 / m)) (subsets_count ps)

  listed_at : (ps : List Pauli) → 0 < 4 / m → (i : ℕ) → i < 2 ^ length ps * (4 / m)
      → get_or (listed m ps) i I ≡ turned (m * (i % (4 / m))) (indexed_product (subset_at (length ps) (i / (4 / m))) ps)
  unfolding with_phases indexed_product
  listed_at ps pos i h =
      let c = 4 / m in
      let q = i / c in
      let r = i % c in
      let lr : r < c = mod-lt i pos in
      let lq : q < 2 ^ length ps = (div-lt_iff_lt-mul pos).1 h in
      let s = get_or (subsets ps) q [] in
      ap (λ (j : ℕ). get_or (listed m ps) j I) (sym (div-add-mod' i c))
      ∙ flat_at (with_phases (multiples m)) c phases_length (subsets ps) q r [] I (rw subsets_count lq) lr
      ∙ get_map (λ k. turned k (product s)) (multiples m) r 0 I (rw multiples_length lr)
      ∙ ap₂ (λ (k : ℕ) (t : List Pauli). turned k (product t)) (multiple_at r lr) (sym (subset_at_lem ps q lq))

-- ---- sets of the first generators
pub select_first : {A : Type 0} (s : ℕ) (xs ys : List A) → s < 2 ^ length xs → select s (xs ++ ys) ≡ select s xs
unfolding select
select_first s [] ys h = let e : s ≡ 0 = omega arith in ap (λ (t : ℕ). select t ys) e ∙ select_none ys
select_first s (x ∷ xs) ys h =
    let l : s < 2 ^ suc (length xs) = h in
    ap (cons_if (s % 2) x) (select_first (s / 2) xs ys (omega (arith, pow-suc 2 (length xs))))

-- ---- any promise
pub step_divisor : (promise : Promise) (gs : List Pauli) → Divisor (phase_step promise gs)
step_divisor = phases_cases (λ ks s. Divisor s) four two one

phases_multiples : (promise : Promise) (gs : List Pauli) → phases_of promise gs ≡ multiples (phase_step promise gs)
unfolding up_to count_from
phases_multiples = phases_cases (λ ks s. ks ≡ multiples s) refl refl refl

module _ (promise : Promise) (gs : List Pauli) where
  elements_are : elements_of promise gs ≡ listed (phase_step promise gs) (basis gs)
  unfolding elements_of
  elements_are =
      ap (λ (ks : List ℕ). flat_map (with_phases ks) (subsets (nontrivial (standard gs)))) (phases_multiples promise gs)
      ∙ ap (listed (phase_step promise gs)) (nontrivial_basis gs)

  count_of : length (elements_of promise gs) ≡ 2 ^ rank gs * (4 / phase_step promise gs)
  count_of = ap length elements_are ∙ listed_count (phase_step promise gs) (basis gs) ∙ ap (λ (n : ℕ). 2 ^ n * (4 / phase_step promise gs)) (basis_count gs)

  at_basis : (i : ℕ) → i < length (elements_of promise gs) → let m = phase_step promise gs in
      get_or (elements_of promise gs) i I ≡ turned (m * (i % (4 / m))) (indexed_product (subset_at (rank gs) (i / (4 / m))) (basis gs))
  at_basis i h =
      let m = phase_step promise gs in
      ap (λ (l : List Pauli). get_or l i I) elements_are
      ∙ listed_at m (basis gs) (some_multiple (step_divisor promise gs)) i (rw basis_count (rw count_of at h))
      ∙ ap (λ (n : ℕ). turned (m * (i % (4 / m))) (indexed_product (subset_at n (i / (4 / m))) (basis gs))) (basis_count gs)

  first_product : (s : ℕ) → s < 2 ^ rank gs → indexed_product s (basis gs) ≡ indexed_product s (standard gs)
  unfolding indexed_product
  first_product s h = ap product (sym (select_first s (basis gs) (rest gs) (rw basis_count h)) ∙ ap (select s) (sym (standard_parts gs)))

  turned_on : (k s : ℕ) → PauliOn (support_of gs) (turned k (indexed_product s (basis gs)))
  unfolding turned
  turned_on k s = let o = generated_on gs (indexed_product s (basis gs)) (basis_products_in gs s) in record { x = o.x; z = o.z }

  turned_value : (k : ℕ) (p : Pauli) → (turned k p).e < 4
  unfolding turned
  turned_value k p = omega arith

  pub elements_law : ElementsLaw promise gs
  unfolding phase_count log2_size
  elements_law =
      let m = phase_step promise gs in
      let d = step_divisor promise gs in
      record {
        generators = nontrivial_basis gs ∙ sym (first_standard gs);
        count = count_of ∙ ap (2 ^ rank gs *◌) (multiples_count d) ∙ sym (pow-add 2 (rank gs) (2 - m / 2));
        count_by_rank = count_of;
        at_number = λ i h. at_basis i h ∙ ap (turned (m * (i % (4 / m))))
            (first_product (subset_at (rank gs) (i / (4 / m)))
            ((numbers_law (rank gs)).below (i / (4 / m)) ((div-lt_iff_lt-mul (some_multiple d)).1 (rw count_of at h))));
        on_support = all_by (PauliOn (support_of gs)) (elements_of promise gs) I λ i h. rw (at_basis i h) (turned_on _ _);
        values = all_by (λ p. p.e < 4) (elements_of promise gs) I λ i h. rw (at_basis i h) (turned_value _ _);
      }

-- ---- an absent or true promise: element number i is the one that proofs/Size numbers by its set and phase
module _ (gs : List Pauli) where
  place : ℕ → ℕ
  place i = subset_at (rank gs) (i / phases gs) * phases gs + i % phases gs

  place_phase : (i : ℕ) → i % phases gs < phases gs
  place_phase i = mod-lt i (phases_positive gs)

  place_div : (i : ℕ) → place i / phases gs ≡ subset_at (rank gs) (i / phases gs)
  unfolding place
  place_div i = digits_div (subset_at (rank gs) (i / phases gs)) (place_phase i)

  place_mod : (i : ℕ) → place i % phases gs ≡ i % phases gs
  unfolding place
  place_mod i = digits_mod (subset_at (rank gs) (i / phases gs)) (place_phase i)

  place_lt : (i : ℕ) → i < size gs → place i < size gs
  unfolding place size
  place_lt i h = digits_lt ((numbers_law (rank gs)).below (i / phases gs) (set_below gs i h)) (place_phase i)

  place_apart : (i j : ℕ) → i < size gs → j < size gs → place i ≡ place j → i ≡ j
  place_apart i j hi hj e =
      let n = phases gs in
      let q : i / n ≡ j / n = (numbers_law (rank gs)).apart (i / n) (j / n) (set_below gs i hi) (set_below gs j hj) (sym (place_div i) ∙ ap (◌/ n) e ∙ place_div j) in
      let r : i % n ≡ j % n = sym (place_mod i) ∙ ap (◌% n) e ∙ place_mod j in
      sym (div-add-mod' i n) ∙ ap₂ (λ (a b : ℕ). a * n + b) q r ∙ div-add-mod' j n

  place_reached : (i : ℕ) → i < size gs → (j : ℕ) × (j < size gs) × (place j ≡ i)
  unfolding place size
  place_reached i h =
      let n = phases gs in
      let f = (numbers_law (rank gs)).reached (i / n) (set_below gs i h) in
      let j = f.0 * n + i % n in (
        j,
        digits_lt f.1 (place_phase i),
        ap₂ (λ (a b : ℕ). subset_at (rank gs) a * n + b) (digits_div f.0 (place_phase i)) (digits_mod f.0 (place_phase i))
            ∙ ap (λ (a : ℕ). a * n + i % n) f.2 ∙ div-add-mod' i n,
      )

module _ (promise : Promise) (gs : List Pauli) (honest : Honest promise gs) where
  listed_size : length (elements_of promise gs) ≡ size gs
  unfolding size phases
  listed_size = count_of promise gs ∙ ap (λ (m : ℕ). 2 ^ rank gs * (4 / m)) (phase_step_grade promise gs honest)

  listed_element : (i : ℕ) → i < length (elements_of promise gs) → get_or (elements_of promise gs) i I ≡ element gs (place gs i)
  unfolding element phases
  listed_element i h =
      at_basis promise gs i h
      ∙ ap (λ (m : ℕ). turned (m * (i % (4 / m))) (indexed_product (subset_at (rank gs) (i / (4 / m))) (basis gs))) (phase_step_grade promise gs honest)
      ∙ sym (ap₂ (λ (s r : ℕ). turned (grade gs * r) (indexed_product s (basis gs))) (place_div gs i) (place_mod gs i))

  pub listed_law : ListedLaw promise gs
  listed_law = record {
    distinct = λ i j hi hj s.
        let li : i < size gs = rw listed_size at hi in
        let lj : j < size gs = rw listed_size at hj in
        place_apart gs i j li lj
        (elements_apart gs (place gs i) (place gs j) (place_lt gs i li) (place_lt gs j lj) (rw (listed_element i hi, listed_element j hj) at s));
    generated = all_by (Generated gs) (elements_of promise gs) I λ i h. rw (listed_element i h) (element_in gs (place gs i));
    complete = λ p a.
        let f = element_found gs p a in
        let g = place_reached gs f.0 f.1 in
        let h : g.0 < length (elements_of promise gs) = rw listed_size g.1 in (g.0, h, rw (listed_element g.0 h, g.2) f.2);
  }
