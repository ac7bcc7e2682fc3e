-- Modulo: each standard generator is multiplied by elements of the other group until it has no one at a pivot of the other's form.
use mathlib.Core.Path.{◌≡◌, refl, sym, ap, ap₂, ◌∙◌}
use mathlib.Core.Bool.{Bool, true, false, cond}
use mathlib.Core.List.{List, [], ◌∷◌, ◌++◌, map, map-map, map-id, map-append}
use Prim.Native.Nat.{ℕ, zero, suc, ◌+◌, ◌-◌, ◌*◌, ◌%◌, ◌≤◌, ◌<◌}
use native.Mathlib.Nat.{mod-lt, mod-eq_of_lt, mod-eq-sub-mod}
use native.Mathlib.Omega.{arith}
use lib.Dec.{ltb}
use lib.ListN.{length, get_or, take, drop, length-map, take-append-drop}
use borrow.Author.Tests.{ltb-true, ltb-false}
use Rattle.binar.specs.Row.{bit, if_bit}
use Rattle.binar.specs.Echelon.{clear, R, rank as echelon_rank}
use Rattle.binar.specs.Solve.{sweep}
use Rattle.binar.proofs.Lists.{all_of, all_map, all_zip, all_join, all_over, all_under}
use Rattle.binar.proofs.echelon.Span.{if_bit_case, if_bit_map}
use Rattle.binar.proofs.echelon.Reduced.{pivots_in}
use Rattle.binar.proofs.echelon.Solve.{sweep_clears}
use Rattle.binar.proofs.echelon.Space.{R-reduced}
use Rattle.pauli.specs.Support.{All}
use Rattle.pauli.specs.Pauli.{Pauli, I, times}
use Rattle.pauli.specs.Sets.{row_of}
use Rattle.pauli.proofs.condense.Rows.{column_x, column_z, row_times}
use Rattle.pauli_theory.specs.Group.{Generated, Inside, Promise, Honest}
use Rattle.pauli_theory.specs.Standard.{support_of, form_of, rank, appended, if_zero, exponent_mod, standard, phase_step}
use Rattle.pauli_theory.specs.Modulo.{supports_other, multiplied, multiplied_by_all, modulo}
use Rattle.pauli_theory.specs.Theorems.{Coset, ModuloLaw}
use Rattle.pauli_theory.proofs.Agree.{Divisor, one, two, four, Agree, divisor_positive, agree_exponent_mod}
use Rattle.pauli_theory.proofs.Group.{inside_by, all_inside, inside_join, joined_law}
use Rattle.pauli_theory.proofs.Form.{pivot_rows_lem}
use Rattle.pauli_theory.proofs.Rows.{generated_on}
use Rattle.pauli_theory.proofs.Powers.{Power}
use Rattle.pauli_theory.proofs.Pivots.{pivot_rows_of_lem}
use Rattle.pauli_theory.proofs.Grade.{sign_test, grade, grade_divisor, grade_power}
use Rattle.pauli_theory.proofs.Elements.{basis, basis_count, basis_rows}
use Rattle.pauli_theory.proofs.Standard.{completed, standard_is, standard_in, standard_inside, inside_standard}
use Rattle.pauli_theory.proofs.Phases.{phase_step_grade, phases_has, phases_only}
use Rattle.pauli_theory.proofs.Cosets.{coset_self, coset_times, coset_agree, coset_in, coset_back}

-- ---- one generator at a time
module _ (qs : List ℕ) where
  -- g through all the multiplications
  unfoldable pub through : List Pauli → List ℕ → Pauli → Pauli
  through [] cs g = g
  through (h ∷ hs) [] g = g
  through (h ∷ hs) (c ∷ cs) g = through hs cs (multiplied qs c h g)

  pub each_through : (hs : List Pauli) (cs : List ℕ) (gs : List Pauli) → multiplied_by_all qs hs cs gs ≡ map (through hs cs) gs
  unfolding multiplied_by_all through
  each_through [] cs gs = sym (map-id gs)
  each_through (h ∷ hs) [] gs = sym (map-id gs)
  each_through (h ∷ hs) (c ∷ cs) gs = each_through hs cs (map (multiplied qs c h) gs) ∙ map-map (through hs cs) (multiplied qs c h) gs

  -- what is multiplied stays in the coset
  through_coset : (ks hs : List Pauli) → All (Generated ks) hs → (cs : List ℕ) (g p : Pauli) → Coset ks g p
      → Coset ks g (through hs cs p)
  unfolding through multiplied
  through_coset ks [] a cs g p c = c
  through_coset ks (h ∷ hs) a [] g p c = c
  through_coset ks (h ∷ hs) a (k ∷ cs) g p c =
      through_coset ks hs a.1 cs g _ (if_bit_case (Coset ks g) (supports_other qs k p) (λ z. c) (λ l. coset_times ks g p h c a.0))

  -- ---- as a row: the test is the bit of the pivot's column, and the multiplications are a sweep
  pub supports_column : (c : ℕ) → c < 2 * length qs → (p : Pauli) → supports_other qs c p ≡ bit (row_of qs p) c
  unfolding supports_other
  supports_column c l p = go (ltb c (length qs)) refl
    where
      qubit : ℕ
      qubit = get_or qs (c % length qs) 0

      go : (b : Bool) → ltb c (length qs) ≡ b → cond b (bit p.x qubit) (bit p.z qubit) ≡ bit (row_of qs p) c
      go true e =
          let h = ltb-true c (length qs) e in
          ap (λ (i : ℕ). bit p.x (get_or qs i 0)) (mod-eq_of_lt h) ∙ sym (column_x qs p c h)
      go false e =
          let h = ltb-false c (length qs) e in
          let k : c - length qs < length qs = omega arith in
          let back : length qs + (c - length qs) ≡ c = omega arith in
          ap (λ (i : ℕ). bit p.z (get_or qs i 0)) (mod-eq-sub-mod h ∙ mod-eq_of_lt k)
          ∙ sym (column_z qs p (c - length qs) k) ∙ ap (bit (row_of qs p)) back

  row_multiplied : (c : ℕ) → c < 2 * length qs → (h g : Pauli) → row_of qs (multiplied qs c h g) ≡ clear c (row_of qs h) (row_of qs g)
  unfolding multiplied clear
  row_multiplied c l h g =
      if_bit_map (row_of qs) (supports_other qs c g) (times g h) g
      ∙ ap₂ (λ (d v : ℕ). if_bit d v (row_of qs g)) (supports_column c l g) (row_times qs g h)

  row_through : (hs : List Pauli) (cs : List ℕ) → All (λ c. c < 2 * length qs) cs → (g : Pauli)
      → row_of qs (through hs cs g) ≡ sweep cs (map (row_of qs) hs) (row_of qs g)
  unfolding through sweep
  row_through [] [] l g = refl
  row_through [] (c ∷ cs) l g = refl
  row_through (h ∷ hs) [] l g = refl
  row_through (h ∷ hs) (c ∷ cs) l g =
      row_through hs cs l.1 (multiplied qs c h g) ∙ ap (sweep cs (map (row_of qs) hs)) (row_multiplied c l.0 h g)

  supports_agree : {m : ℕ} {p q : Pauli} → Agree m p q → (c : ℕ) → supports_other qs c p ≡ supports_other qs c q
  unfolding supports_other
  supports_agree a c = rw (a.x, a.z)

-- ---- the rows of the standard generators begin with the pivot rows
-- a sweep looks at as many rows as there are pivots
sweep_front : (ps A B : List ℕ) (v : ℕ) → length A ≡ length ps → sweep ps (A ++ B) v ≡ sweep ps A v
unfolding sweep
sweep_front [] A B v e = refl
sweep_front (p ∷ ps) [] B v e = absurd (omega arith)
sweep_front (p ∷ ps) (w ∷ A) B v e = sweep_front ps A B (clear p w v) (omega arith)

module _ (hs : List Pauli) where
  abbrev qs : List ℕ
  qs = support_of hs

  abbrev pivots : List ℕ
  pivots = (form_of hs).pivots

  pub pivots_low : All (λ c. c < 2 * length qs) pivots
  unfolding form_of
  pivots_low = pivots_in (R-reduced (2 * length qs) (map (row_of qs) hs))

  first_rows : map (row_of qs) (basis hs) ≡ take (rank hs) (R (form_of hs))
  unfolding form_of rank
  first_rows = basis_rows hs ∙ pivot_rows_of_lem hs ∙ pivot_rows_lem (2 * length qs) (map (row_of qs) hs)

  sweep_standard : (v : ℕ) → sweep pivots (map (row_of qs) (standard hs)) v ≡ sweep pivots (R (form_of hs)) v
  unfolding completed rank echelon_rank
  sweep_standard v =
      let B = basis hs in
      let more = appended (if_zero (sign_test B) (grade hs) (grade hs % 2)) B in
      let n : length (map (row_of qs) B) ≡ length pivots = length-map B (row_of qs) ∙ basis_count hs in
      ap (λ ps. sweep pivots (map (row_of qs) ps) v) (standard_is hs)
      ∙ ap (λ M. sweep pivots M v) (map-append (row_of qs) B more)
      ∙ sweep_front pivots (map (row_of qs) B) (map (row_of qs) more) v n
      ∙ sym (sweep_front pivots (map (row_of qs) B) (drop (rank hs) (R (form_of hs))) v n)
      ∙ ap (λ M. sweep pivots (M ++ drop (rank hs) (R (form_of hs))) v) first_rows
      ∙ ap (λ M. sweep pivots M v) (take-append-drop (rank hs) (R (form_of hs)))

  through_clear : (g : Pauli) → All (λ c. supports_other qs c (through qs (standard hs) pivots g) ≡ 0) pivots
  unfolding form_of
  through_clear g =
      let p = through qs (standard hs) pivots g in
      let rows : row_of qs p ≡ sweep pivots (R (form_of hs)) (row_of qs g) =
      row_through qs (standard hs) pivots pivots_low g ∙ sweep_standard (row_of qs g) in
      all_zip (λ c l z. supports_column qs c l p ∙ ap (λ (v : ℕ). bit v c) rows ∙ z) pivots pivots_low
      (sweep_clears (R-reduced (2 * length qs) (map (row_of qs) hs)) (row_of qs g))

-- ---- the modulus
step_least : {m : ℕ} → Divisor m → (e : ℕ) → e < 4 → e % m ≡ 0 → m ≤ 4 - e
step_least one e l h = omega arith
step_least two e l h = omega arith
step_least four e l h = omega arith

step_attained : {m : ℕ} → Divisor m → (e : ℕ) × (e < 4) × (e % m ≡ 0) × (m ≡ 4 - e)
step_attained one = (3, omega arith, refl, refl)
step_attained two = (2, omega arith, refl, refl)
step_attained four = (0, omega arith, refl, refl)

-- ---- the law
get_or_over : (f : Pauli → Pauli) (ps : List Pauli) (i : ℕ) (d e : Pauli) → i < length ps → get_or (map f ps) i d ≡ f (get_or ps i e)
get_or_over f [] i d e l = absurd (omega arith)
get_or_over f (p ∷ ps) zero d e l = refl
get_or_over f (p ∷ ps) (suc i) d e l = get_or_over f ps i d e (omega arith)

module _ (promise : Promise) (gs hs : List Pauli) (honest : Honest promise hs) where
  abbrev m : ℕ
  m = phase_step promise hs

  step_divisor : Divisor m
  step_divisor = rw (phase_step_grade promise hs honest) (grade_divisor hs)

  step_power : Power hs m
  step_power = rw (phase_step_grade promise hs honest) (grade_power hs)

  -- what becomes of a standard generator
  returned : Pauli → Pauli
  returned g = exponent_mod m (through (support_of hs) (standard hs) (form_of hs).pivots g)

  modulo_is : modulo promise gs hs ≡ map returned (standard gs)
  unfolding modulo returned
  modulo_is =
      let f = through (support_of hs) (standard hs) (form_of hs).pivots in
      ap (map (exponent_mod m)) (each_through (support_of hs) (standard hs) (form_of hs).pivots (standard gs))
      ∙ map-map (exponent_mod m) f (standard gs)

  returned_coset : (g : Pauli) → Coset hs g (returned g)
  unfolding returned
  returned_coset g =
      let p = through (support_of hs) (standard hs) (form_of hs).pivots g in
      coset_agree hs step_divisor step_power g p (exponent_mod m p) (agree_exponent_mod p step_divisor)
      (through_coset (support_of hs) hs (standard hs) (standard_in hs) (form_of hs).pivots g g (coset_self hs g))

  returned_clear : (g : Pauli) → All (λ c. supports_other (support_of hs) c (returned g) ≡ 0) (form_of hs).pivots
  unfolding returned
  returned_clear g =
      let p = through (support_of hs) (standard hs) (form_of hs).pivots g in
      all_map (λ c z. supports_agree (support_of hs) (agree_exponent_mod p step_divisor) c ∙ z) (form_of hs).pivots (through_clear hs g)

  returned_low : (g : Pauli) → (returned g).e < m
  unfolding returned exponent_mod
  returned_low g = mod-lt _ (divisor_positive step_divisor)

  -- in a group that has the other's
  module _ (ks : List Pauli) (f : Inside hs ks) where
    returned_in : All (Generated ks) (standard gs) → All (Generated ks) (modulo promise gs hs)
    returned_in a =
        rw modulo_is
        (all_over (Generated ks) returned (standard gs)
        (all_map (λ g. coset_in hs ks f g (returned g) (returned_coset g)) (standard gs) a))

    returned_back : All (Generated ks) (modulo promise gs hs) → All (Generated ks) (standard gs)
    returned_back a =
        all_map (λ g. coset_back hs ks f g (returned g) (returned_coset g)) (standard gs)
        (all_under (Generated ks) returned (standard gs) (rw modulo_is at a))

  modulo_in : All (Generated (gs ++ hs)) (modulo promise gs hs)
  modulo_in =
      let ks = gs ++ hs in
      let J = joined_law gs hs in
      returned_in ks J.right (all_inside (standard gs) ks (inside_join (standard gs) gs ks (standard_inside gs) J.left))

  modulo_there : Inside (modulo promise gs hs ++ hs) (gs ++ hs)
  modulo_there =
      let ks = gs ++ hs in
      let ms = modulo promise gs hs in
      inside_by (ms ++ hs) ks (all_join (Generated ks) ms hs modulo_in (all_inside hs ks (joined_law gs hs).right))

  modulo_back : Inside (gs ++ hs) (modulo promise gs hs ++ hs)
  modulo_back =
      let ms = modulo promise gs hs in
      let ks = ms ++ hs in
      let J = joined_law ms hs in
      let s = inside_by (standard gs) ks (returned_back ks J.right (all_inside ms ks J.left)) in
      inside_by (gs ++ hs) ks
      (all_join (Generated ks) gs hs (all_inside gs ks (inside_join gs (standard gs) ks (inside_standard gs) s)) (all_inside hs ks J.right))

  pub modulo_law : ModuloLaw promise gs hs
  modulo_law = record {
    count = ap length modulo_is ∙ length-map (standard gs) returned;
    cosets = λ i l. rw (modulo_is, get_or_over returned (standard gs) i I I l) (returned_coset (get_or (standard gs) i I));
    clear = rw modulo_is (all_over _ returned (standard gs) (all_of returned_clear (standard gs)));
    generates = record { there = modulo_there; back = modulo_back };
    on_support = all_map (generated_on (gs ++ hs)) (modulo promise gs hs) modulo_in;
    low = rw modulo_is (all_over _ returned (standard gs) (all_of returned_low (standard gs)));
    least = λ e k. let among = phases_only promise hs e k in step_least step_divisor e among.0 among.1;
    attained = let (e, l, k, same) = step_attained step_divisor in (e, phases_has promise hs e l k, same);
  }
