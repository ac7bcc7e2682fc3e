-- `modulo` over the places of a support that both lists have: moved there, the standard generators of each list are those
-- of the list over these places; and the multiplications there are those of the Paulis.
use mathlib.Core.Path.{◌≡◌, refl, sym, ap, ap₂, ◌∙◌}
use mathlib.Core.Logic.{⊎_elim}
use mathlib.Core.Bool.{Bool, cond}
use mathlib.Core.List.{List, [], ◌∷◌, ◌++◌, map, map-map, Memᴰ as Mem}
use Prim.Native.Nat.{ℕ, zero, suc, ◌*◌, ◌%◌, ◌^◌, ◌≤◌, ◌<◌, max}
use native.Mathlib.Nat.{mod-lt}
use native.Mathlib.Omega.{arith}
use native.Mathlib.Decide.{ℕ_discrete}
use lib.Bits.{bit_or}
use lib.Dec.{ltb}
use lib.ListN.{length, get_or, drop, drop_of_length-le, length-append, length-map}
use lib.Pow.{pow-lt}
use Rattle.binar.specs.Row.{bit, if_bit}
use Rattle.binar.specs.Echelon.{rank as echelon_rank}
use Rattle.binar.proofs.row.Bits.{bit_of_zero, xor_lt}
use Rattle.binar.proofs.Lists.{all_of, all_map, all_over, all_left, all_right, map_same}
use Rattle.binar.proofs.echelon.Span.{if_bit_case, if_bit_map}
use Rattle.pauli.specs.Roll.{write}
use Rattle.pauli.specs.Support.{All, Rising}
use Rattle.pauli.specs.Pauli.{Pauli, I, times}
use Rattle.pauli.specs.Known.{place_of}
use Rattle.pauli.specs.Sets.{condense, expand, sparse_of}
use Rattle.pauli.specs.PauliTheorems.{On, PauliOn}
use Rattle.pauli.specs.Condense.{condensed}
use Rattle.pauli.specs.Writing.{roll_over, OnPlaces}
use Rattle.pauli.proofs.signed.Algebra.{pauli_path}
use Rattle.pauli.proofs.support.Lists.{in_get_or}
use Rattle.pauli.proofs.condense.Sets.{members_has, members_only}
use Rattle.pauli.proofs.condense.MoreBits.{bit_or_lem, in_or, bit_unit, bit_unit_other, same_bit, ext_ones, ext_below}
use Rattle.pauli.proofs.condense.Places.{place_in, qubit_at_place, place_of_qubit, condense_bit, condense_lt, condense_or, expand_on, expand_bit, expand_condense}
use Rattle.pauli.proofs.condense.Rows.{on_times}
use Rattle.pauli.proofs.write.Condensed.{condensed_times}
use Rattle.pauli_theory.specs.Group.{Promise}
use Rattle.pauli_theory.specs.Standard.{used_by, support_of, form_of, rank, appended, if_zero, exponent_mod, standard, phase_step}
use Rattle.pauli_theory.specs.Modulo.{supports_other, multiplied, multiplied_by_all, modulo}
use Rattle.pauli_theory.specs.Inner.ModuloPlaces.{moved_set, moved_pauli, pivot_place, multiplied_at, multiplied_over, multiplied_by_all_over}
use Rattle.pauli_theory.proofs.Group.{all_inside, inside_join, joined_law}
use Rattle.pauli_theory.proofs.Rows.{support_rises, support_on, used_least, generated_on}
use Rattle.pauli_theory.proofs.Grade.{sign_test, grade}
use Rattle.pauli_theory.proofs.Elements.{basis, basis_count}
use Rattle.pauli_theory.proofs.Standard.{completed, standard_is, standard_inside}
use Rattle.pauli_theory.proofs.StandardLaw.{standard_law}
use Rattle.pauli_theory.proofs.Modulo.{pivots_low}
use Rattle.pauli_theory.proofs.Placed.{condense_none, condensed_on, condensed_exponent_mod}
use Rattle.pauli_theory.proofs.OverPlaces.{placed, places_form, places_standard}
use Rattle.pauli_theory.proofs.Written.{written_over}

-- ---- from the places of one list to those of another
module _ (own : List ℕ) (rises : Rising 0 own) (qs : List ℕ) where
  pub moved_condensed : (v : ℕ) → On own v → moved_set own qs (condense own v) ≡ condense qs v
  unfolding moved_set
  moved_condensed v on = ap (condense qs) (expand_condense own rises v on)

  pub moved_pauli_lem : (p : Pauli) → PauliOn own p → moved_pauli own qs (condensed own p) ≡ condensed qs p
  unfolding moved_pauli condensed
  moved_pauli_lem p on = pauli_path refl (moved_condensed p.x on.x) (moved_condensed p.z on.z)

  pub moved_paulis : (ps : List Pauli) → All (PauliOn own) ps → map (moved_pauli own qs) (map (condensed own) ps) ≡ map (condensed qs) ps
  moved_paulis ps on =
      map-map (moved_pauli own qs) (condensed own) ps
      ∙ map_same (λ p. moved_pauli own qs (condensed own p)) (condensed qs) ps (all_map moved_pauli_lem ps on)

pub moved_standard : (gs : List Pauli) (qs : List ℕ) → map (moved_pauli (support_of gs) qs) (standard (placed gs)) ≡ map (condensed qs) (standard gs)
moved_standard gs qs =
    ap (map (moved_pauli (support_of gs) qs)) (places_standard gs)
    ∙ moved_paulis (support_of gs) (support_rises gs) qs (standard gs) (standard_law gs).on_support

-- ---- place by place
module _ (own : List ℕ) (rises : Rising 0 own) where
  bit_there : (r q : ℕ) → Mem q own → bit (expand own r) q ≡ bit r (place_of own q)
  bit_there r q m =
      ap (bit (expand own r)) (sym (qubit_at_place own q m)) ∙ expand_bit own rises r (place_of own q) (place_in own q m)

  or_there : (a b q : ℕ) → Mem q own → bit (expand own (bit_or a b)) q ≡ bit (bit_or (expand own a) (expand own b)) q
  or_there a b q m =
      bit_there (bit_or a b) q m ∙ bit_or_lem a b (place_of own q) ∙ sym (ap₂ max (bit_there a q m) (bit_there b q m))
      ∙ sym (bit_or_lem (expand own a) (expand own b) q)

  pub expand_or : (a b : ℕ) → expand own (bit_or a b) ≡ bit_or (expand own a) (expand own b)
  expand_or a b =
      ext_ones (expand own (bit_or a b)) (bit_or (expand own a) (expand own b))
      (λ q e. sym (or_there a b q (expand_on own (bit_or a b) q e)) ∙ e)
      (λ q e. or_there a b q (⊎_elim (expand_on own a q) (expand_on own b q) (in_or (expand own a) (expand own b) q e)) ∙ e)

unit_only : (i k : ℕ) → bit (2 ^ i) k ≡ 1 → k ≡ i
unit_only i k e = elim (ℕ_discrete k i) [ yes d ↦ d | no n ↦ absurd (omega (arith, e, bit_unit_other i k n)) ]

pub expand_unit : (own : List ℕ) → Rising 0 own → (i : ℕ) → i < length own → expand own (2 ^ i) ≡ 2 ^ get_or own i 0
expand_unit own rises i l =
    ext_ones (expand own (2 ^ i)) (2 ^ get_or own i 0)
    (λ q e.
    let m = expand_on own (2 ^ i) q e in
    let at : place_of own q ≡ i = unit_only i (place_of own q) (sym (bit_there own rises (2 ^ i) q m) ∙ e) in
    let there : get_or own i 0 ≡ q = ap (λ (k : ℕ). get_or own k 0) (sym at) ∙ qubit_at_place own q m in
    rw there (bit_unit q))
    (λ q e. rw (unit_only (get_or own i 0) q e) (expand_bit own rises (2 ^ i) i l ∙ bit_unit i))

pub condense_unit : (qs : List ℕ) → Rising 0 qs → (q : ℕ) → Mem q qs → condense qs (2 ^ q) ≡ 2 ^ place_of qs q
condense_unit qs rises q m =
    ext_below (length qs) (condense qs (2 ^ q)) (2 ^ place_of qs q) (condense_lt qs (2 ^ q)) (pow-lt (place_in qs q m)) λ i l.
    condense_bit qs (2 ^ q) i l
    ∙ same_bit (2 ^ q) (get_or qs i 0) (2 ^ place_of qs q) i
    (λ e. rw (← unit_only q (get_or qs i 0) e, place_of_qubit 0 qs rises i l) (bit_unit i))
    (λ e. rw (unit_only (place_of qs q) i e, qubit_at_place qs q m) (bit_unit q))

module _ (own : List ℕ) (rises : Rising 0 own) (qs : List ℕ) where
  pub moved_or : (a b : ℕ) → moved_set own qs (bit_or a b) ≡ bit_or (moved_set own qs a) (moved_set own qs b)
  unfolding moved_set
  moved_or a b = ap (condense qs) (expand_or own rises a b) ∙ condense_or qs (expand own a) (expand own b)

  pub moved_unit : Rising 0 qs → (i : ℕ) → i < length own → Mem (get_or own i 0) qs → moved_set own qs (2 ^ i) ≡ 2 ^ place_of qs (get_or own i 0)
  unfolding moved_set
  moved_unit h i l m = ap (condense qs) (expand_unit own rises i l) ∙ condense_unit qs h (get_or own i 0) m

  pub moved_none : moved_set own qs 0 ≡ 0
  unfolding moved_set
  moved_none = ap (condense qs) expand_none ∙ condense_none qs
    where
      expand_none : expand own 0 ≡ 0
      expand_none = ap (expand own) (sym (condense_none own)) ∙ expand_condense own rises 0 (λ q o. absurd (omega (arith, bit_of_zero q)))

  pub moved_lt : (v : ℕ) → moved_set own qs v < 2 ^ length qs
  unfolding moved_set
  moved_lt v = condense_lt qs (expand own v)

-- ---- the multiplications
-- the tested bit of a Pauli on qs: the pivot's qubit is in qs, and the bit is at its place
module _ (own : List ℕ) (qs : List ℕ) (inside : (q : ℕ) → Mem q own → Mem q qs) where
  pivot_in : (c : ℕ) → c < 2 * length own → Mem (get_or own (c % length own) 0) qs
  pivot_in c l = inside (get_or own (c % length own) 0) (in_get_or own (c % length own) 0 (mod-lt c (omega arith)))

  pub pivot_place_lem : (c : ℕ) → c < 2 * length own → pivot_place own qs c < length qs
  unfolding pivot_place
  pivot_place_lem c l = place_in qs (get_or own (c % length own) 0) (pivot_in c l)

  pub bit_at_pivot : (c : ℕ) → c < 2 * length own → (v : ℕ)
      → bit (condense qs v) (pivot_place own qs c) ≡ bit v (get_or own (c % length own) 0)
  unfolding pivot_place
  bit_at_pivot c l v =
      let q = get_or own (c % length own) 0 in
      condense_bit qs v (place_of qs q) (place_in qs q (pivot_in c l)) ∙ ap (bit v) (qubit_at_place qs q (pivot_in c l))

  pub supports_at : (c : ℕ) → c < 2 * length own → (p : Pauli) → let j = pivot_place own qs c in
      supports_other own c p ≡ cond (ltb c (length own)) (bit (condensed qs p).x j) (bit (condensed qs p).z j)
  unfolding supports_other condensed
  supports_at c l p = sym (ap₂ (cond (ltb c (length own))) (bit_at_pivot c l p.x) (bit_at_pivot c l p.z))

  module _ (rises : Rising 0 qs) where
    pub multiplied_at_lem : (c : ℕ) → c < 2 * length own → (other g : Pauli) → PauliOn qs g
        → condensed qs (multiplied own c other g)
        ≡ multiplied_at (ltb c (length own)) (pivot_place own qs c) (condensed qs other) (condensed qs g)
    unfolding multiplied multiplied_at
    multiplied_at_lem c l other g on =
        if_bit_map (condensed qs) (supports_other own c g) (times g other) g
        ∙ ap₂ (λ (d : ℕ) (p : Pauli). if_bit d p (condensed qs g)) (supports_at c l g) (sym (condensed_times qs rises g other on))

    pub multiplied_over_lem : (c : ℕ) → c < 2 * length own → (other : Pauli) (gs : List Pauli) → All (PauliOn qs) gs
        → map (multiplied_over own qs c (condensed qs other)) (map (condensed qs) gs) ≡ map (condensed qs) (map (multiplied own c other) gs)
    unfolding multiplied_over
    multiplied_over_lem c l other gs on =
        map-map (multiplied_over own qs c (condensed qs other)) (condensed qs) gs
        ∙ map_same (λ g. multiplied_over own qs c (condensed qs other) (condensed qs g)) (λ g. condensed qs (multiplied own c other g)) gs
        (all_map (λ g k. sym (multiplied_at_lem c l other g k)) gs on)
        ∙ sym (map-map (condensed qs) (multiplied own c other) gs)

-- products of Paulis on qs are on qs
module _ (own : List ℕ) (qs : List ℕ) where
  pub multiplied_on : (c : ℕ) (other g : Pauli) → PauliOn qs other → PauliOn qs g → PauliOn qs (multiplied own c other g)
  unfolding multiplied
  multiplied_on c other g o on = if_bit_case (PauliOn qs) (supports_other own c g) (λ _. on) (λ _. on_times qs g other on o)

  multiplied_all_on : (c : ℕ) (other : Pauli) (gs : List Pauli) → PauliOn qs other → All (PauliOn qs) gs
      → All (PauliOn qs) (map (multiplied own c other) gs)
  multiplied_all_on c other gs o on =
      all_over (PauliOn qs) (multiplied own c other) gs (all_map (λ g. multiplied_on c other g o) gs on)

  pub multiplied_by_all_on : (hs : List Pauli) (cs : List ℕ) (gs : List Pauli) → All (PauliOn qs) hs → All (PauliOn qs) gs
      → All (PauliOn qs) (multiplied_by_all own hs cs gs)
  unfolding multiplied_by_all
  multiplied_by_all_on [] cs gs o on = on
  multiplied_by_all_on (h ∷ hs) [] gs o on = on
  multiplied_by_all_on (h ∷ hs) (c ∷ cs) gs o on =
      multiplied_by_all_on hs cs (map (multiplied own c h) gs) o.1 (multiplied_all_on c h gs o.0 on)

  module _ (inside : (q : ℕ) → Mem q own → Mem q qs) (rises : Rising 0 qs) where
    pub multiplied_by_all_over_lem : (hs : List Pauli) (cs : List ℕ) (gs : List Pauli) → All (λ c. c < 2 * length own) cs
        → All (PauliOn qs) hs → All (PauliOn qs) gs
        → multiplied_by_all_over own qs (map (condensed qs) hs) cs (map (condensed qs) gs) ≡ map (condensed qs) (multiplied_by_all own hs cs gs)
    unfolding multiplied_by_all multiplied_by_all_over
    multiplied_by_all_over_lem [] cs gs l o on = refl
    multiplied_by_all_over_lem (h ∷ hs) [] gs l o on = refl
    multiplied_by_all_over_lem (h ∷ hs) (c ∷ cs) gs l o on =
        ap (multiplied_by_all_over own qs (map (condensed qs) hs) cs) (multiplied_over_lem own qs inside rises c l.0 h gs on)
        ∙ multiplied_by_all_over_lem hs cs (map (multiplied own c h) gs) l.1 o.1 (multiplied_all_on c h gs o.0 on)

-- ---- the multiplications by index: those from pivot k on
module _ (own : List ℕ) (qs : List ℕ) where
  pub over_next : (hs : List Pauli) (cs : List ℕ) (k : ℕ) → k < length hs → k < length cs → (gs : List Pauli)
      → multiplied_by_all_over own qs (drop k hs) (drop k cs) gs
      ≡ multiplied_by_all_over own qs (drop (suc k) hs) (drop (suc k) cs) (map (multiplied_over own qs (get_or cs k 0) (get_or hs k I)) gs)
  unfolding multiplied_by_all_over
  over_next [] cs k l m gs = absurd (omega arith)
  over_next (h ∷ hs) [] k l m gs = absurd (omega arith)
  over_next (h ∷ hs) (c ∷ cs) zero l m gs = refl
  over_next (h ∷ hs) (c ∷ cs) (suc k) l m gs = over_next hs cs k (omega arith) (omega arith) gs

  over_none : (hs gs : List Pauli) → multiplied_by_all_over own qs hs [] gs ≡ gs
  unfolding multiplied_by_all_over
  over_none [] gs = refl
  over_none (h ∷ hs) gs = refl

  pub over_end : (hs : List Pauli) (cs : List ℕ) (k : ℕ) → length cs ≤ k → (gs : List Pauli)
      → multiplied_by_all_over own qs (drop k hs) (drop k cs) gs ≡ gs
  over_end hs cs k l gs =
      ap (λ (ds : List ℕ). multiplied_by_all_over own qs (drop k hs) ds gs) (drop_of_length-le cs l) ∙ over_none (drop k hs) gs

-- ---- places stay below the number of places
abbrev pub PlacedBelow : ℕ → Pauli → Type 0
PlacedBelow n p = (p.x < 2 ^ n) × (p.z < 2 ^ n)

pub moved_places : (own qs : List ℕ) (ps : List Pauli) → OnPlaces (length qs) (map (moved_pauli own qs) ps)
unfolding OnPlaces moved_pauli moved_set
moved_places own qs ps =
    all_over (PlacedBelow (length qs)) (moved_pauli own qs) ps
    (all_of (λ p. (condense_lt qs (expand own p.x), condense_lt qs (expand own p.z))) ps)

module _ (n : ℕ) where
  pub times_places : (p q : Pauli) → PlacedBelow n p → PlacedBelow n q → PlacedBelow n (times p q)
  unfolding times
  times_places p q a b = (xor_lt n p.x q.x a.0 b.0, xor_lt n p.z q.z a.1 b.1)

  pub multiplied_places_lem : (is_x : Bool) (j : ℕ) (other g : Pauli) → PlacedBelow n other → PlacedBelow n g
      → PlacedBelow n (multiplied_at is_x j other g)
  unfolding multiplied_at
  multiplied_places_lem is_x j other g a b =
      if_bit_case (PlacedBelow n) (cond is_x (bit g.x j) (bit g.z j)) (λ _. b) (λ _. times_places g other b a)

  pub over_places_lem : (own qs : List ℕ) (c : ℕ) (other : Pauli) (gs : List Pauli) → PlacedBelow n other → OnPlaces n gs
      → OnPlaces n (map (multiplied_over own qs c other) gs)
  unfolding OnPlaces multiplied_over
  over_places_lem own qs c other gs a b =
      all_over (PlacedBelow n) (multiplied_over own qs c other) gs
      (all_map (λ g. multiplied_places_lem (ltb c (length own)) (pivot_place own qs c) other g a) gs b)

-- there is a standard generator for each pivot
pub pivots_fit : (hs : List Pauli) → length (form_of hs).pivots ≤ length (standard hs)
unfolding completed rank echelon_rank
pivots_fit hs =
    let B = basis hs in
    let more = appended (if_zero (sign_test B) (grade hs) (grade hs % 2)) B in
    let n : length B ≡ length (form_of hs).pivots = basis_count hs in
    omega (arith, n, ap length (standard_is hs), length-append B more)

-- ---- the joined support
multiplied_by_all_count : (own : List ℕ) (hs : List Pauli) (cs : List ℕ) (gs : List Pauli) → length (multiplied_by_all own hs cs gs) ≡ length gs
unfolding multiplied_by_all
multiplied_by_all_count own [] cs gs = refl
multiplied_by_all_count own (h ∷ hs) [] gs = refl
multiplied_by_all_count own (h ∷ hs) (c ∷ cs) gs = multiplied_by_all_count own hs cs (map (multiplied own c h) gs) ∙ length-map gs (multiplied own c h)

exponents_on : (qs : List ℕ) (m : ℕ) (ps : List Pauli) → All (PauliOn qs) ps → All (PauliOn qs) (map (exponent_mod m) ps)
unfolding exponent_mod
exponents_on qs m ps on = all_over (PauliOn qs) (exponent_mod m) ps (all_map (λ p a. record { x = a.x; z = a.z }) ps on)

module _ (gs hs : List Pauli) where
  abbrev pub joined : List ℕ
  joined = support_of (gs ++ hs)

  -- a list all of whose Paulis are on it has its support inside it
  inside_joined : (ps : List Pauli) → All (PauliOn joined) ps → (q : ℕ) → Mem q (support_of ps) → Mem q joined
  unfolding support_of
  inside_joined ps on q m =
      members_has (used_by (gs ++ hs)) q (used_least (used_by (gs ++ hs)) ps on q (members_only (used_by ps) q m))

  pub left_in_joined : (q : ℕ) → Mem q (support_of gs) → Mem q joined
  left_in_joined = inside_joined gs (all_left (PauliOn joined) gs hs (support_on (gs ++ hs)))

  pub right_in_joined : (q : ℕ) → Mem q (support_of hs) → Mem q joined
  right_in_joined = inside_joined hs (all_right (PauliOn joined) gs hs (support_on (gs ++ hs)))

  pub left_standard_on : All (PauliOn joined) (standard gs)
  left_standard_on =
      let ks = gs ++ hs in
      all_map (generated_on ks) (standard gs)
      (all_inside (standard gs) ks (inside_join (standard gs) gs ks (standard_inside gs) (joined_law gs hs).left))

  pub right_standard_on : All (PauliOn joined) (standard hs)
  right_standard_on =
      let ks = gs ++ hs in
      all_map (generated_on ks) (standard hs)
      (all_inside (standard hs) ks (inside_join (standard hs) hs ks (standard_inside hs) (joined_law gs hs).right))

  -- with any promise, be it true or false
  pub modulo_on : (promise : Promise) → All (PauliOn joined) (modulo promise gs hs)
  unfolding modulo
  modulo_on promise =
      let ps = multiplied_by_all (support_of hs) (standard hs) (form_of hs).pivots (standard gs) in
      exponents_on joined (phase_step promise hs) ps
      (multiplied_by_all_on (support_of hs) joined (standard hs) (form_of hs).pivots (standard gs) right_standard_on left_standard_on)

  pub modulo_count : (promise : Promise) → length (modulo promise gs hs) ≡ length (standard gs)
  unfolding modulo
  modulo_count promise =
      let ps = multiplied_by_all (support_of hs) (standard hs) (form_of hs).pivots (standard gs) in
      length-map ps (exponent_mod (phase_step promise hs)) ∙ multiplied_by_all_count (support_of hs) (standard hs) (form_of hs).pivots (standard gs)

  -- what the places hold after the multiplications
  abbrev pub multiplied_places : List Pauli
  multiplied_places =
      multiplied_by_all_over (support_of hs) joined (map (moved_pauli (support_of hs) joined) (standard (placed hs))) (form_of (placed hs)).pivots
      (map (moved_pauli (support_of gs) joined) (standard (placed gs)))

  pub modulo_products : multiplied_places
      ≡ map (condensed joined) (multiplied_by_all (support_of hs) (standard hs) (form_of hs).pivots (standard gs))
  modulo_products =
      let own = support_of hs in
      rw (moved_standard hs joined, moved_standard gs joined, places_form hs)
      (multiplied_by_all_over_lem own joined right_in_joined (support_rises (gs ++ hs)) (standard hs) (form_of hs).pivots (standard gs)
      (pivots_low hs) right_standard_on left_standard_on)

  module _ (promise : Promise) (m : ℕ) (step : m ≡ phase_step promise hs) where
    pub places_modulo : map (exponent_mod m) multiplied_places ≡ map (condensed joined) (modulo promise gs hs)
    unfolding modulo
    places_modulo =
        let rs = multiplied_by_all (support_of hs) (standard hs) (form_of hs).pivots (standard gs) in
        ap₂ (λ (n : ℕ) (us : List Pauli). map (exponent_mod n) us) step modulo_products
        ∙ condensed_exponent_mod joined (phase_step promise hs) rs

    pub modulo_places_on : OnPlaces (length joined) (map (exponent_mod m) multiplied_places)
    modulo_places_on = rw places_modulo (condensed_on joined (modulo promise gs hs))

    pub written_modulo : roll_over joined (map (exponent_mod m) multiplied_places) ≡ write (map sparse_of (modulo promise gs hs))
    written_modulo =
        ap (roll_over joined) places_modulo ∙ written_over joined (support_rises (gs ++ hs)) (modulo promise gs hs) (modulo_on promise)
