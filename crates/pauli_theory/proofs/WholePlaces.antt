-- The whole common part over the places of the joined support, as it is made there and written.
use mathlib.Core.Path.{◌≡◌, refl, sym, ap, ap₂, ◌∙◌, subst}
use mathlib.Core.List.{List, [], ◌∷◌, ◌++◌, map, map-append, map-map}
use mathlib.Core.Option.{Option, some, none}
use Prim.Native.Nat.{ℕ, zero, suc, ◌+◌, ◌-◌, ◌*◌, ◌/◌, ◌%◌, ◌≤◌, ◌<◌, max}
use native.Mathlib.Nat.{mod-lt, mod-eq_of_lt, mod-mod, zero-mod}
use native.Mathlib.Omega.{arith}
use lib.ListN.{length}
use Rattle.binar.specs.Row.{◌⊕◌, dot}
use Rattle.binar.proofs.Lists.{all_map, all_zip, all_join, all_of, map_same}
use Rattle.pauli.specs.Support.{All, Rising}
use Rattle.pauli.specs.Pauli.{Pauli, times, turned, indexed_product, phase}
use Rattle.pauli.specs.Sets.{condense}
use Rattle.pauli.specs.PauliTheorems.{PauliOn}
use Rattle.pauli.specs.Condense.{condensed}
use Rattle.pauli.specs.Writing.{OnPlaces}
use Rattle.pauli.proofs.condense.Places.{condense_sum, condense_dot}
use Rattle.pauli.proofs.condense.Rows.{on_times}
use Rattle.pauli_theory.specs.Group.{Generated, Promise, Honest}
use Rattle.pauli_theory.specs.Standard.{if_zero, standard, phase_step}
use Rattle.pauli_theory.specs.Membership.{Factorization, exponent_left, factorization_of}
use Rattle.pauli_theory.specs.Common.{common_basis, with_exponent, if_both, common_phase_from, common_phase, cons_some, common_phases}
use Rattle.pauli_theory.specs.Inner.CommonPlaces.{shared_exponent_from, shared_exponent, with_some, solved_exponent}
use Rattle.pauli_theory.specs.Inner.ModuloPlaces.{moved_pauli}
use Rattle.pauli_theory.specs.WholeCommon.{or_else, if_none, paired, kept_from, first_from, whole_part}
use Rattle.pauli_theory.specs.Inner.WholePlaces.{noted_both, shared_pauli, times_noted, standard_places}
use Rattle.pauli_theory.proofs.IfZero.{if_zero_zero, if_zero_more, if_zero_map}
use Rattle.pauli_theory.proofs.Agree.{agree_sets, left_agree}
use Rattle.pauli_theory.proofs.Group.{generated_subgroup, all_inside, inside_join, joined_law}
use Rattle.pauli_theory.proofs.Products.{indexed_lt}
use Rattle.pauli_theory.proofs.Rows.{support_rises, generated_on}
use Rattle.pauli_theory.proofs.Powers.{powers, turned_in}
use Rattle.pauli_theory.proofs.Grade.{grade, grade_divisor, grade_power}
use Rattle.pauli_theory.proofs.Elements.{same_sets}
use Rattle.pauli_theory.proofs.StandardLaw.{standard_law}
use Rattle.pauli_theory.proofs.Phases.{phase_step_grade}
use Rattle.pauli_theory.proofs.Membership.{membership_law}
use Rattle.pauli_theory.proofs.Common.{variant, variant_low, phases_all, common_basis_law}
use Rattle.pauli_theory.proofs.Placed.{condensed_on}
use Rattle.pauli_theory.proofs.ModuloPlaces.{joined}
use Rattle.pauli_theory.proofs.CommonPlaces.{basis_places, places_basis}
use Rattle.pauli_theory.proofs.CommonExponents.{Solved, basis_left, basis_right, solved_factorization}
use Rattle.pauli_theory.proofs.CommonWritten.{cons_some_append, exponent_in, exponent_at, condensed_phases}
use Rattle.pauli_theory.proofs.WholeCommon.{kept_by, part_in_left}
use Rattle.pauli_theory.proofs.StandardPlaces.{standard_places_lem}

-- ---- what is kept of some elements and then of others
pub kept_append : (f : Pauli → Option Pauli) (mul : Pauli → Pauli → Pauli) (o : Option Pauli) (ps rs : List Pauli)
    → kept_from f mul o (ps ++ rs) ≡ kept_from f mul o ps ++ kept_from f mul (first_from f o ps) rs
unfolding kept_from first_from
kept_append f mul o [] rs = refl
kept_append f mul o (p ∷ ps) rs =
    let first = or_else o (if_none (f p) p) in
    ap (cons_some (or_else (f p) (paired f mul o p))) (kept_append f mul first ps rs)
    ∙ cons_some_append (or_else (f p) (paired f mul o p)) (kept_from f mul first ps) (kept_from f mul (first_from f first ps) rs)

pub first_append : (f : Pauli → Option Pauli) (o : Option Pauli) (ps rs : List Pauli) → first_from f o (ps ++ rs) ≡ first_from f (first_from f o ps) rs
unfolding first_from
first_append f o [] rs = refl
first_append f o (p ∷ ps) rs = first_append f (or_else o (if_none (f p) p)) ps rs

-- ---- membership by an exponent with which the group contains an element
-- there is a factorization exactly when n is 0
record Test (o : Option Factorization) (n : ℕ) : Type 0 where
  there : n ≡ 0 → (f : Factorization) × (o ≡ some f)
  back : (f : Factorization) → o ≡ some f → n ≡ 0

test_both {ℓ} : {X : Type ℓ} (o r : Option Factorization) (m n : ℕ) → Test o m → Test r n → (x y : X) → if_both o r x y ≡ if_zero (max m n) x y
unfolding if_both
test_both none r zero n s t x y = let z : ◌≡◌ {A = ℕ} 0 1 = cc (s.there refl).1 in absurd (omega arith)
test_both none r (suc m) n s t x y = sym (if_zero_more (max (suc m) n) x y (omega arith))
test_both (some f) none m zero s t x y = let z : ◌≡◌ {A = ℕ} 0 1 = cc (t.there refl).1 in absurd (omega arith)
test_both (some f) none m (suc n) s t x y = sym (if_zero_more (max m (suc n)) x y (omega arith))
test_both (some f) (some g) m n s t x y = sym (if_zero_zero x y (omega (arith, s.back f refl, t.back g refl)))

module _ (ks : List Pauli) (p : Pauli) (u : ℕ) (low : u < 4) (a : Generated ks (with_exponent u p)) where
  with_exponent_lem : (e : ℕ) → e < 4 → (e + 4 - u) % 4 % grade ks ≡ 0 → Generated ks (with_exponent e p)
  unfolding with_exponent turned
  with_exponent_lem e l h =
      let d = (e + 4 - u) % 4 in
      let sum : ((d + u) % 4) % 4 ≡ e % 4 = omega arith in
      (generated_subgroup ks).agrees (turned d (with_exponent u p)) (with_exponent e p) (record { phase = sum; x = refl; z = refl })
      (turned_in ks d (with_exponent u p) (powers ks (grade_divisor ks) (grade_power ks) d h) a)

  exponent_with : (e : ℕ) → e < 4 → Generated ks (with_exponent e p) → (e + 4 - u) % 4 % grade ks ≡ 0
  unfolding with_exponent exponent_left
  exponent_with e l b =
      ap (λ (n : ℕ). (n + 4 - u) % 4 % grade ks) (sym (mod-eq_of_lt l))
      ∙ left_agree (grade_divisor ks) low (same_sets ks (with_exponent e p) (with_exponent u p) b a (agree_sets refl refl))

  test_at : (e : ℕ) → e < 4 → Test (factorization_of Promise.none ks (with_exponent e p)) ((e + 4 - u) % 4 % phase_step Promise.none ks)
  unfolding Honest
  test_at e l =
      let L = membership_law Promise.none ks (with_exponent e p) tt in
      rw (phase_step_grade Promise.none ks tt)
      (record { there = λ h. L.complete (with_exponent_lem e l h); back = λ f h. exponent_with e l (L.sound f h) })

module _ (gs hs : List Pauli) (p : Pauli) (u v : ℕ) (lu : u < 4) (lv : v < 4) (a : Generated gs (with_exponent u p)) (b : Generated hs (with_exponent v p)) where
  abbrev s : ℕ
  s = phase_step Promise.none gs

  abbrev t : ℕ
  t = phase_step Promise.none hs

  member_from : (n e : ℕ) → e + n ≤ 4 → common_phase_from Promise.none Promise.none gs hs p n e ≡ with_some (shared_exponent_from s t u v n e) p
  unfolding common_phase_from shared_exponent_from with_some
  member_from zero e l = refl
  member_from (suc n) e l =
      let r = with_exponent e p in
      let m = max ((e + 4 - u) % 4 % s) ((e + 4 - v) % 4 % t) in
      test_both (factorization_of Promise.none gs r) (factorization_of Promise.none hs r) _ _ (test_at gs p u lu a e (omega arith)) (test_at hs p v lv b e (omega arith))
      (some r) (common_phase_from Promise.none Promise.none gs hs p n (suc e))
      ∙ ap (if_zero m (some r)) (member_from n (suc e) (omega arith))
      ∙ sym (if_zero_map (λ o. with_some o p) m (some e) (shared_exponent_from s t u v n (suc e)))

  -- the shared phase of an element, by any two exponents with which the groups contain it
  phase_by_members : common_phase Promise.none Promise.none gs hs p ≡ with_some (shared_exponent s t u v) p
  unfolding common_phase shared_exponent
  phase_by_members = member_from 4 0 (omega arith)

-- the exponent of the product that solves for an element is one
solved_member : (ks : List Pauli) (p : Pauli) (w : Solved ks p) → Generated ks (with_exponent (indexed_product w.set ks).e p)
unfolding Honest
solved_member ks p w =
    let u = (indexed_product w.set ks).e in
    let l : u < 4 = indexed_lt w.set ks in
    let none_left : (u + 4 - u) % 4 ≡ 0 = omega arith in
    let step = phase_step Promise.none ks in
    (membership_law Promise.none ks (with_exponent u p) tt).sound _
    (solved_factorization Promise.none ks p w u l
    ∙ if_zero_zero (some (record { indexes = w.set; exponent = (u + 4 - u) % 4 })) none (ap (λ (n : ℕ). n % step) none_left ∙ zero-mod step))

-- ---- noted elements over the places of qs
parts : (u v : ℕ) → u < 4 → v < 4 → ((u * 4 + v) / 4 % 4 ≡ u) × ((u * 4 + v) % 4 ≡ v)
parts u v lu lv = (omega arith, omega arith)

sum_four : (a b c d k : ℕ) → a % 4 ≡ c % 4 → b % 4 ≡ d % 4 → (a + b + k) % 4 ≡ (c + d + k) % 4
sum_four a b c d k h j = omega arith

module _ (gs hs : List Pauli) (qs : List ℕ) (rises : Rising 0 qs) where
  abbrev shared : Pauli → Option Pauli
  shared = common_phase Promise.none Promise.none gs hs

  abbrev shared_over : Pauli → Option Pauli
  shared_over = shared_pauli (phase_step Promise.none gs) (phase_step Promise.none hs)

  -- n is p over places, and the groups contain p with the exponents that are noted
  record Noted (n p : Pauli) : Type 0 where
    x : n.x ≡ condense qs p.x
    z : n.z ≡ condense qs p.z
    on : PauliOn qs p
    left : Generated gs (with_exponent (n.e / 4 % 4) p)
    right : Generated hs (with_exponent (n.e % 4) p)

  over : Option Pauli → Option Pauli
  over none = none
  over (some p) = some (condensed qs p)

  over_some : (o : Option ℕ) (n p : Pauli) → n.x ≡ condense qs p.x → n.z ≡ condense qs p.z → with_some o n ≡ over (with_some o p)
  unfolding with_some with_exponent over condensed
  over_some none n p x z = refl
  over_some (some e) n p x z = ap₂ (λ (a b : ℕ). some (record { e = e; x = a; z = b })) x z

  noted_shared : (n p : Pauli) → Noted n p → shared_over n ≡ over (shared p)
  unfolding shared_pauli
  noted_shared n p w =
      over_some (shared_exponent (phase_step Promise.none gs) (phase_step Promise.none hs) (n.e / 4 % 4) (n.e % 4)) n p w.x w.z
      ∙ ap over (sym (phase_by_members gs hs p (n.e / 4 % 4) (n.e % 4) (omega arith) (omega arith) w.left w.right))

  product_exponent : (ks : List Pauli) (p r : Pauli) (a b c d k : ℕ) → a % 4 ≡ c % 4 → b % 4 ≡ d % 4 → k % 4 ≡ (c + d + 2 * dot p.z r.x) % 4
      → Generated ks (with_exponent a p) → Generated ks (with_exponent b r) → Generated ks (with_exponent k (times p r))
  unfolding with_exponent times
  product_exponent ks p r a b c d k ea eb ek g h =
      let o = dot p.z r.x in
      let same = mod-mod (a + b + 2 * o) 4 ∙ sum_four a b c d (2 * o) ea eb ∙ sym ek in
      (generated_subgroup ks).agrees (times (with_exponent a p) (with_exponent b r)) (with_exponent k (times p r)) (record { phase = same; x = refl; z = refl })
      ((generated_subgroup ks).products (with_exponent a p) (with_exponent b r) g h)

  noted_times : (n m p r : Pauli) → Noted n p → Noted m r → Noted (times_noted n m) (times p r)
  unfolding times_noted noted_both with_exponent times
  noted_times n m p r v w = record {
    x = sums n.x m.x p.x r.x v.x w.x;
    z = sums n.z m.z p.z r.z v.z w.z;
    on = on_times qs p r v.on w.on;
    left = subst (λ (k : ℕ). Generated gs (with_exponent k (times p r))) (sym high)
        (product_exponent gs p r (n.e / 4 % 4) (m.e / 4 % 4) (n.e / 4) (m.e / 4) _ (mod-mod (n.e / 4) 4) (mod-mod (m.e / 4) 4) (exponent (n.e / 4) (m.e / 4)) v.left w.left);
    right = subst (λ (k : ℕ). Generated hs (with_exponent k (times p r))) (sym low)
        (product_exponent hs p r (n.e % 4) (m.e % 4) n.e m.e _ (mod-mod n.e 4) (mod-mod m.e 4) (exponent n.e m.e) v.right w.right);
  }
    where
      sums : (a b c d : ℕ) → a ≡ condense qs c → b ≡ condense qs d → a ⊕ b ≡ condense qs (c ⊕ d)
      sums a b c d e f = ap₂ ◌⊕◌ e f ∙ sym (condense_sum qs c d)

      uw : ℕ
      uw = (n.e / 4 + m.e / 4 + 2 * dot n.z m.x) % 4

      vw : ℕ
      vw = (n.e + m.e + 2 * dot n.z m.x) % 4

      high : (uw * 4 + vw) / 4 % 4 ≡ uw
      high = (parts uw vw (mod-lt _ (omega arith)) (mod-lt _ (omega arith))).0

      low : (uw * 4 + vw) % 4 ≡ vw
      low = (parts uw vw (mod-lt _ (omega arith)) (mod-lt _ (omega arith))).1

      overlap : dot n.z m.x ≡ dot p.z r.x
      overlap = ap₂ dot v.z w.x ∙ condense_dot qs rises p.z r.x v.on.z

      exponent : (a b : ℕ) → (a + b + 2 * dot n.z m.x) % 4 % 4 ≡ (a + b + 2 * dot p.z r.x) % 4
      exponent a b = mod-mod _ 4 ∙ ap (λ (o : ℕ). (a + b + 2 * o) % 4) overlap

  -- ---- the elements that are kept
  abbrev NotedOption : Option Pauli → Option Pauli → Type 0
  NotedOption none none = Unit {0}
  NotedOption none (some p) = ⊥
  NotedOption (some n) none = ⊥
  NotedOption (some n) (some p) = Noted n p

  over_cons : (o : Option Pauli) (ps : List Pauli) → cons_some (over o) (map (condensed qs) ps) ≡ map (condensed qs) (cons_some o ps)
  unfolding cons_some over
  over_cons none ps = refl
  over_cons (some p) ps = refl

  over_else : (o r : Option Pauli) → or_else (over o) (over r) ≡ over (or_else o r)
  unfolding or_else over
  over_else none r = refl
  over_else (some p) r = refl

  noted_paired : (o r : Option Pauli) → NotedOption o r → (n p : Pauli) → Noted n p → paired shared_over times_noted o n ≡ over (paired shared times r p)
  unfolding paired over
  noted_paired none none w n p v = refl
  noted_paired none (some q) w n p v = absurd w
  noted_paired (some m) none w n p v = absurd w
  noted_paired (some m) (some q) w n p v = noted_shared (times_noted n m) (times p q) (noted_times n m p q v w)

  noted_first : (o r : Option Pauli) → NotedOption o r → (n p : Pauli) → Noted n p → (s : Option Pauli) → NotedOption (or_else o (if_none (over s) n)) (or_else r (if_none s p))
  unfolding or_else if_none over
  noted_first none none w n p v none = v
  noted_first none none w n p v (some q) = tt
  noted_first none (some q) w n p v s = absurd w
  noted_first (some m) none w n p v s = absurd w
  noted_first (some m) (some q) w n p v s = w

  kept_over : (o r : Option Pauli) → NotedOption o r → (g : Pauli → Pauli) (ps : List Pauli) → All (λ p. Noted (g p) p) ps
      → kept_from shared_over times_noted o (map g ps) ≡ map (condensed qs) (kept_from shared times r ps)
  unfolding kept_from
  kept_over o r w g [] h = refl
  kept_over o r w g (p ∷ ps) h =
      let e = noted_shared (g p) p h.0 in
      ap₂ (λ (a b : Option Pauli). cons_some (or_else a b) (kept_from shared_over times_noted (or_else o (if_none (shared_over (g p)) (g p))) (map g ps))) e (noted_paired o r w (g p) p h.0)
      ∙ ap₂ (λ (a b : Option Pauli). cons_some a (kept_from shared_over times_noted (or_else o (if_none b (g p))) (map g ps))) (over_else (shared p) (paired shared times r p)) e
      ∙ ap (cons_some (over (or_else (shared p) (paired shared times r p))))
      (kept_over (or_else o (if_none (over (shared p)) (g p))) (or_else r (if_none (shared p) p)) (noted_first o r w (g p) p h.0 (shared p)) g ps h.1)
      ∙ over_cons (or_else (shared p) (paired shared times r p)) (kept_from shared times (or_else r (if_none (shared p) p)) ps)

-- ---- the common part of two lists
module _ (gs hs : List Pauli) where
  -- an element over the places of the joined support, with the exponents that the two lists' solutions have
  abbrev pub noted_at : Pauli → Pauli
  noted_at q = noted_both (exponent_in gs hs gs q) (exponent_in gs hs hs q) q

  noted_at_lem : (p : Pauli) → PauliOn (joined gs hs) p → Solved gs p → Solved hs p
      → Noted gs hs (joined gs hs) (support_rises (gs ++ hs)) (noted_at (condensed (joined gs hs) p)) p
  unfolding noted_both with_exponent condensed
  noted_at_lem p on v w =
      let u = (indexed_product v.set gs).e in
      let t = (indexed_product w.set hs).e in
      let e = parts u t (indexed_lt v.set gs) (indexed_lt w.set hs) in
      rw (exponent_at gs hs gs p on v, exponent_at gs hs hs p on w)
      (record {
        x = refl;
        z = refl;
        on = on;
        left = subst (λ (k : ℕ). Generated gs (with_exponent k p)) (sym e.0) (solved_member gs p v);
        right = subst (λ (k : ℕ). Generated hs (with_exponent k p)) (sym e.1) (solved_member hs p w);
      })

  basis_noted : All (λ p. Noted gs hs (joined gs hs) (support_rises (gs ++ hs)) (noted_at (condensed (joined gs hs) p)) p) (common_basis gs hs)
  basis_noted =
      let B = common_basis gs hs in
      all_zip (λ p f w. f w) B (all_zip (λ p on v. noted_at_lem p on v) B (common_basis_law gs hs).on_support (basis_left gs hs)) (basis_right gs hs)

  at_sets : (q : Pauli) → noted_at q ≡ noted_at (with_exponent 0 q)
  unfolding noted_both solved_exponent moved_pauli with_exponent
  at_sets q = refl

  places_noted : map noted_at (basis_places gs hs) ≡ map (λ p. noted_at (condensed (joined gs hs) p)) (common_basis gs hs)
  places_noted =
      let P = basis_places gs hs in
      map_same noted_at (λ q. noted_at (with_exponent 0 q)) P (all_of at_sets P) ∙ sym (map-map noted_at (with_exponent 0) P)
      ∙ ap (map noted_at) (places_basis gs hs) ∙ map-map noted_at (condensed (joined gs hs)) (common_basis gs hs)

  -- what the places hold before the standard generators are made
  abbrev pub kept_places : List Pauli
  kept_places = kept_from (shared_pauli (phase_step Promise.none gs) (phase_step Promise.none hs)) times_noted none (map noted_at (basis_places gs hs))

  abbrev pub whole_places : List Pauli
  whole_places = kept_places ++ common_phases Promise.none Promise.none gs hs

  pub places_part : whole_places ≡ map (condensed (joined gs hs)) (whole_part gs hs)
  unfolding whole_part common_phases
  places_part =
      let qs = joined gs hs in
      let kept = kept_from (common_phase Promise.none Promise.none gs hs) times none (common_basis gs hs) in
      let a = phase_step Promise.none gs in
      let b = phase_step Promise.none hs in
      ap₂ ◌++◌
      (ap (kept_from (shared_pauli a b) times_noted none) places_noted
      ∙ kept_over gs hs qs (support_rises (gs ++ hs)) none none tt (λ p. noted_at (condensed qs p)) (common_basis gs hs) basis_noted)
      (sym (condensed_phases qs a b 4 0))
      ∙ sym (map-append (condensed qs) kept (common_phases Promise.none Promise.none gs hs))

  pub part_on : All (PauliOn (joined gs hs)) (whole_part gs hs)
  part_on =
      let ks = whole_part gs hs in
      all_map (generated_on (gs ++ hs)) ks (all_inside ks (gs ++ hs) (inside_join ks gs (gs ++ hs) (part_in_left gs hs) (joined_law gs hs).left))

  part_low : All (λ p. p.e < 4) (whole_part gs hs)
  unfolding whole_part phase
  part_low =
      let f = common_phase Promise.none Promise.none gs hs in
      all_join (λ p. p.e < 4) (kept_from f times none (common_basis gs hs)) (common_phases Promise.none Promise.none gs hs)
      (kept_by gs hs (λ p. p.e < 4) (λ p q e. variant_low Promise.none Promise.none gs hs p q (variant Promise.none Promise.none gs hs p q e)) times none (common_basis gs hs))
      (phases_all gs hs Promise.none Promise.none (λ p. p.e < 4) (λ k l u v. l))

  pub places_part_on : OnPlaces (length (joined gs hs)) whole_places
  places_part_on = rw places_part (condensed_on (joined gs hs) (whole_part gs hs))

  -- what they hold at the end
  pub places_whole : standard_places (length (joined gs hs)) whole_places ≡ map (condensed (joined gs hs)) (standard (whole_part gs hs))
  places_whole =
      let qs = joined gs hs in
      ap (standard_places (length qs)) places_part ∙ standard_places_lem qs (support_rises (gs ++ hs)) (whole_part gs hs) part_on part_low

  pub standard_on : All (PauliOn (joined gs hs)) (standard (whole_part gs hs))
  standard_on =
      let ks = whole_part gs hs in
      let inside = inside_join ks gs (gs ++ hs) (part_in_left gs hs) (joined_law gs hs).left in
      all_map (generated_on (gs ++ hs)) (standard ks) (all_inside (standard ks) (gs ++ hs) (inside_join (standard ks) ks (gs ++ hs) (standard_law ks).generates.there inside))
