-- The whole common part of two groups. On the common row space the difference of the exponents with which the two groups contain an
-- element is additive, up to the phases of both, and twice it vanishes: so of two elements with no shared phase the product has one.
use mathlib.Core.Path.{◌≡◌, refl, sym, ap, ◌∙◌, subst}
use mathlib.Core.Logic.{◌⊎◌, inl, inr, ⊎_elim}
use mathlib.Core.List.{List, [], ◌∷◌, ◌++◌, map}
use mathlib.Core.Option.{Option, some, none}
use Prim.Native.Nat.{ℕ, zero, suc, ◌+◌, ◌*◌, ◌/◌, ◌%◌, ◌<◌}
use native.Mathlib.Nat.{mod-lt, mod-mod, add-mul-mod_self_left}
use native.Mathlib.Omega.{arith}
use Rattle.binar.specs.Space.{RowSpace}
use Rattle.binar.proofs.row.Bits.{xors}
use Rattle.binar.proofs.Lists.{all_zip, all_join, all_left, all_right, all_under}
use Rattle.binar.proofs.echelon.Span.{space_rows}
use Rattle.pauli.specs.Support.{All}
use Rattle.pauli.specs.Pauli.{Pauli, I, times, turned, order_four, indexed_product}
use Rattle.pauli.specs.Sets.{row_of}
use Rattle.pauli.specs.PauliTheorems.{PauliOn}
use Rattle.pauli.proofs.signed.Algebra.{times_assoc, times_self, I-times, turned_times_l, turned_times_r, turned_turned, turned_normal}
use Rattle.pauli_theory.specs.Group.{Generated, Inside, Promise, Honest}
use Rattle.pauli_theory.specs.Standard.{support_of, phase_step}
use Rattle.pauli_theory.specs.Membership.{exponent_left}
use Rattle.pauli_theory.specs.Common.{common_basis, common_phase, cons_some, phases_from, common_phases}
use Rattle.pauli_theory.specs.Theorems.{CommonPhaseLaw}
use Rattle.pauli_theory.specs.WholeCommon.{or_else, if_none, paired, kept_from, whole_part}
use Rattle.pauli_theory.proofs.Agree.{Divisor, one, two, four, Agree, agree_path, agree_flip, agree_join, agree_times, agree_turned, agree_sets, same_agree, left_same, left_agree, Subgroup, indexed_in}
use Rattle.pauli_theory.proofs.Group.{generated_subgroup, generated_indexed, generators, inside_by, joined_law}
use Rattle.pauli_theory.proofs.Rows.{span_sets, on_subgroup, generated_row, support_rises, generated_on}
use Rattle.pauli_theory.proofs.Powers.{Power, power_value, powers, turned_in}
use Rattle.pauli_theory.proofs.Grade.{grade, grade_divisor, grade_power}
use Rattle.pauli_theory.proofs.Elements.{same_sets}
use Rattle.pauli_theory.proofs.Standard.{phase_in, in_phase}
use Rattle.pauli_theory.proofs.Phases.{power_divided, step_in, step_only}
use Rattle.pauli_theory.proofs.Common.{cons_some_all, phases_have, phases_all, common_basis_law, common_phase_law}

turned_product : (j k : ℕ) (p q : Pauli) → times (turned j p) (turned k q) ≡ turned (j + k) (times p q)
turned_product j k p q = turned_times_l j p (turned k q) ∙ ap (turned j) (turned_times_r k p q) ∙ turned_turned j k (times p q)

-- ---- elements of a group up to a power of i
-- i^exponent times p is in the group
pub record Near (ks : List Pauli) (p : Pauli) : Type 0 where
  pub exponent : ℕ
  pub generated : Generated ks (turned exponent p)

module _ (ks : List Pauli) where
  near_by : (p q : Pauli) → Agree 1 q p → Generated ks q → Near ks p
  unfolding turned
  near_by p q h a = record {
    exponent = q.e + 3 * p.e;
    generated = (generated_subgroup ks).agrees q (turned (q.e + 3 * p.e) p) (record { phase = omega arith; x = h.x; z = h.z }) a;
  }

  near_times : (p q : Pauli) → Near ks p → Near ks q → Near ks (times p q)
  near_times p q a b = record {
    exponent = a.exponent + b.exponent;
    generated = subst (Generated ks) (turned_product a.exponent b.exponent p q) ((generated_subgroup ks).products _ _ a.generated b.generated);
  }

  near_subgroup : Subgroup 1 (Near ks)
  near_subgroup = record {
    agrees = λ p q h a. near_by q (turned a.exponent p) (agree_join (agree_turned a.exponent p one (omega arith)) h) a.generated;
    unit = near_by I I (agree_path 1 refl) (generated_subgroup ks).unit;
    products = near_times;
  }

  near_square : (p : Pauli) → Near ks (times p p)
  near_square p =
      near_subgroup.agrees I (times p p)
      (agree_flip (agree_join (agree_path 1 (times_self p)) (agree_turned (2 * order_four p) I one (omega arith)))) near_subgroup.unit

  -- the other exponents, by the group's phases
  near_turned : (p : Pauli) (a : Near ks p) (k : ℕ) → (k + 3 * a.exponent) % grade ks ≡ 0 → Generated ks (turned k p)
  unfolding turned
  near_turned p a k h =
      let u = a.exponent in
      (generated_subgroup ks).agrees (turned (k + 3 * u) (turned u p)) (turned k p) (record { phase = omega arith; x = refl; z = refl })
      (turned_in ks (k + 3 * u) (turned u p) (powers ks (grade_divisor ks) (grade_power ks) (k + 3 * u) h) a.generated)

  -- twice the exponent is that of the square
  near_double : (p : Pauli) (a : Near ks p) → (a.exponent + a.exponent + 2 * order_four p) % grade ks ≡ 0
  near_double p a =
      let u = a.exponent in
      power_divided ks (u + u + 2 * order_four p)
      (subst (Generated ks) (turned_product u u p p ∙ ap (turned (u + u)) (times_self p) ∙ turned_turned (u + u) (2 * order_four p) I)
      ((generated_subgroup ks).products _ _ a.generated a.generated))

  -- ---- up to the element x too
  abbrev NearOr : Pauli → Pauli → Type 0
  NearOr x p = Near ks p ⊎ Near ks (times p x)

  module _ (x : Pauli) where
    late : (p q : Pauli) → Agree 1 (times (times p x) q) (times (times p q) x)
    unfolding times
    late p q = agree_sets (simp xors) (simp xors)

    twice : (p q : Pauli) → Agree 1 (times (times p x) (times q x)) (times p q)
    unfolding times
    twice p q = agree_sets (simp xors) (simp xors)

    or_times : (p q : Pauli) → NearOr x p → NearOr x q → NearOr x (times p q)
    or_times p q (inl a) (inl b) = inl (near_times p q a b)
    or_times p q (inl a) (inr b) = inr (subst (Near ks) (sym (times_assoc p q x)) (near_times p (times q x) a b))
    or_times p q (inr a) (inl b) = inr (near_subgroup.agrees _ _ (late p q) (near_times (times p x) q a b))
    or_times p q (inr a) (inr b) = inl (near_subgroup.agrees _ _ (twice p q) (near_times (times p x) (times q x) a b))

    or_subgroup : Subgroup 1 (NearOr x)
    or_subgroup = record {
      agrees = λ p q h. ⊎_elim (λ a. inl (near_subgroup.agrees p q h a))
          (λ a. inr (near_subgroup.agrees (times p x) (times q x) (agree_times one h (agree_path 1 refl)) a));
      unit = inl near_subgroup.unit;
      products = or_times;
    }

-- ---- two elements with no shared phase
even_sum : (w u v : ℕ) → (u % 2 ≡ 0 → ⊥) → (v % 2 ≡ 0 → ⊥) → w ≡ u + v → w % 2 ≡ 0
even_sum w u v h k e = omega arith

parity : (u o : ℕ) → (u + u + 2 * o) % 4 ≡ 0 → (u + o) % 2 ≡ 0
parity u o h = go ((u + o) % 2) (mod-lt (u + o) (omega arith)) refl
  where
    go : (r : ℕ) → r < 2 → (u + o) % 2 ≡ r → r ≡ 0
    go zero l e = refl
    go (suc zero) l e =
        let k = (u + o) / 2 in
        let double : u + u + 2 * o ≡ 2 + 4 * k = omega arith in
        absurd (omega (arith, ap (λ (n : ℕ). n % 4) double, add-mul-mod_self_left 2 4 k))
    go (suc (suc r)) l e = absurd (omega arith)

even_difference : (u v o : ℕ) → (u + o) % 2 ≡ 0 → (v + o) % 2 ≡ 0 → (v + 3 * u) % 2 ≡ 0
even_difference u v o h k = omega arith

middle : (w : ℕ) → w % 2 ≡ 0 → (w % 4 ≡ 0 → ⊥) → w % 4 ≡ 2
middle w h n = omega arith

half : (u v o : ℕ) → (u + u + 2 * o) % 4 ≡ 0 → (v + v + 2 * o) % 4 ≡ 0 → ((v + 3 * u) % 4 ≡ 0 → ⊥) → (v + 3 * u) % 4 ≡ 2
half u v o h k n = middle (v + 3 * u) (even_difference u v o (parity u o h) (parity v o k)) n

halves : (w u v : ℕ) → u % 4 ≡ 2 → v % 4 ≡ 2 → w ≡ u + v → w % 4 ≡ 0
halves w u v h k e = omega arith

-- exponents u and v of an element in groups with the phases of i^a and i^b, and s and t of another
no_third : {a b : ℕ} → Divisor a → Divisor b → (u v o s t n : ℕ)
    → (u + u + 2 * o) % a ≡ 0 → (v + v + 2 * o) % b ≡ 0 → (s + s + 2 * n) % a ≡ 0 → (t + t + 2 * n) % b ≡ 0
    → ((v + 3 * u) % a ≡ 0 → ⊥) → ((u + 3 * v) % b ≡ 0 → ⊥) → ((t + 3 * s) % a ≡ 0 → ⊥) → ((s + 3 * t) % b ≡ 0 → ⊥)
    → ((v + t + 3 * (u + s)) % a ≡ 0 → ⊥) → ((u + s + 3 * (v + t)) % b ≡ 0 → ⊥) → ⊥
no_third one d u v o s t n hu hv hs ht l r l' r' lw rw' = l (omega arith)
no_third two one u v o s t n hu hv hs ht l r l' r' lw rw' = r (omega arith)
no_third four one u v o s t n hu hv hs ht l r l' r' lw rw' = r (omega arith)
no_third two two u v o s t n hu hv hs ht l r l' r' lw rw' = lw (even_sum _ (v + 3 * u) (t + 3 * s) l l' (omega arith))
no_third two four u v o s t n hu hv hs ht l r l' r' lw rw' = lw (even_sum _ (v + 3 * u) (t + 3 * s) l l' (omega arith))
no_third four two u v o s t n hu hv hs ht l r l' r' lw rw' = rw' (even_sum _ (u + 3 * v) (s + 3 * t) r r' (omega arith))
no_third four four u v o s t n hu hv hs ht l r l' r' lw rw' = lw (halves _ (v + 3 * u) (t + 3 * s) (half u v o hu hv l) (half s t n hs ht l') (omega arith))

module _ (gs hs : List Pauli) where
  abbrev shared : Pauli → Option Pauli
  shared = common_phase Promise.none Promise.none gs hs

  law : CommonPhaseLaw Promise.none Promise.none gs hs
  unfolding Honest
  law = common_phase_law Promise.none Promise.none gs hs tt tt

  -- both groups contain p, with some exponents
  pub record InBoth (p : Pauli) : Type 0 where
    pub left : Near gs p
    pub right : Near hs p

  module _ (p : Pauli) (w : InBoth p) (e : shared p ≡ none) where
    left_apart : (w.right.exponent + 3 * w.left.exponent) % grade gs ≡ 0 → ⊥
    left_apart h = law.dropped p e w.right.exponent (near_turned gs p w.left w.right.exponent h) w.right.generated

    right_apart : (w.left.exponent + 3 * w.right.exponent) % grade hs ≡ 0 → ⊥
    right_apart h = law.dropped p e w.left.exponent w.left.generated (near_turned hs p w.right w.left.exponent h)

  both_times : (p q : Pauli) → InBoth p → InBoth q → InBoth (times p q)
  both_times p q v w = record { left = near_times gs p q v.left w.left; right = near_times hs p q v.right w.right }

  pair_shared : (p q : Pauli) → InBoth p → InBoth q → shared p ≡ none → shared q ≡ none → shared (times p q) ≡ none → ⊥
  unfolding both_times near_times
  pair_shared p q v w ep eq epq =
      let z = both_times p q v w in
      no_third (grade_divisor gs) (grade_divisor hs) v.left.exponent v.right.exponent (order_four p) w.left.exponent w.right.exponent (order_four q)
      (near_double gs p v.left) (near_double hs p v.right) (near_double gs q w.left) (near_double hs q w.right)
      (left_apart p v ep) (right_apart p v ep) (left_apart q w eq) (right_apart q w eq) (left_apart (times p q) z epq) (right_apart (times p q) z epq)

  -- ---- what is kept
  -- what holds of every shared phase holds of the elements that are kept
  module _ (Q : Pauli → Type 0) (h : (p q : Pauli) → shared p ≡ some q → Q q) (mul : Pauli → Pauli → Pauli) where
    kept_one : (p q : Pauli) (o r : Option Pauli) → shared p ≡ o → or_else o (paired shared mul r p) ≡ some q → Q q
    unfolding or_else paired
    kept_one p q (some a) r e k = h p q (e ∙ k)
    kept_one p q none (some first) e k = h (mul p first) q k
    kept_one p q none none e k = let z : ◌≡◌ {A = ℕ} 0 1 = cc in absurd (omega arith)

    pub kept_by : (first : Option Pauli) (ps : List Pauli) → All Q (kept_from shared mul first ps)
    unfolding kept_from
    kept_by first [] = tt
    kept_by first (p ∷ ps) =
        cons_some_all Q (or_else (shared p) (paired shared mul first p)) _ (λ q. kept_one p q (shared p) first refl)
        (kept_by (or_else first (if_none (shared p) p)) ps)

  module _ (ks : List Pauli) where
    shared_near : (p q : Pauli) → shared p ≡ some q → Generated ks q → Near ks p
    shared_near p q e a = let s = law.shared p q e in near_by ks p q (agree_sets s.0 s.1) a

    -- of the elements after the first that has no shared phase
    kept_after : (x : Pauli) → InBoth x → shared x ≡ none → (ps : List Pauli) → All InBoth ps → All (Generated ks) (kept_from shared times (some x) ps)
        → All (NearOr ks x) ps
    unfolding kept_from or_else paired cons_some
    kept_after x w e [] h g = tt
    kept_after x w e (p ∷ ps) h g =
        let s = step (shared p) (shared (times p x)) refl refl g in (s.0, kept_after x w e ps h.1 s.1)
      where
        T : List Pauli
        T = kept_from shared times (some x) ps

        step : (o r : Option Pauli) → shared p ≡ o → shared (times p x) ≡ r → All (Generated ks) (cons_some (or_else o r) T) → NearOr ks x p × All (Generated ks) T
        step (some q) r eo er g = (inl (shared_near p q eo g.0), g.1)
        step none (some q) eo er g = (inr (shared_near (times p x) q er g.0), g.1)
        step none none eo er g = absurd (pair_shared p x h.0 w eo e er)

    -- either all are near, or one has no shared phase and all are near up to that one
    record Dropped (ps : List Pauli) : Type 0 where
      element : Pauli
      not_shared : shared element ≡ none
      others : All (NearOr ks element) ps

    kept_near : (ps : List Pauli) → All InBoth ps → All (Generated ks) (kept_from shared times none ps) → All (Near ks) ps ⊎ Dropped ps
    unfolding kept_from or_else paired if_none cons_some
    kept_near [] h g = inl tt
    kept_near (p ∷ ps) h g = step (shared p) refl g (kept_near ps h.1)
      where
        step : (o : Option Pauli) → shared p ≡ o → All (Generated ks) (cons_some (or_else o none) (kept_from shared times (if_none o p) ps))
            → (All (Generated ks) (kept_from shared times none ps) → All (Near ks) ps ⊎ Dropped ps) → All (Near ks) (p ∷ ps) ⊎ Dropped (p ∷ ps)
        step (some q) e g later =
            let a = shared_near p q e g.0 in
            ⊎_elim (λ all. inl (a, all)) (λ d. inr (record { element = d.element; not_shared = d.not_shared; others = (inl a, d.others) })) (later g.1)
        step none e g later = inr (record { element = p; not_shared = e; others = (inr (near_square ks p), kept_after p h.0 e ps h.1 g) })

  -- ---- the common basis
  abbrev qs : List ℕ
  qs = support_of (gs ++ hs)

  pub row_near : (ks : List Pauli) → Inside ks (gs ++ hs) → (p : Pauli) → PauliOn qs p → RowSpace (map (row_of qs) ks) (row_of qs p) → Near ks p
  unfolding Inside
  row_near ks f p on w =
      let q = indexed_product w.subset ks in
      let a = generated_indexed ks w.subset in
      near_by ks p q (agree_flip (span_sets qs (support_rises (gs ++ hs)) ks w on (generated_on (gs ++ hs) q (f q a)))) a

  basis_both : All InBoth (common_basis gs hs)
  basis_both =
      let L = common_basis_law gs hs in
      let M = map (row_of qs) (common_basis gs hs) in
      all_zip
      (λ p on w.
      let v = L.there (row_of qs p) w in
      record { left = row_near gs (joined_law gs hs).left p on v.0; right = row_near hs (joined_law gs hs).right p on v.1 })
      (common_basis gs hs) L.on_support (all_under (RowSpace M) (row_of qs) (common_basis gs hs) (space_rows M))

  -- what holds of the basis, of products and of equal sets, holds of each element of both groups
  by_basis : {Q : Pauli → Type 0} → Subgroup 1 Q → All Q (common_basis gs hs) → (p : Pauli) → Generated gs p → Generated hs p → Q p
  unfolding Inside
  by_basis {Q} S h p a b =
      let L = common_basis_law gs hs in
      let B = common_basis gs hs in
      let w = L.back (row_of qs p) (generated_row qs gs p a) (generated_row qs hs p b) in
      S.agrees (indexed_product w.subset B) p
      (agree_flip (span_sets qs (support_rises (gs ++ hs)) B w (generated_on (gs ++ hs) p ((joined_law gs hs).left p a))
      (indexed_in (on_subgroup qs 4) B L.on_support w.subset)))
      (indexed_in S B h w.subset)

  -- ---- the common part
  abbrev kept : List Pauli
  kept = kept_from shared times none (common_basis gs hs)

  pub part_in_left : Inside (whole_part gs hs) gs
  unfolding whole_part Honest
  part_in_left =
      inside_by (whole_part gs hs) gs
      (all_join (Generated gs) kept (common_phases Promise.none Promise.none gs hs) (kept_by (Generated gs) (λ p q e. (law.shared p q e).2) times none (common_basis gs hs))
      (phases_all gs hs Promise.none Promise.none (Generated gs) (λ k l u v. phase_in gs k (step_in Promise.none gs tt k u))))

  pub part_in_right : Inside (whole_part gs hs) hs
  unfolding whole_part Honest
  part_in_right =
      inside_by (whole_part gs hs) hs
      (all_join (Generated hs) kept (common_phases Promise.none Promise.none gs hs) (kept_by (Generated hs) (λ p q e. (law.shared p q e).3) times none (common_basis gs hs))
      (phases_all gs hs Promise.none Promise.none (Generated hs) (λ k l u v. phase_in hs k (step_in Promise.none hs tt k v))))

  kept_in : All (Generated (whole_part gs hs)) kept
  unfolding whole_part
  kept_in = all_left (Generated (whole_part gs hs)) kept (common_phases Promise.none Promise.none gs hs) (generators (whole_part gs hs))

  part_phases : (k : ℕ) → Power gs k → Power hs k → Power (whole_part gs hs) k
  unfolding whole_part common_phases Honest
  part_phases k a b =
      let ks = whole_part gs hs in
      let m = phase_step Promise.none gs in
      let n = phase_step Promise.none hs in
      let r = k % 4 in
      let same : k % 4 ≡ r % 4 = sym (mod-mod k 4) in
      let here = phases_have m n (Generated ks) 4 0
      (all_right (Generated ks) kept (phases_from m n 4 0) (generators ks)) r (omega arith) (omega arith)
      (step_only Promise.none gs tt r (power_value gs k r same a)) (step_only Promise.none hs tt r (power_value hs k r same b)) in
      power_value ks r k (sym same) (in_phase ks r here)

  module _ (p : Pauli) (a : Generated gs p) (b : Generated hs p) where
    left_power : (ks : List Pauli) (k : ℕ) → Generated ks p → Generated ks (turned k p) → Power ks (exponent_left p (turned k p))
    unfolding turned
    left_power ks k c d =
        powers ks (grade_divisor ks) (grade_power ks) (exponent_left p (turned k p))
        (left_agree (grade_divisor ks) (omega arith) (same_sets ks p (turned k p) c d (agree_sets refl refl)))

    near_whole : Near (whole_part gs hs) p → Generated (whole_part gs hs) p
    unfolding Inside turned
    near_whole n =
        let ks = whole_part gs hs in
        let q = turned n.exponent p in
        let k = exponent_left p q in
        let power = part_phases k (left_power gs n.exponent a (part_in_left q n.generated)) (left_power hs n.exponent b (part_in_right q n.generated)) in
        (generated_subgroup ks).agrees (turned k q) p (same_agree four (left_same p q (omega arith) refl refl)) (turned_in ks k q power n.generated)

    -- an element of both groups is not near up to an element with no shared phase
    divided : (x : Pauli) (u : ℕ) → times p (turned u (times p x)) ≡ turned (u + 2 * order_four p) x
    divided x u =
        let o = 2 * order_four p in
        turned_times_r u p (times p x)
        ∙ ap (turned u)
        (sym (times_assoc p p x) ∙ ap (λ r. times r x) (times_self p) ∙ turned_times_l o I x ∙ ap (turned o) (I-times x) ∙ turned_normal o x)
        ∙ turned_turned u o x

    not_near : (x : Pauli) → shared x ≡ none → Near (whole_part gs hs) (times p x) → ⊥
    unfolding Inside
    not_near x e n =
        let q = turned n.exponent (times p x) in
        let k = n.exponent + 2 * order_four p in
        law.dropped x e k
        (subst (Generated gs) (divided x n.exponent) ((generated_subgroup gs).products p q a (part_in_left q n.generated)))
        (subst (Generated hs) (divided x n.exponent) ((generated_subgroup hs).products p q b (part_in_right q n.generated)))

    pub part_whole : Generated (whole_part gs hs) p
    part_whole =
        let ks = whole_part gs hs in
        ⊎_elim (λ all. near_whole (by_basis (near_subgroup ks) all p a b))
        (λ d. ⊎_elim near_whole (λ n. absurd (not_near d.element d.not_shared n)) (by_basis (or_subgroup ks d.element) d.others p a b))
        (kept_near ks (common_basis gs hs) basis_both kept_in)
