-- Accepted claims agree with membership. Each member has an acceptable claim, and so has each element whose bits lie outside the span.
use Rattle.std.proofs.Common.{◌≡◌, ◌⊎◌, refl, sym, ap, ◌∙◌, subst, inl, inr, ⊎_elim, true, ◌&&◌, ◌==◌, nat_le, nat_lt, leb-true, ltb-true, eqb-true, le-leb, lt-ltb, eq-eqb, List, [], ◌∷◌, ◌++◌, map, length, get_or, ℕ, suc, ◌+◌, ◌*◌, ◌%◌, ◌^◌, ◌<◌, max, bit_or, arith}
use Rattle.std.proofs.lemmas.Bool.{and_parts, and_from}
use mathlib.Core.List.Memᴰ.{head as here}
use mathlib.Core.List.{Memᴰ as Mem}
use Rattle.std.proofs.Math.Option.{Option, some, none}
use Rattle.binar.specs.Row.{bit, dot, columns}
use Rattle.binar.specs.Kernel.{kernel_basis}
use Rattle.binar.specs.Space.{RowSpace}
use Rattle.binar.specs.Theorems.{KernelLaw}
use Rattle.binar.proofs.row.Bits.{bit_lt, bit_xor, dot_comm, dot_zero_l}
use Rattle.binar.proofs.row.Units.{dot_unit}
use Rattle.binar.proofs.echelon.Span.{row_sum_unit}
use Rattle.binar.proofs.Lists.{all_map, all_right, all_under, all_by}
use Rattle.binar.proofs.Without.{Apart}
use Rattle.binar.proofs.matrix_form.Theorems.{kernel_law}
use Rattle.pauli.specs.Support.{All, Rising}
use Rattle.pauli.specs.Pauli.{Pauli, Same, turned, anticommute, indexed_product}
use Rattle.pauli.specs.Sets.{set_of, members, row_of, pauli_of_row}
use Rattle.pauli.specs.PauliTheorems.{PauliOn}
use Rattle.pauli.proofs.signed.Algebra.{anticommute_comm}
use Rattle.pauli.proofs.condense.MoreBits.{bit_or_lem, in_or}
use Rattle.pauli.proofs.condense.Sets.{set_members, members_rise, members_only}
use Rattle.pauli.proofs.condense.Places.{expand_on}
use Rattle.pauli.proofs.condense.Rows.{row_lt, back_row}
use Rattle.pauli_theory.specs.Group.{Generated, Promise, Honest}
use Rattle.pauli_theory.specs.Standard.{used_by, support_of, phase_step}
use Rattle.pauli_theory.specs.Membership.{Factorization, outside, factorization_of}
use Rattle.pauli_theory.specs.Centralizer.{exchanged, x_on, z_on}
use Rattle.pauli_theory.specs.Claims.{Claim, rises_below, well_formed, claimed, same_value, member_accepted, absence_accepted, claim_of, InSpan}
use Rattle.pauli_theory.specs.ClaimTheorems.{ClaimTests, AbsenceTest, MemberClaimLaw, Witness, AbsenceClaimLaw, SpanLaw}
use Rattle.pauli_theory.proofs.Agree.{four, same_agree}
use Rattle.pauli_theory.proofs.Group.{generated_in, generated_subgroup, generated_indexed, joined_law}
use Rattle.pauli_theory.proofs.Products.{commuting_subgroup}
use Rattle.pauli_theory.proofs.Powers.{turned_in}
use Rattle.pauli_theory.proofs.Tests.{anticommute_largest, largest_none, none_largest}
use Rattle.pauli_theory.proofs.Spaces.{columns_narrow, in_space}
use Rattle.pauli_theory.proofs.Rows.{rows_narrow, generated_row, sets_span, span_sets, support_rises, support_on, indexed_on}
use Rattle.pauli_theory.proofs.Phases.{phase_step_grade, step_in, phases_has, phases_only}
use Rattle.pauli_theory.proofs.Membership.{outside_on, phased, membership_law}
use Rattle.pauli_theory.proofs.IndexSets.{members_below}
use Rattle.pauli_theory.proofs.Exchanged.{exchanged_lt, exchanged_back, anticommute_row}
use Rattle.pauli_theory.proofs.WholeCommon.{row_near}
use Rattle.pauli_theory.proofs.Named.{member_or}
use Rattle.pauli_theory.proofs.Centralizer.{x_commutes, z_commutes, x_named, z_named}

-- ---- the tests
rises_right : (least n : ℕ) (is : List ℕ) → rises_below least n is ≡ true → Rising least is × All (λ i. i < n) is
unfolding rises_below
rises_right least n [] e = (tt, tt)
rises_right least n (i ∷ is) e =
    let a = and_parts (nat_le least i) (nat_lt i n && rises_below (suc i) n is) e in
    let b = and_parts (nat_lt i n) (rises_below (suc i) n is) a.1 in
    let more = rises_right (suc i) n is b.1 in
    ((leb-true least i a.0, more.0), (ltb-true i n b.0, more.1))

rises_only : (least n : ℕ) (is : List ℕ) → Rising least is → All (λ i. i < n) is → rises_below least n is ≡ true
unfolding rises_below
rises_only least n [] h l = refl
rises_only least n (i ∷ is) h l = and_from _ _ (le-leb least i h.0) (and_from _ _ (lt-ltb i n l.0) (rises_only (suc i) n is h.1 l.1))

same_right : (p q : Pauli) → same_value p q ≡ true → Same p q
unfolding same_value
same_right p q e =
    let a = and_parts (p.e % 4 == q.e % 4) ((p.x == q.x) && (p.z == q.z)) e in
    let b = and_parts (p.x == q.x) (p.z == q.z) a.1 in
    record { value = eqb-true (p.e % 4) (q.e % 4) a.0; x = eqb-true p.x q.x b.0; z = eqb-true p.z q.z b.1 }

same_only : (p q : Pauli) → Same p q → same_value p q ≡ true
unfolding same_value
same_only p q s = and_from _ _ (eq-eqb (p.e % 4) (q.e % 4) s.value) (and_from _ _ (eq-eqb p.x q.x s.x) (eq-eqb p.z q.z s.z))

module _ (promise : Promise) (gs : List Pauli) (p : Pauli) (c : Claim) where
  accepted_right : member_accepted promise gs p c ≡ true → Same (claimed gs c) p × (c.exponent % phase_step promise gs ≡ 0)
  unfolding member_accepted
  accepted_right e =
      let a = and_parts (same_value (claimed gs c) p) (c.exponent % phase_step promise gs == 0) e in
      (same_right (claimed gs c) p a.0, eqb-true (c.exponent % phase_step promise gs) 0 a.1)

  accepted_only : Same (claimed gs c) p → c.exponent % phase_step promise gs ≡ 0 → member_accepted promise gs p c ≡ true
  unfolding member_accepted
  accepted_only s z = and_from _ _ (same_only (claimed gs c) p s) (eq-eqb (c.exponent % phase_step promise gs) 0 z)

  pub claim_tests : ClaimTests promise gs p c
  unfolding well_formed claimed
  claim_tests = record {
    formed_right = λ e.
        let a = and_parts (rises_below 0 (length gs) c.indexes) (nat_lt c.exponent 4) e in
        let r = rises_right 0 (length gs) c.indexes a.0 in
        (r.0, r.1, ltb-true c.exponent 4 a.1);
    formed_only = λ r w v. and_from _ _ (rises_only 0 (length gs) c.indexes r w) (lt-ltb c.exponent 4 v);
    member_right = λ v e. let a = accepted_right e in (a.0, phases_has promise gs c.exponent v a.1);
    member_only = λ s m. accepted_only s (phases_only promise gs c.exponent m).1;
  }

pub absence_test : (gs : List Pauli) (p w : Pauli) → AbsenceTest gs p w
unfolding absence_accepted
absence_test gs p w = record {
  absence_right = λ e.
      let a = and_parts _ _ e in
      (largest_none (anticommute w) gs (sym (anticommute_largest w gs) ∙ eqb-true _ 0 a.0), eqb-true (anticommute w p) 1 a.1);
  absence_only = λ h o. and_from _ _ (eq-eqb _ 0 (anticommute_largest w gs ∙ none_largest (anticommute w) gs h)) (eq-eqb (anticommute w p) 1 o);
}

-- ---- membership
module _ (promise : Promise) (gs : List Pauli) (p : Pauli) (honest : Honest promise gs) where
  generated : (c : Claim) → member_accepted promise gs p c ≡ true → Generated gs p
  unfolding claimed
  generated c e =
      let a = accepted_right promise gs p c e in
      let q = indexed_product (set_of c.indexes) gs in
      (generated_subgroup gs).agrees (turned c.exponent q) p (same_agree four a.0)
      (turned_in gs c.exponent q (step_in promise gs honest c.exponent a.1) (generated_indexed gs (set_of c.indexes)))

  acceptable : (f : Factorization) → factorization_of promise gs p ≡ some f
      → (well_formed gs (claim_of f) ≡ true) × (member_accepted promise gs p (claim_of f) ≡ true)
  unfolding claim_of claimed
  acceptable f e =
      let M = membership_law promise gs p honest in
      let w = M.within f e in (
        (claim_tests promise gs p (claim_of f)).formed_only (members_rise f.indexes) (members_below (length gs) f.indexes w.0) w.1,
        accepted_only promise gs p (claim_of f) (rw (set_members f.indexes) (M.equals f e))
            (phased promise gs p (phase_step_grade promise gs honest) f e),
      )

  pub member_claim_law : MemberClaimLaw promise gs p
  member_claim_law = record {
    generated = generated;
    member = λ c e. (membership_law promise gs p honest).complete (generated c e);
    acceptable = acceptable;
  }

-- ---- the span
module _ (gs : List Pauli) (p : Pauli) where
  -- the qubits of both
  abbrev qs : List ℕ
  qs = support_of (gs ++ (p ∷ []))

  in_span : InSpan gs p → (k : ℕ) × (k < 4) × Generated gs (turned k p)
  unfolding turned
  in_span h =
      let hs = p ∷ [] in
      let a = row_near gs hs gs (joined_law gs hs).left p (all_right (PauliOn qs) gs hs (support_on (gs ++ hs))).0 h in
      let e = a.exponent in (
        e % 4,
        omega arith,
        (generated_subgroup gs).agrees (turned e p) (turned (e % 4) p) (record { phase = omega arith; x = refl; z = refl }) a.generated,
      )

  -- powers of i change no row
  only : (k : ℕ) → Generated gs (turned k p) → InSpan gs p
  unfolding turned row_of
  only k = generated_row qs gs (turned k p)

  decided : InSpan gs p ⊎ (InSpan gs p → ⊥)
  decided =
      elim (in_space (2 * length qs) (map (row_of qs) gs) (rows_narrow qs gs) (row_of qs p) (row_lt qs p)) [ yes y ↦ inl y | no n ↦ inr n ]

  pub span_law : SpanLaw gs p
  span_law = record { in_span = in_span; only = only; decided = decided }

-- ---- absence
module _ (gs : List Pauli) (p : Pauli) where
  -- what commutes with every generator commutes with each element, and powers of i do not count
  no_span : (w : Pauli) → absence_accepted gs p w ≡ true → InSpan gs p → ⊥
  unfolding turned anticommute
  no_span w e h =
      let t = (absence_test gs p w).absence_right e in
      let a = in_span gs p h in
      omega (arith, t.1, generated_in (commuting_subgroup 4 w) four gs t.0 (turned a.0 p) a.2)

  absent : (w : Pauli) → absence_accepted gs p w ≡ true → Generated gs p → ⊥
  absent w e a = no_span w e (generated_row (qs gs p) gs p a)

  not_member : (w : Pauli) → absence_accepted gs p w ≡ true → (promise : Promise) → Honest promise gs → factorization_of promise gs p ≡ none
  not_member w e promise h = go (factorization_of promise gs p) refl
    where
      go : (o : Option Factorization) → factorization_of promise gs p ≡ o → factorization_of promise gs p ≡ none
      go none d = d
      go (some f) d = absurd (absent w e ((membership_law promise gs p h).sound f d))

  -- at a qubit of p's that the list does not use
  module _ (q : ℕ) (unused : Apart (support_of gs) q) where
    z_clash : bit p.x q ≡ 1 → anticommute (z_on q) p ≡ 1
    unfolding z_on anticommute
    z_clash o = omega (arith, dot_comm (2 ^ q) p.x ∙ dot_unit p.x q, dot_zero_l p.z)

    x_clash : bit p.z q ≡ 1 → anticommute (x_on q) p ≡ 1
    unfolding x_on anticommute
    x_clash o = omega (arith, dot_comm (2 ^ q) p.z ∙ dot_unit p.z q, dot_zero_l p.x)

    by_z : bit p.x q ≡ 1 → Witness gs p
    unfolding z_on
    by_z o = record {
      pauli = z_on q;
      accepted = (absence_test gs p (z_on q)).absence_only (z_commutes gs q unused) (z_clash o);
      value = omega arith;
      on = inr (q, (support_on (p ∷ [])).0.x q o, z_named (q ∷ []) q (here refl));
    }

    by_x : bit p.z q ≡ 1 → Witness gs p
    unfolding x_on
    by_x o = record {
      pauli = x_on q;
      accepted = (absence_test gs p (x_on q)).absence_only (x_commutes gs q unused) (x_clash o);
      value = omega arith;
      on = inr (q, (support_on (p ∷ [])).0.z q o, x_named (q ∷ []) q (here refl));
    }

  sticks_out : (q : ℕ) → bit (outside gs p) q ≡ 1 → Witness gs p
  unfolding outside support_of
  sticks_out q o =
      let u = used_by gs in
      let v = bit_or p.x p.z in
      let e : (max (bit u q) (bit v q) + bit u q) % 2 ≡ 1 =
      ap (λ (d : ℕ). (d + bit u q) % 2) (sym (bit_or_lem u v q)) ∙ sym (bit_xor (bit_or u v) u q) ∙ o in
      let unused : Apart (support_of gs) q = member_or (support_of gs) q (λ m. absurd (omega (arith, members_only u q m, e, bit_lt v q))) (λ a. a) in
      ⊎_elim (by_z q unused) (by_x q unused) (in_or p.x p.z q (omega (arith, e, bit_lt u q, bit_lt v q)))

  -- an element on the list's qubits, its row no sum of the list's rows
  module _ (on : PauliOn (support_of gs) p) (n : RowSpace (map (row_of (support_of gs)) gs) (row_of (support_of gs) p) → ⊥) where
    abbrev ks : List ℕ
    ks = support_of gs

    abbrev c : ℕ
    c = 2 * length ks

    abbrev A : List ℕ
    A = map (row_of ks) gs

    K : KernelLaw c A
    K = kernel_law c A

    narrow : columns c A ≡ A
    narrow = columns_narrow c A (rows_narrow ks gs)

    -- a kernel row with an odd overlap with the element's row
    odd : (i : ℕ) × (i < length (kernel_basis c A)) × (dot (get_or (kernel_basis c A) i 0) (row_of ks p) ≡ 1)
    odd = K.odd (row_of ks p) (row_lt ks p) (λ h. n (rw narrow at h))

    abbrev r : ℕ
    r = get_or (kernel_basis c A) odd.0 0

    abbrev w : Pauli
    w = pauli_of_row ks 0 (exchanged (length ks) r)

    w_on : PauliOn ks w
    unfolding pauli_of_row
    w_on = record { x = expand_on ks _; z = expand_on ks _ }

    -- the Pauli of that row, X and Z exchanged, anticommutes with those whose rows have an odd overlap with it
    overlap : (g : Pauli) → anticommute w g ≡ dot r (row_of ks g)
    overlap g =
        let m = length ks in
        let v = row_of ks g in
        let rises = support_rises gs in
        let back : exchanged m (row_of ks w) ≡ r =
        ap (exchanged m) (back_row ks rises 0 (exchanged m r) (exchanged_lt m r)) ∙ exchanged_back m r (K.narrow odd.0) in
        anticommute_comm w g ∙ anticommute_row ks rises g w w_on ∙ ap (dot v) back ∙ dot_comm v r

    even : All (λ g. dot r (row_of ks g) ≡ 0) gs
    even =
        let in_kernel : RowSpace (kernel_basis c A) r = record { subset = 2 ^ odd.0; sums = row_sum_unit odd.0 (kernel_basis c A) } in
        all_under (λ v. dot r v ≡ 0) (row_of ks) gs (all_by (λ v. dot r v ≡ 0) A 0 λ j l. rw narrow at (K.sound r in_kernel j))

    on_support : Witness gs p
    unfolding pauli_of_row
    on_support = record {
      pauli = w;
      accepted = (absence_test gs p w).absence_only (all_map (λ g e. overlap g ∙ e) gs even) (overlap p ∙ odd.2);
      value = omega arith;
      on = inl w_on;
    }

  has_claim : (InSpan gs p → ⊥) → Witness gs p
  unfolding set_of
  has_claim n = go (members (outside gs p)) refl
    where
      go : (ms : List ℕ) → members (outside gs p) ≡ ms → Witness gs p
      go [] e =
          let on = outside_on gs p (sym (set_members (outside gs p)) ∙ ap set_of e) in
          on_support on (λ h. n (sets_span (qs gs p) gs h.subset (span_sets (support_of gs) (support_rises gs) gs h on (indexed_on gs h.subset))))
      go (q ∷ ms) e = sticks_out q (members_only (outside gs p) q (subst (Mem q) (sym e) (here refl)))

  pub absence_claim_law : AbsenceClaimLaw gs p
  absence_claim_law = record { absent = absent; not_member = not_member; outside = no_span; has_claim = has_claim }
