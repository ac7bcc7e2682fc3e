-- Accepted claims agree with membership, and which elements have an acceptable one.
use Rattle.std.proofs.Common.{◌≡◌, refl, sym, ap, ap₂, ◌∙◌, subst, ⊎_elim, true, not, ltb, le-ltb, List, [], ◌∷◌, map, length, get_or, replicate, ℕ, ◌^◌, ◌≤◌, ◌<◌, arith, Ok}
use borrow.Author.Tests.{lt-leb}
use lib.ListN.{length-replicate}
use mathlib.Core.Option.{some, none}
use mathlib.Core.List.{append-nil, Memᴰ as Mem}
use Rattle.binar.proofs.Lists.{all_map}
use Rattle.pauli.specs.Condense.{nothing}
use Rattle.pauli.specs.JoinCalls.{read_both, within}
use Rattle.pauli.specs.Pauli.{Pauli}
use Rattle.pauli.specs.ReadBack.{Holds}
use Rattle.pauli.specs.Refusals.{told_by}
use Rattle.pauli.specs.Roll.{most_paulis, highest_qubit, Sparse, numbers, support, read}
use Rattle.pauli.specs.Sets.{members, pauli_of}
use Rattle.pauli.specs.Support.{most_qubits, All}
use Rattle.pauli.specs.Told.{answer, refuse_if, and_then, map_told}
use Rattle.pauli.proofs.join.ReadBack.{written_holds, read_qubits}
use Rattle.pauli.proofs.roll.ListSupport.{support_only, sets_in_support}
use Rattle.pauli.proofs.roll.Told.{test_pass, test_passed, answered, map_test, map_answer}
use Rattle.pauli.proofs.signed.Algebra.{normal_lt}
use Rattle.pauli.proofs.support.Lists.{all_mem, in_get_or}
use Rattle.pauli_theory.specs.Claims.{Claim, well_formed, member_accepted, absence_accepted, claim_of, InSpan}
use Rattle.pauli_theory.specs.ClaimTheorems.{MemberClaimLaw, Witness, AbsenceClaimLaw}
use Rattle.pauli_theory.specs.Group.{Generated}
use Rattle.pauli_theory.specs.Membership.{Factorization, factorization_of}
use Rattle.pauli_theory.specs.Standard.{support_of}
use Rattle.pauli_theory.proofs.Claims.{member_claim_law, absence_claim_law, span_law}
use Rattle.pauli_theory.proofs.IndexSets.{members_below}
use Rattle.pauli_theory.proofs.Written.{support_of_lem}
use Rattle.pauli_group.specs.Answers.{factored_in}
use Rattle.pauli_group.specs.Calls.{list_bytes, Factored, factored}
use Rattle.pauli_group.specs.WorkArea.{enough, area_after}
use Rattle.pauli_group.proofs.calls.ReadBackLaws.{list_holds}
use Rattle.pauli_group.proofs.factorization.QuestionLaws.{indexes_below}
use Rattle.claims.specs.Calls.{formed, member_checked, member_call, Absence, absence_checked, absence_call}
use Rattle.demand_three.specs.ClaimsDemand.{Claiming, Denying, Accepted, NotMember, ClaimsDemand}
use Rattle.demand_three.specs.DemandThree.{Generators, list, Element, pauli, Asked, Member, indexes_at}
use Rattle.demand_three.proofs.DemandMember.{list_few, law, answered_by, member_when, not_member_when}

-- ---- a roll of one Pauli

one_held : (w : Pauli) (held : List Sparse) → map pauli_of held ≡ w ∷ [] → (p : Sparse) × (held ≡ p ∷ []) × (pauli_of p ≡ w)
one_held w [] e = absurd (let z : ◌≡◌ {A = ℕ} 0 1 = cc in omega arith)
one_held w (p ∷ []) e = (p, refl, cc)
one_held w (p ∷ q ∷ ps) e = absurd (let z : ◌≡◌ {A = ℕ} 0 1 = cc in omega arith)

module _ (A : Generators) (x : Element) where
  abbrev gs : List Pauli
  gs = list A

  abbrev p : Pauli
  p = pauli x

  -- both rolls are accepted
  both : read_both A.roll x.roll ≡ answer (record { left = A.held; right = x.held })
  unfolding read_both and_then
  both = rw (A.accepted, x.accepted)

  laws : MemberClaimLaw A.promise gs p
  laws = member_claim_law A.promise gs p A.honest

  -- the indexes that membership tells are numbers of 16 bits
  indexes_numbers : (g : Factorization) → factorization_of A.promise gs p ≡ some g → All (λ i. i < 2 ^ 16) (members g.indexes)
  indexes_numbers g s =
      all_map (λ i l. omega (arith, list_few A)) (members g.indexes)
      (members_below (length gs) g.indexes (indexes_below A.promise gs p g (sym s)))

  -- ---- a claim of membership

  -- its checks that are left, in turn
  member_is : (c : Claim) (words : ℕ)
      → member_call A.promise A.roll x.roll x.number c words
      ≡ refuse_if (not (well_formed gs c)) 16 0 (refuse_if (ltb words 4096) 9 0 (answer (member_accepted A.promise gs p c)))
  unfolding member_call member_checked and_then within refuse_if formed enough map_told
  member_is c words =
      rw (both, lt-leb (length x.held) x.number x.within)
      (map_test _ (not (well_formed gs c)) 16 0 _ ∙ ap (refuse_if (not (well_formed gs c)) 16 0) (map_test _ (ltb words 4096) 9 0 _))

  member_told : (c : Claim) (words : ℕ) → member_call A.promise A.roll x.roll x.number c words ≡ answer true → member_accepted A.promise gs p c ≡ true
  member_told c words h =
      let (form, s) = test_passed _ 16 0 _ true (sym (member_is c words) ∙ h) in
      let (area, t) = test_passed _ 9 0 _ true s in
      cc

  -- the claim that membership tells is accepted
  claim_told : (g : Factorization) → factorization_of A.promise gs p ≡ some g → (words : ℕ) → 4096 ≤ words → member_call A.promise A.roll x.roll x.number (claim_of g) words ≡ answer true
  claim_told g s words h =
      let (form, holds) = laws.acceptable g s in
      member_is (claim_of g) words ∙ test_pass _ 16 0 _ (ap not form) ∙ test_pass _ 9 0 _ (le-ltb words 4096 h) ∙ ap answer holds

  member : (c : Claiming A x) → Accepted c.found → Member A x × Generated gs p
  member c h =
      let made = laws.generated _ (member_told _ _ (sym c.promised.told ∙ h)) in
      (member_when A x made, made)

  acceptable : (m : Asked A x) (f : Factored) → told_by factored_in m.found ≡ answer (some f) → (c : Claiming A x)
      → c.indexes ≡ indexes_at m.out' 0 f.count → c.exponent ≡ f.exponent → 4096 ≤ length c.work → Accepted c.found
  unfolding factored claim_of
  acceptable m f told c listed k h =
      let (g, s, same, here) = answered_by A x m f told in
      let claimed : ◌≡◌ {A = Claim} (record { indexes = c.indexes; exponent = c.exponent }) (claim_of g) =
      ap₂ (λ (is : List ℕ) (k : ℕ). record { indexes = is; exponent = k }) (listed ∙ here) (k ∙ ap (λ (f : Factored). f.exponent) (sym same)) in
      c.promised.told ∙ ap (λ d. member_call A.promise A.roll x.roll x.number d (length c.work)) claimed ∙ claim_told g s (length c.work) h

  -- some claim of a member is accepted, with a work area of k words
  accepted_in : (k : ℕ) → 4096 ≤ k → Generated gs p → (c : Claiming A x) × Accepted c.found
  unfolding claim_of
  accepted_in k h y =
      let (g, s) = (law A x).complete y in
      let work = replicate k 0 in (
        record {
          indexes = members g.indexes;
          exponent = g.exponent;
          work = work;
          found = Ok true;
          work' = area_after (member_checked A.roll x.roll x.number (claim_of g) (length work)) work;
          promised = record {
            numbers = indexes_numbers g s;
            told = sym (claim_told g s (length work) (rw length-replicate h));
            area = refl;
          };
        },
        refl,
      )

  -- ---- a claim of absence

  abbrev against : Pauli → Absence
  against w = record { generators = gs; element = p; witness = w }

  -- its checks that are left
  absence_is : (ws : List ℕ) (m : ℕ) → absence_checked A.roll x.roll x.number ws m
      ≡ and_then (read ws) λ sent. within m sent (answer (against (pauli_of (get_or sent m nothing))))
  unfolding absence_checked and_then within refuse_if
  absence_is ws m = rw (both, lt-leb (length x.held) x.number x.within)

  absence_told : (ws : List ℕ) (m : ℕ) → absence_call A.roll x.roll x.number ws m ≡ answer true → (w : Pauli) × (absence_accepted gs p w ≡ true)
  unfolding absence_call within
  absence_told ws m h =
      let (d, c, holds) = map_answer _ (absence_checked A.roll x.roll x.number ws m) true h in
      let (sent, r, s) = answered _ _ d (sym (absence_is ws m) ∙ c) in
      let (number, t) = test_passed _ 8 0 _ d s in
      let w = pauli_of (get_or sent m nothing) in
      let same : against w ≡ d = cc in
      (w, ap (λ (d : Absence). absence_accepted d.generators d.element d.witness) same ∙ holds)

  one_told : (roll : List ℕ) (q : Sparse) → read roll ≡ answer (q ∷ []) → absence_accepted gs p (pauli_of q) ≡ true
      → absence_call A.roll x.roll x.number roll 0 ≡ answer true
  unfolding absence_call map_told and_then within refuse_if
  one_told roll q r holds = rw (absence_is roll 0, r) (ap answer holds)

  abbrev absence : AbsenceClaimLaw gs p
  absence = absence_claim_law gs p

  shown : (d : Denying A x) → Accepted d.found → (w : Pauli) × (absence_accepted gs p w ≡ true)
  shown d h = absence_told d.roll d.number (sym d.promised.told ∙ h)

  -- ---- the roll of a witness

  -- the element's qubits are below 2 ^ 32
  low : (q : ℕ) → Mem q (support_of (p ∷ [])) → q ≤ highest_qubit
  unfolding numbers
  low q m =
      let r = get_or x.held x.number nothing in
      let k : Mem q (support (r ∷ [])) = subst (Mem q) (sym (support_of_lem (r ∷ []))) m in
      all_mem (λ q. q ≤ highest_qubit) (support x.held) (read_qubits x.roll x.held x.accepted).low q
      (sets_in_support r x.held (in_get_or x.held x.number nothing x.within) q (rw append-nil at (support_only (r ∷ []) q k)))

  witness_holds : (w : Witness gs p) → Holds (list_bytes (w.pauli ∷ [])) (w.pauli ∷ [])
  unfolding most_paulis most_qubits
  witness_holds w =
      ⊎_elim (λ on. list_holds A.roll A.held A.accepted (w.pauli ∷ []) (on, tt) (omega arith))
      (λ (q, m, on). written_holds (q ∷ []) (record { rise = (omega arith, tt); few = omega arith; low = (low q m, tt) }) (w.pauli ∷ [])
      (on, tt) (omega arith))
      w.on

  witnessed : (InSpan gs p → ⊥) → (roll : List ℕ) × (q : Sparse) × (read roll ≡ answer (q ∷ [])) × (absence_call A.roll x.roll x.number roll 0 ≡ answer true)
  witnessed out =
      let w = absence.has_claim out in
      let h = witness_holds w in
      let (q, one, same) = one_held w.pauli h.held (h.exactly ∙ ap (λ (v : Pauli). v ∷ []) (normal_lt w.pauli w.value)) in
      let roll = list_bytes (w.pauli ∷ []) in
      let reads : read roll ≡ answer (q ∷ []) = h.accepted ∙ ap answer one in
      (roll, q, reads, one_told roll q reads (ap (absence_accepted gs p) same ∙ w.accepted))

  no_factorization : (w : Pauli) → absence_accepted gs p w ≡ true → factorization_of A.promise gs p ≡ none
  no_factorization w holds = absence.not_member w holds A.promise A.honest

  only_wrong_sign : ((c : Claiming A x) → Accepted c.found → ⊥) → ((d : Denying A x) → Accepted d.found → ⊥) → InSpan gs p × (Generated gs p → ⊥)
  only_wrong_sign i j = (
    ⊎_elim (λ y. y) (λ out. let (roll, q, reads, told) = witnessed out in
        absurd (j (record { roll = roll; number = 0; found = Ok true; promised = record { told = sym told } }) refl)) (span_law gs p).decided,
    λ y. let (c, h) = accepted_in 4096 (omega arith) y in i c h,
  )

pub claims_demand : ClaimsDemand
unfolding NotMember
claims_demand = record {
  member = λ A x c h. (member A x c h).0;
  absent = λ A x d h.
      let (w, holds) = shown A x d h in
      (not_member_when A x (no_factorization A x w holds), (absence A x).absent w holds);
  acceptable = acceptable;
  witnessed = λ A x out.
      let (roll, q, reads, told) = witnessed A x out in
      (roll, q, reads, λ d r n. d.promised.told ∙ ap₂ (λ (b : List ℕ) (k : ℕ). absence_call A.roll x.roll x.number b k) r n ∙ told);
  not_both = λ A x c d h i. let (w, holds) = shown A x d i in (absence A x).absent w holds (member A x c h).1;
  wrong_sign = λ A x inside no. (λ c h. no (member A x c h).1, λ d h. let (w, holds) = shown A x d h in (absence A x).outside w holds inside);
  only_wrong_sign = only_wrong_sign;
}
