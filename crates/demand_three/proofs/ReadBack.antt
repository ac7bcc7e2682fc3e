-- What each call writes is within the limits of a roll, so that it is read back.
use mathlib.Core.Path.{◌≡◌, refl, sym, ap, ◌∙◌, subst}
use mathlib.Core.List.{List, ◌++◌, map}
use mathlib.Core.Option.{Option, some, none}
use Prim.Native.Nat.{ℕ, ◌+◌}
use native.Mathlib.Omega.{arith}
use lib.ListN.{length, take, drop}
use Rattle.binar.proofs.Lists.{all_left, all_right}
use Rattle.pauli.specs.Told.{answer, and_then, map_told}
use Rattle.pauli.specs.Roll.{most_paulis, Sparse, read, write}
use Rattle.pauli.specs.Support.{All}
use Rattle.pauli.specs.Pauli.{Pauli}
use Rattle.pauli.specs.PauliTheorems.{PauliOn}
use Rattle.pauli.specs.Sets.{sparse_of}
use Rattle.pauli.specs.ReadBack.{Holds}
use Rattle.pauli.proofs.join.ReadBack.{told_bytes_lem, call_holds, joining_read_back, product_read_back}
use Rattle.pauli.proofs.roll.Told.{refused_none, test_passed, answered, map_answer}
use Rattle.pauli_theory.specs.Group.{Promise}
use Rattle.pauli_theory.specs.Standard.{support_of, standard}
use Rattle.pauli_theory.specs.Listing.{largest_page, page_size, elements_of, page}
use Rattle.pauli_theory.specs.Symplectic.{symplectic_form}
use Rattle.pauli_theory.specs.Modulo.{modulo, try_quotient}
use Rattle.pauli_theory.specs.WholeCommon.{whole_common}
use Rattle.pauli_theory.proofs.ListingTheorems.{listing_laws}
use Rattle.pauli_theory.proofs.Theorems.{group_laws}
use Rattle.pauli_group.specs.WorkArea.{enough}
use Rattle.pauli_group.specs.Calls.{paulis, one_list, standard_bytes, standard_generators, symplectic_bytes, symplectic_call, page_bytes, elements_call, Pair, two_lists, modulo_bytes, modulo_call, quotient_bytes, quotient_call, common_bytes, common_call}
use Rattle.pauli_group.specs.CallContracts.{QuotientCall}
use Rattle.pauli_group.proofs.calls.ReadBackLaws.{read_few, list_holds, both_are, quotient_holds, modulo_holds, common_holds}
use Rattle.demand_three.specs.ReadBack.{ReadBack}
use Rattle.pauli.specs.declared.refusal.Refusal.{Refusal}
use Rattle.std.proofs.Common.{Result}
use Rattle.pauli.specs.Refusals.{told_of}

-- ---- calls on one list

module _ (b : List ℕ) (ps : List Sparse) (e : read b ≡ answer ps) where
  one_is : (words : ℕ) (hs : List Pauli) → one_list b words ≡ answer hs → hs ≡ paulis ps
  unfolding one_list and_then enough
  one_is words hs s = let (area, same) = test_passed _ 9 0 _ hs (rw e at s) in cc

  -- the result of a list, as bytes
  module _ (f : List Pauli → List ℕ) (rs : List Pauli) (h : Holds (f (paulis ps)) rs) where
    one_holds : (words : ℕ) (bs : List ℕ) → map_told f (one_list b words) ≡ answer bs → Holds bs rs
    one_holds words bs s =
        let (hs, one, made) = map_answer f (one_list b words) bs s in
        subst (λ (c : List ℕ). Holds c rs) (ap f (sym (one_is words hs one)) ∙ made) h

  pub standard_holds : Holds (write (map sparse_of (standard (paulis ps)))) (standard (paulis ps))
  unfolding most_paulis
  standard_holds =
      let law = group_laws.standard_law (paulis ps) in
      list_holds b ps e (standard (paulis ps)) law.on_support (omega (arith, law.count, read_few b ps e))

  symplectic_holds : Holds (write (map sparse_of (symplectic_form (paulis ps)))) (symplectic_form (paulis ps))
  symplectic_holds =
      let law = group_laws.symplectic_law (paulis ps) in
      list_holds b ps e (symplectic_form (paulis ps)) law.on_support (omega (arith, law.count, read_few b ps e))

  module _ (promise : Promise) (start count : ℕ) where
    abbrev es : List Pauli
    es = elements_of promise (paulis ps)

    page_holds : Holds (write (map sparse_of (page start count (elements_of promise (paulis ps))))) (page start count (elements_of promise (paulis ps)))
    unfolding most_paulis largest_page
    page_holds =
        let law = listing_laws.page_law start count es in
        let on = subst (All (PauliOn (support_of (paulis ps)))) law.parts (listing_laws.elements_law promise (paulis ps)).on_support in
        list_holds b ps e (page start count es)
        (all_left (PauliOn (support_of (paulis ps))) (page start count es) (drop (start + page_size count) es)
        (all_right (PauliOn (support_of (paulis ps))) (take start es) (page start count es ++ drop (start + page_size count) es) on))
        (omega (arith, law.size, law.limit))

    elements_hold : (words : ℕ) (bs : List ℕ) → elements_call promise start count b words ≡ answer bs → Holds bs (page start count (elements_of promise (paulis ps)))
    unfolding elements_call page_bytes
    elements_hold words bs s =
        let (hs, one, next) = answered (one_list b words) _ bs s in
        let (low, made) = test_passed _ 10 0 _ bs next in
        let same : hs ≡ paulis ps = one_is words hs one in
        let bytes : write (map sparse_of (page start count (elements_of promise hs))) ≡ bs = cc in
        subst (λ (c : List ℕ). Holds c (page start count es)) (ap (λ (ks : List Pauli). write (map sparse_of (page start count (elements_of promise ks)))) (sym same) ∙ bytes) page_holds

-- ---- calls on two lists

quotient_bytes_lem : (o : Option (List Pauli)) (bs : List ℕ) → quotient_bytes o ≡ answer bs → (rs : List Pauli) × (o ≡ some rs) × (write (map sparse_of rs) ≡ bs)
unfolding quotient_bytes
quotient_bytes_lem (some rs) bs e = (rs, refl, cc)
quotient_bytes_lem none bs e = absurd (refused_none 11 0 bs e)

-- ---- the calls

quotient_back : (left right : Promise) (l r work out : List ℕ) (wrote : Result ℕ Refusal) (work' out' : List ℕ) (ps qs : List Sparse)
    → QuotientCall left right l r work out wrote work' out' → read l ≡ answer ps → read r ≡ answer qs → (n : ℕ) → told_of wrote ≡ answer n
    → (rs : List Pauli) × (try_quotient left right (paulis ps) (paulis qs) ≡ some rs) × Holds (take n out') rs
unfolding quotient_call try_quotient
quotient_back left right l r work out wrote work' out' ps qs c el er n t =
    let (bs, s, front) = told_bytes_lem (quotient_call left right l r (length work)) out n (sym c.told ∙ t) in
    let (given, two, next) = answered (two_lists l r (length work)) _ bs s in
    let B = both_are l r ps qs el er (length work) given two in
    let (rs, divided, made) = quotient_bytes_lem (try_quotient left right given.left given.right) bs next in
    let same : try_quotient left right (paulis ps) (paulis qs) ≡ some rs = ap (λ (b : Pair). try_quotient left right b.left b.right) (sym B.is) ∙ divided in (
      rs,
      same,
      subst (λ (b : List ℕ). Holds b rs) (sym (ap (take n) c.written ∙ front ∙ sym made)) (quotient_holds l r ps qs el er B.fit left right rs same),
    )

pub read_back : ReadBack
unfolding standard_generators standard_bytes symplectic_call symplectic_bytes modulo_call modulo_bytes common_call common_bytes
read_back = record {
  standard_generators = λ b work out wrote work' out' ps c e n t.
      call_holds (standard_generators b (length work)) out wrote out' n c.told c.left t (standard (paulis ps))
      (one_holds b ps e standard_bytes (standard (paulis ps)) (standard_holds b ps e) (length work));
  symplectic_form_of = λ b work out wrote work' out' ps c e n t.
      call_holds (symplectic_call b (length work)) out wrote out' n c.told c.left t (symplectic_form (paulis ps))
      (one_holds b ps e symplectic_bytes (symplectic_form (paulis ps)) (symplectic_holds b ps e) (length work));
  elements = λ promise start count b work out wrote work' out' ps c e n t.
      call_holds (elements_call promise start count b (length work)) out wrote out' n c.told c.left t
      (page start count (elements_of promise (paulis ps))) (elements_hold b ps e promise start count (length work));
  modulo = λ right l r work out wrote work' out' ps qs c el er n t.
      call_holds (modulo_call right l r (length work)) out wrote out' n c.told c.written t (modulo right (paulis ps) (paulis qs)) λ bs s.
      let (given, two, made) = map_answer (modulo_bytes right) (two_lists l r (length work)) bs s in
      let B = both_are l r ps qs el er (length work) given two in
      subst (λ (b : List ℕ). Holds b (modulo right (paulis ps) (paulis qs))) (ap (modulo_bytes right) (sym B.is) ∙ made)
      (modulo_holds l r ps qs el er B.fit right);
  try_quotient = quotient_back;
  bitand = λ l r work out wrote work' out' ps qs c el er n t.
      call_holds (common_call l r (length work)) out wrote out' n c.told c.written t (whole_common (paulis ps) (paulis qs)) λ bs s.
      let (given, two, made) = map_answer common_bytes (two_lists l r (length work)) bs s in
      let B = both_are l r ps qs el er (length work) given two in
      subst (λ (b : List ℕ). Holds b (whole_common (paulis ps) (paulis qs))) (ap common_bytes (sym B.is) ∙ made)
      (common_holds l r ps qs el er B.fit);
  joining = joining_read_back;
  product = product_read_back;
}
