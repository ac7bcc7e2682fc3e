-- Membership, by what its calls promise.
use Rattle.std.proofs.Common.{◌≡◌, refl, sym, ap, ap₂, ◌∙◌, subst, Bool, true, false, List, ◌++◌, ℕ, ◌+◌, ◌*◌, ◌≤◌, ◌<◌, arith, ltb, length, get_or, drop, replicate, Ok, Result, Option as CodeOption, Some, None}
use mathlib.Core.Option.{Option, some, none}
use borrow.Author.Tests.{ltb-false, le-ltb}
use lib.ListN.{length-replicate}
use Rattle.binar.specs.Row.{weight}
use Rattle.binar.proofs.Lists.{all_map}
use Rattle.pauli.specs.Pauli.{indexed_product}
use Rattle.pauli.specs.Condense.{nothing}
use Rattle.pauli.specs.Roll.{most_paulis, Sparse, read}
use Rattle.pauli.specs.Sets.{members, pauli_of}
use Rattle.pauli.specs.Told.{answer, refuse_if}
use Rattle.pauli.specs.Writing.{put_bytes}
use Rattle.pauli.proofs.condense.Sets.{members_rise, members_count}
use Rattle.pauli.proofs.roll.Told.{test_pass, test_passed}
use Rattle.pauli_theory.specs.Group.{Generated, Promise}
use Rattle.pauli_theory.specs.Membership.{Factorization, factorization_of}
use Rattle.pauli_theory.specs.Theorems.{MembershipLaw}
use Rattle.pauli_theory.proofs.IndexSets.{members_below}
use Rattle.pauli_theory.proofs.Theorems.{group_laws}
use Rattle.pauli_group.specs.WorkArea.{area_after}
use Rattle.pauli_group.specs.Calls.{paulis, question, factorization_call, index_bytes, Factored, factored, told_member, member_left}
use Rattle.pauli_group.proofs.factorization.QuestionLaws.{weight_few, index_bytes_lem, question_is}
use Rattle.demand_three.specs.DemandThree.{Generators, list, Element, pauli, Asked, Member, indexes_at, Gives, if_area, if_room, bytes_of}
use Rattle.pauli_group.proofs.calls.ReadBackLaws.{read_few}
use Rattle.demand_three.proofs.DemandLists.{indexes_read, named_select}
use Rattle.pauli_group.specs.declared.answers.Factors.{Factors}
use Rattle.pauli.specs.declared.refusal.Refusal.{Refusal}
use Rattle.pauli_group.specs.Answers.{factored_in}
use Rattle.pauli.specs.Refusals.{told_by}

-- ---- what a call tells of a factorization

unfoldable pub result : Option Factorization → Option Factored
result none = none
result (some g) = some (factored g)

told_result : (t : Bool) (F : Option Factorization) (out : List ℕ)
    → told_member (refuse_if t 9 0 (answer F)) out ≡ refuse_if t 9 0 (if_room out (bytes_of (result F)) (result F))
unfolding told_member refuse_if if_room bytes_of factored result
told_result true F out = refl
told_result false none out = sym (test_pass (ltb (length out) 0) 12 0 (answer none) (le-ltb (length out) 0 (omega arith)))
told_result false (some g) out = ap (λ (k : ℕ). refuse_if (ltb (length out) k) 12 0 (answer (some (factored g)))) (index_bytes_lem g)

pub left_result : (g : Factorization) (out : List ℕ) → 2 * weight g.indexes ≤ length out
    → member_left (answer (some g)) out ≡ put_bytes out 0 (index_bytes g)
unfolding member_left
left_result g out h = rw (index_bytes_lem g, le-ltb (length out) (2 * weight g.indexes) h)

-- an answer with indexes comes of a factorization
result_some : (F : Option Factorization) (f : Factored) → result F ≡ some f → (g : Factorization) × (F ≡ some g) × (factored g ≡ f)
unfolding result
result_some none f e = absurd (let z : ◌≡◌ {A = ℕ} 0 1 = cc in omega arith)
result_some (some g) f e = (g, refl, cc)

-- the answer that tells a result
found_of : Option Factored → Result (CodeOption Factors) Refusal
found_of none = Ok None
found_of (some f) = Ok (Some (record { count = f.count; exponent = f.exponent }))

told_found : (r : Option Factored) → told_by factored_in (found_of r) ≡ answer r
unfolding found_of
told_found none = refl
told_found (some f) = refl

-- n words
pub room : (n : ℕ) → (l : List ℕ) × (length l ≡ n)
room n = (replicate n 0, length-replicate n 0)

-- ---- a question to a list, whatever is promised

module _ (promise : Promise) (b e : List ℕ) (ps qs : List Sparse) (p : read b ≡ answer ps) (q : read e ≡ answer qs) (n : ℕ) (h : n < length qs) where
  abbrev G : Option Factorization
  G = factorization_of promise (paulis ps) (pauli_of (get_or qs n nothing))

  bytes_few : bytes_of (result G) ≤ 256
  unfolding bytes_of result factored
  bytes_few = go G refl
    where
      go : (o : Option Factorization) → G ≡ o → bytes_of (result o) ≤ 256
      go none f = omega arith
      go (some g) f = omega (arith, weight_few promise b ps p (pauli_of (get_or qs n nothing)) g f)

  -- what every call tells
  pub told_of : (work out : List ℕ) → told_member (factorization_call promise b e n (length work)) out
      ≡ if_area work (if_room out (bytes_of (result G)) (result G))
  unfolding if_area
  told_of work out = ap (λ t. told_member t out) (question_is promise b e ps qs p q n h (length work)) ∙ told_result (ltb (length work) 4096) G out

  pub passes : (work out : List ℕ) → 4096 ≤ length work → 256 ≤ length out
      → if_area work (if_room out (bytes_of (result G)) (result G)) ≡ answer (result G)
  unfolding if_area if_room
  passes work out l k =
      test_pass _ 9 0 _ (le-ltb (length work) 4096 l)
      ∙ test_pass _ 12 0 _ (le-ltb (length out) (bytes_of (result G)) (omega (arith, bytes_few)))

-- ---- a question with no promise or a true one

module _ (A : Generators) where
  pub list_few : length (list A) ≤ 128
  unfolding most_paulis
  list_few = read_few A.roll A.held A.accepted

module _ (A : Generators) (x : Element) where
  pub law : MembershipLaw A.promise (list A) (pauli x)
  law = group_laws.membership_law A.promise (list A) (pauli x) A.honest

  abbrev F : Option Factorization
  F = factorization_of A.promise (list A) (pauli x)

  call_is : (words : ℕ)
      → factorization_call A.promise A.roll x.roll x.number words ≡ refuse_if (ltb words 4096) 9 0 (answer F)
  call_is = question_is A.promise A.roll x.roll A.held x.held A.accepted x.accepted x.number x.within

  tells : (work out : List ℕ) → told_member (factorization_call A.promise A.roll x.roll x.number (length work)) out
      ≡ if_area work (if_room out (bytes_of (result F)) (result F))
  tells = told_of A.promise A.roll x.roll A.held x.held A.accepted x.accepted x.number x.within

  goes_on : (work out : List ℕ) → 4096 ≤ length work → 256 ≤ length out
      → if_area work (if_room out (bytes_of (result F)) (result F)) ≡ answer (result F)
  goes_on = passes A.promise A.roll x.roll A.held x.held A.accepted x.accepted x.number x.within

  told_is : (c : Asked A x) → told_by factored_in c.found ≡ if_area c.work (if_room c.out (bytes_of (result F)) (result F))
  told_is c = c.promised.told ∙ tells c.work c.out

  pub asked_told : (r : Option Factored)
      × ((c : Asked A x) → told_by factored_in c.found ≡ if_area c.work (if_room c.out (bytes_of r) r))
  asked_told = (result F, told_is)

  -- a call with room
  called : (work out : List ℕ) → 4096 ≤ length work → 256 ≤ length out → Asked A x
  called work out h k = record {
    work = work;
    out = out;
    found = found_of (result F);
    work' = area_after (question A.roll x.roll x.number (length work)) work;
    out' = member_left (factorization_call A.promise A.roll x.roll x.number (length work)) out;
    promised = record {
      told = told_found (result F) ∙ sym (tells work out ∙ goes_on work out h k);
      left = refl;
      area = refl;
    };
  }

  -- ---- a call that answers
  module _ (c : Asked A x) (r : Option Factored) (e : told_by factored_in c.found ≡ answer r) where
    answer_tests : (ltb (length c.work) 4096 ≡ false) × (ltb (length c.out) (bytes_of (result F)) ≡ false) × (result F ≡ r)
    unfolding if_area if_room
    answer_tests =
        let (area, h) = test_passed _ 9 0 _ r (sym (told_is c) ∙ e) in
        let (short, k) = test_passed _ 12 0 _ r h in
        (area, short, cc)

  pub indexes_only : (c : Asked A x) (f : Factored) → told_by factored_in c.found ≡ answer (some f) → Generated (list A) (pauli x)
  indexes_only c f e = let (g, s, same) = result_some F f (answer_tests c (some f) e).2 in law.sound g s

  pub none_only : (c : Asked A x) → told_by factored_in c.found ≡ answer none → Generated (list A) (pauli x) → ⊥
  unfolding result
  none_only c e a =
      let (g, s) = law.complete a in
      let n : result F ≡ none = (answer_tests c none e).2 in
      let m : result F ≡ some (factored g) = ap result s in
      let z : ◌≡◌ {A = ℕ} 0 1 = cc in omega arith

  -- ---- members
  pub member_when : Generated (list A) (pauli x) → Member A x
  unfolding Member result
  member_when a c h k =
      let (g, s) = law.complete a in (factored g, told_is c ∙ goes_on c.work c.out h k ∙ ap (λ G. answer (result G)) s)

  pub member_only : Member A x → Generated (list A) (pauli x)
  unfolding Member called
  member_only m =
      let (work, h) = room 4096 in
      let (out, k) = room 256 in
      let c = called work out (omega arith) (omega arith) in
      let (f, e) = m c (omega arith) (omega arith) in
      indexes_only c f e

  -- where none is generated, no call with an area finds one
  pub not_member_when : F ≡ none → (c : Asked A x) → 4096 ≤ length c.work → told_by factored_in c.found ≡ answer none
  unfolding if_area if_room result bytes_of refuse_if
  not_member_when n c h =
      told_is c ∙ test_pass _ 9 0 _ (le-ltb (length c.work) 4096 h)
      ∙ rw n (test_pass _ 12 0 _ (le-ltb (length c.out) 0 (omega arith)))

  -- ---- the indexes given
  module _ (g : Factorization) (s : F ≡ some g) where
    pub gives : Gives (list A) (members g.indexes) (factored g) (pauli x)
    unfolding factored indexed_product
    gives =
        let n = length (list A) in
        let (low, value) = law.within g s in
        record {
          count = members_count g.indexes;
          rising = members_rise g.indexes;
          within = members_below n g.indexes low;
          value = value;
          equals = rw (named_select (list A) g.indexes low) (law.equals g s);
        }

    -- read off bytes in which they stand from byte i on
    pub given : (b : List ℕ) (i : ℕ) (rest : List ℕ) → drop i b ≡ index_bytes g ++ rest
        → indexes_at b i (factored g).count ≡ members g.indexes
    unfolding index_bytes factored
    given b i rest h =
        let n = length (list A) in
        let ms = members g.indexes in
        ap (indexes_at b i) (sym (members_count g.indexes))
        ∙ indexes_read b i ms rest (all_map (λ i l. omega (arith, list_few A)) ms (members_below n g.indexes (law.within g s).0)) h

  -- an answer with indexes comes of a factorization, and these are its indexes
  pub answered_by : (c : Asked A x) (f : Factored) → told_by factored_in c.found ≡ answer (some f)
      → (g : Factorization) × (F ≡ some g) × (factored g ≡ f) × (indexes_at c.out' 0 f.count ≡ members g.indexes)
  unfolding result bytes_of refuse_if factored put_bytes
  answered_by c f e =
      let (area, short, told) = answer_tests c (some f) e in
      let (g, s, same) = result_some F f told in
      let size : 2 * weight g.indexes ≤ length c.out = rw s at (ltb-false (length c.out) (bytes_of (result F)) short) in
      let left : c.out' ≡ put_bytes c.out 0 (index_bytes g) =
      c.promised.left
      ∙ ap (λ t. member_left t c.out) (call_is (length c.work) ∙ test_pass _ 9 0 _ area ∙ ap answer s)
      ∙ left_result g c.out size in
      let here : indexes_at c.out' 0 f.count ≡ members g.indexes =
      ap₂ (λ (o : List ℕ) (f : Factored). indexes_at o 0 f.count) left (sym same)
      ∙ given g s (put_bytes c.out 0 (index_bytes g)) 0 (drop (0 + length (index_bytes g)) c.out) refl in
      (g, s, same, here)

  pub product_is : (c : Asked A x) (f : Factored) → told_by factored_in c.found ≡ answer (some f)
      → Gives (list A) (indexes_at c.out' 0 f.count) f (pauli x)
  unfolding factored
  product_is c f e =
      let (g, s, same, here) = answered_by c f e in
      subst (λ (ms : List ℕ). Gives (list A) ms f (pauli x)) (sym here)
      (subst (λ (f : Factored). Gives (list A) (members g.indexes) f (pauli x)) same (gives g s))
