-- The common part of two lists, by what its call promises: the roll holds the list of the definition, so what generates the one generates
-- the other.
use mathlib.Core.Path.{◌≡◌, sym, ap, ◌∙◌, subst}
use mathlib.Core.List.{List, [], ◌∷◌, ◌++◌, map}
use Prim.Native.Nat.{ℕ, ◌+◌}
use native.Mathlib.Omega.{arith}
use borrow.Author.Tests.{le-ltb}
use lib.Dec.{ltb}
use lib.ListN.{length, take}
use Rattle.pauli.specs.Pauli.{Pauli, normal}
use Rattle.pauli.specs.ReadBack.{Holds}
use Rattle.pauli.specs.Refusals.{told_by, told_of}
use Rattle.pauli.specs.Roll.{most_paulis, Sparse, support, read}
use Rattle.pauli.specs.Sets.{pauli_of}
use Rattle.pauli.specs.Support.{most_qubits}
use Rattle.pauli.specs.Told.{answer, refuse_if, map_told}
use Rattle.pauli.specs.Writing.{told_bytes}
use Rattle.pauli.proofs.join.ReadBack.{told_bytes_lem}
use Rattle.pauli.proofs.roll.Told.{test_pass, map_answer, map_test}
use Rattle.pauli_theory.specs.Group.{Generated, Inside, SameGroup}
use Rattle.pauli_theory.specs.Marked.{on_x, both_x, next_x, minus_next_x}
use Rattle.pauli_theory.specs.Order.{no_order}
use Rattle.pauli_theory.specs.WholeCommon.{whole_common}
use Rattle.pauli_theory.specs.WholeCommonTheorems.{Apart, WholeCommonLaw}
use Rattle.pauli_theory.proofs.ByValue.{normal_inside, inside_normal}
use Rattle.pauli_theory.proofs.Group.{generators}
use Rattle.pauli_theory.proofs.Order.{Outcome, compared}
use Rattle.pauli_theory.proofs.Theorems.{group_laws}
use Rattle.pauli_theory.proofs.WholeMarked.{whole_marked}
use Rattle.pauli_group.specs.Answers.{order_of}
use Rattle.pauli_group.specs.Calls.{paulis, list_bytes, two_lists, common_bytes, common_call}
use Rattle.pauli_group.proofs.calls.ReadBackLaws.{two_is, both_are}
use Rattle.demand_three.specs.DemandThree.{Generators, list, Element, pauli, Standardized, Comparing, Member, Limits, if_area, if_room}
use Rattle.demand_three.specs.CommonDemand.{Meeting, CommonList, CommonDemand}
use Rattle.demand_three.proofs.DemandJoined.{told_order}
use Rattle.demand_three.proofs.DemandMember.{member_when, member_only}
use Rattle.demand_three.proofs.DemandStandard.{told_test, bytes_are}
use Rattle.demand_three.proofs.ReadBack.{read_back}

-- within the limits of demand 3 two lists are those of their rolls, but for the area
pub two_within : (A B : Generators) → Limits A B → (words : ℕ)
    → two_lists A.roll B.roll words ≡ refuse_if (ltb words 4096) 9 0 (answer (record { left = list A; right = list B }))
unfolding most_paulis most_qubits
two_within A B l words =
    two_is A.roll B.roll A.held B.held A.accepted B.accepted words
    ∙ test_pass _ 2 0 _ (le-ltb 128 (length A.held + length B.held) (omega (arith, l.left, l.right)))
    ∙ test_pass _ 7 0 _ (le-ltb 128 (length (support (A.held ++ B.held))) l.qubits)

module _ (A B : Generators) where
  abbrev part : List Pauli
  part = whole_common (list A) (list B)

  law : WholeCommonLaw (list A) (list B)
  law = group_laws.whole_common_law (list A) (list B)

  -- ---- the bytes of a call that tells a size
  module _ (c : Meeting A B) (n : ℕ) (e : told_of c.wrote ≡ answer n) where
    holds : Holds (take n c.out') part
    holds = read_back.bitand A.roll B.roll c.work c.out c.wrote c.work' c.out' A.held B.held c.promised A.accepted B.accepted n e

    accepted : (ps : List Sparse) × (read (take n c.out') ≡ answer ps)
    accepted = (holds.held, holds.accepted)

    part_bytes : take n c.out' ≡ list_bytes part
    unfolding common_call common_bytes
    part_bytes =
        let words = length c.work in
        let (bs, s, front) = told_bytes_lem (common_call A.roll B.roll words) c.out n (sym c.promised.told ∙ e) in
        let (given, two, made) = map_answer common_bytes (two_lists A.roll B.roll words) bs s in
        ap (take n) c.promised.written ∙ front ∙ sym made ∙ ap common_bytes (both_are A.roll B.roll A.held B.held A.accepted B.accepted words given two).is

  -- ---- what every call tells
  told : Limits A B → (n : ℕ) × ((c : Meeting A B) → told_of c.wrote ≡ if_area c.work (if_room c.out n n))
  unfolding if_area common_call common_bytes map_told
  told l = (
    length (list_bytes part),
    λ c. c.promised.told
        ∙ ap (λ t. told_bytes t c.out)
        (ap (map_told common_bytes) (two_within A B l (length c.work)) ∙ map_test common_bytes (ltb (length c.work) 4096) 9 0 _)
        ∙ told_test (ltb (length c.work) 4096) (list_bytes part) c.out,
  )

-- ---- the list of its roll

module _ (A B C : Generators) (m : CommonList A B C) where
  list_is : list C ≡ map normal (part A B)
  unfolding paulis
  list_is =
      let h = subst (λ (b : List ℕ). Holds b (part A B)) (sym m.bytes) (holds A B m.call m.size m.told) in
      let same : C.held ≡ h.held = cc (C.accepted, h.accepted) in
      ap (map pauli_of) same ∙ h.exactly

  group_is : SameGroup (list C) (part A B)
  group_is = rw list_is (record { there = normal_inside (part A B); back = inside_normal (part A B) })

  common_in : (x : Element) → Generated (part A B) (pauli x) → Member C x
  unfolding Inside
  common_in x a = member_when C x (group_is.back (pauli x) a)

  whole : (x : Element) → Member A x → Member B x → Member C x
  whole x a b = common_in x ((law A B).whole (pauli x) (member_only A x a) (member_only B x b))

  in_left : (x : Element) → Member C x → Member A x
  unfolding Inside
  in_left x a = member_when A x ((law A B).in_left (pauli x) (group_is.there (pauli x) (member_only C x a)))

  in_right : (x : Element) → Member C x → Member B x
  unfolding Inside
  in_right x a = member_when B x ((law A B).in_right (pauli x) (group_is.there (pauli x) (member_only C x a)))

  left_inside : Inside (list A) (list B) → list C ≡ map normal (list A)
  left_inside f = list_is ∙ ap (map normal) ((law A B).inside_left f)

  right_inside : Inside (list B) (list A) → (Inside (list A) (list B) → ⊥) → list C ≡ map normal (list B)
  right_inside f g = list_is ∙ ap (map normal) ((law A B).inside_right f g)

  crews : list A ≡ on_x 0 ∷ next_x ∷ [] → list B ≡ on_x 2 ∷ minus_next_x ∷ [] → (x : Element) → pauli x ≡ both_x → Member C x
  crews a b x e =
      let one : part A B ≡ both_x ∷ [] = rw (a, b) whole_marked.crews in
      common_in x (rw (one, e) (generators (both_x ∷ [])).0)

  else_standard : (D : Generators) → Apart (list A) (list B) → SameGroup (list D) (list C)
      → (d : Standardized D) (k : ℕ) → told_of d.wrote ≡ answer k → take k d.out' ≡ C.roll
  else_standard D a s d k t =
      let same = (group_laws.canonical_law (list D) (list C)).same_standard s ∙ (group_laws.canonical_law (list C) (part A B)).same_standard group_is in
      bytes_are D d k t ∙ ap list_bytes (same ∙ (law A B).own_standard a) ∙ sym (m.bytes ∙ part_bytes A B m.call m.size m.told)

apart : (A B : Generators) (o : Comparing A B) → told_by order_of o.found ≡ answer no_order → Apart (list A) (list B)
apart A B o e =
    let n = subst (Outcome (list A) (list B)) (told_order A B o no_order e) (compared A.promise B.promise (list A) (list B) A.honest B.honest) in
    record { left = n.0; right = n.1 }

pub common_demand : CommonDemand
common_demand = record {
  accepted = accepted;
  whole = whole;
  in_left = in_left;
  in_right = in_right;
  else_standard = λ A B C D m. else_standard A B C m D;
  apart = apart;
  left_inside = left_inside;
  right_inside = right_inside;
  crews = crews;
  told = told;
}
