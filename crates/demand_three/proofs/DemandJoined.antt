-- Joining, and comparing a list with the two joined, by what the calls promise.
use mathlib.Core.Path.{◌≡◌, sym, ap, ◌∙◌}
use mathlib.Core.Logic.{⊎_elim}
use mathlib.Core.List.Memᴰ
use mathlib.Core.List.Memᴰ.{append_cases as in-append}
use mathlib.Core.List.{◌++◌, map, Memᴰ as Mem}
use Prim.Native.Nat.{ℕ, ◌+◌, ◌≤◌, ◌<◌}
use native.Mathlib.Omega.{arith}
use borrow.Author.Tests.{le-ltb}
use lib.Dec.{ltb}
use lib.ListN.{length, take, length-map, length-append, get_or-map}
use Rattle.binar.proofs.Lists.{all_get, all_by}
use Rattle.pauli.specs.JoinCalls.{read_both, few_qubits, join_of}
use Rattle.pauli.specs.Condense.{nothing}
use Rattle.pauli.specs.Roll.{most_paulis, numbers, support, read, by_value, write}
use Rattle.pauli.specs.Support.{most_qubits}
use Rattle.pauli.specs.Sets.{pauli_of}
use Rattle.pauli.specs.Told.{answer, refuse_if, and_then, map_told}
use Rattle.pauli.specs.Writing.{told_bytes}
use Rattle.pauli.proofs.join.ReadBack.{told_bytes_lem}
use Rattle.pauli.proofs.join.JoinedLists.{join_is, joined_law as join_law}
use Rattle.pauli.proofs.roll.ListSupport.{numbers_append, numbers_by_value, support_length}
use Rattle.pauli.proofs.roll.Told.{test_pass, test_passed, map_test}
use Rattle.pauli_theory.specs.Group.{Generated, Inside, SameGroup}
use Rattle.pauli_theory.specs.Order.{Order, equal, less, partial_cmp}
use Rattle.pauli_theory.specs.Theorems.{OrderLaw}
use Rattle.pauli_theory.proofs.Group.{inside_by, all_inside, inside_join, joined_law, joined_left}
use Rattle.pauli_theory.proofs.Theorems.{group_laws}
use Rattle.pauli_group.specs.WorkArea.{enough}
use Rattle.pauli_group.specs.Calls.{paulis, two_lists, order_call}
use Rattle.demand_three.specs.DemandThree.{Generators, list, Element, pauli, generator, Joining, Comparing, Member, AllMembers, JoinedList, Limits, if_area, if_room}
use Rattle.pauli_group.proofs.group.GroupLaws.{paulis_append}
use Rattle.demand_three.proofs.DemandLists.{by_value_group}
use Rattle.demand_three.proofs.DemandMember.{member_when, member_only}
use Rattle.pauli_group.specs.Answers.{order_of}
use Rattle.pauli.specs.Refusals.{told_by, told_of}

module _ (A B : Generators) where
  -- a call that tells a size
  module _ (c : Joining A B) (n : ℕ) (e : told_of c.wrote ≡ answer n) where
    pub joined_list : read (take n c.out') ≡ answer (map by_value (A.held ++ B.held))
    joined_list =
        let (bs, j, front) = told_bytes_lem (join_of A.roll B.roll) c.out n (sym c.promised.told ∙ e) in
        ap read (ap (take n) c.promised.left ∙ front) ∙ (join_law A.roll B.roll A.held B.held bs A.accepted B.accepted j).read_back

  pub joining_told : Limits A B → (c : Joining A B)
      → let n = length (write (A.held ++ B.held)) in told_of c.wrote ≡ if_room c.out n n
  unfolding told_bytes if_room most_paulis most_qubits
  joining_told l c =
      let passed : join_of A.roll B.roll ≡ answer (write (A.held ++ B.held)) =
      join_is A.roll B.roll A.held B.held A.accepted B.accepted ∙ test_pass _ 2 0 _ (le-ltb 128 (length A.held + length B.held) (omega arith))
      ∙ test_pass _ 7 0 _ (le-ltb 128 (length (support (A.held ++ B.held))) l.qubits) in
      c.promised.told ∙ ap (λ t. told_bytes t c.out) passed

-- ---- the generators of a list, as elements

module _ (A B : Generators) where
  all_members : AllMembers A B → Inside (list B) (list A)
  unfolding AllMembers paulis
  all_members m =
      inside_by (list B) (list A)
      (all_by (Generated (list A)) (list B) (pauli_of nothing) λ i l.
      let h : i < length B.held = rw length-map at l in
      rw (get_or-map pauli_of B.held i nothing) (member_only A (generator B i h) (m i h)))

  members_all : Inside (list B) (list A) → AllMembers A B
  unfolding AllMembers paulis
  members_all f i h =
      let l : i < length (list B) = rw length-map h in
      member_when A (generator B i h)
      (rw (get_or-map pauli_of B.held i nothing) at
      (all_get (Generated (list A)) (list B) (pauli_of nothing) (all_inside (list B) (list A) f) i l))

-- ---- comparison

module _ (A B : Generators) where
  abbrev order : Order
  order = partial_cmp A.promise B.promise (list A) (list B)

  order_is : (words : ℕ) → order_call A.promise B.promise A.roll B.roll words
      ≡ refuse_if (ltb 128 (length A.held + length B.held)) 2 0
      (refuse_if (ltb 128 (length (support (A.held ++ B.held)))) 7 0 (refuse_if (ltb words 4096) 9 0 (answer order)))
  unfolding order_call two_lists read_both and_then few_qubits enough most_paulis most_qubits map_told
  order_is words = rw (A.accepted, B.accepted) (simp map_test)

  pub told_order : (c : Comparing A B) (o : Order) → told_by order_of c.found ≡ answer o → order ≡ o
  told_order c o e =
      let (a, h) = test_passed _ 2 0 _ o (sym (order_is (length c.work)) ∙ sym c.promised.told ∙ e) in
      let (b, k) = test_passed _ 7 0 _ o h in
      let (d, l) = test_passed _ 9 0 _ o k in
      cc

-- ---- the joined list

module _ (A B J : Generators) (j : JoinedList A B J) where
  held_is : J.held ≡ map by_value (A.held ++ B.held)
  held_is = cc (joined_list A B j.call j.size j.told)

  pub group_is : SameGroup (list A ++ list B) (list J)
  group_is =
      let s = by_value_group (A.held ++ B.held) in
      rw held_is (rw (paulis_append A.held B.held) at s)

  left_inside : Inside (list A) (list J)
  left_inside = inside_join (list A) (list A ++ list B) (list J) (joined_law (list A) (list B)).left group_is.there

  right_inside : Inside (list B) (list J)
  right_inside = inside_join (list B) (list A ++ list B) (list J) (joined_law (list A) (list B)).right group_is.there

  -- the joined group is A's where B's is inside A's
  inside_left : Inside (list B) (list A) → Inside (list J) (list A)
  inside_left f = inside_join (list J) (list A ++ list B) (list A) group_is.back (joined_left (list A) (list B) f).back

  pub member_left_lem : (x : Element) → Member A x → Member J x
  unfolding Inside
  member_left_lem x m = member_when J x (left_inside (pauli x) (member_only A x m))

  pub member_right : (x : Element) → Member B x → Member J x
  unfolding Inside
  member_right x m = member_when J x (right_inside (pauli x) (member_only B x m))

  -- ---- A compared with the joined list
  law : OrderLaw A.promise J.promise (list A) (list J)
  law = group_laws.order_law A.promise J.promise (list A) (list J) A.honest J.honest

  module _ (c : Comparing A J) (o : Order) (e : told_by order_of c.found ≡ answer o) where
    pub equal_when : AllMembers A B → o ≡ equal
    equal_when m = sym (told_order A J c o e) ∙ law.equal_only (record { there = left_inside; back = inside_left (all_members A B m) })

    pub equal_only : o ≡ equal → AllMembers A B
    equal_only s =
        members_all A B (inside_join (list B) (list J) (list A) right_inside (law.equal_right (told_order A J c o e ∙ s)).back)

    pub else_less : (AllMembers A B → ⊥) → o ≡ less
    else_less n =
        sym (told_order A J c o e)
        ∙ law.less_only left_inside (λ f. n (members_all A B (inside_join (list B) (list J) (list A) right_inside f)))

  -- within the limits of demand 3, A and the joined list are within those of a comparison
  module _ (l : Limits A B) where
    count_few : length A.held + length J.held ≤ 128
    count_few =
        omega (arith, ap length held_is, length-map (A.held ++ B.held) by_value, length-append A.held B.held)

    numbers_in : (q : ℕ) → Mem q (numbers (A.held ++ J.held)) → Mem q (numbers (A.held ++ B.held))
    numbers_in q m =
        let same : numbers (A.held ++ J.held) ≡ numbers A.held ++ numbers (A.held ++ B.held) =
        numbers_append A.held J.held ∙ ap (numbers A.held ++◌) (ap numbers held_is ∙ numbers_by_value (A.held ++ B.held)) in
        ⊎_elim (λ i. rw (numbers_append A.held B.held) (Memᴰ.append_left (numbers B.held) i)) (λ i. i)
        (in-append (numbers A.held) (rw same at m))

    qubits_few : length (support (A.held ++ J.held)) ≤ 128
    qubits_few = omega (arith, support_length (A.held ++ J.held) (A.held ++ B.held) numbers_in)

    pub comparing_told : (o : Order) × ((c : Comparing A J) → told_by order_of c.found ≡ if_area c.work (answer o))
    unfolding if_area
    comparing_told = (
      order A J,
      λ c. c.promised.told ∙ order_is A J (length c.work)
          ∙ test_pass _ 2 0 _ (le-ltb 128 (length A.held + length J.held) count_few)
          ∙ test_pass _ 7 0 _ (le-ltb 128 (length (support (A.held ++ J.held))) qubits_few),
    )
