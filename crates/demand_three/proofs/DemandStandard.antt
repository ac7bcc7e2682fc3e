-- Standard generators, by what their calls promise: their roll holds them, so it is the same exactly for the same group.
use mathlib.Core.Path.{◌≡◌, refl, sym, ap, ◌∙◌}
use mathlib.Core.Bool.{Bool, true, false}
use mathlib.Core.List.{List, map}
use Prim.Native.Nat.{ℕ}
use lib.Dec.{ltb}
use lib.ListN.{length, take}
use Rattle.pauli.specs.Sets.{pauli_of, sparse_of}
use Rattle.pauli.specs.Roll.{Sparse, write}
use Rattle.pauli.specs.Told.{answer, refuse_if, and_then, map_told}
use Rattle.pauli.specs.Writing.{told_bytes}
use Rattle.pauli.proofs.join.ReadBack.{told_bytes_lem}
use Rattle.pauli.proofs.roll.Told.{test_passed, map_test}
use Rattle.pauli_theory.specs.Group.{SameGroup}
use Rattle.pauli_theory.specs.Standard.{standard}
use Rattle.pauli_theory.proofs.ByValue.{standard_values}
use Rattle.pauli_theory.proofs.Theorems.{group_laws}
use Rattle.pauli_group.specs.WorkArea.{enough}
use Rattle.pauli_group.specs.Calls.{one_list, standard_bytes, standard_generators}
use Rattle.demand_three.specs.DemandThree.{Generators, list, Standardized, if_area, if_room}
use Rattle.demand_three.proofs.ReadBack.{standard_holds}
use Rattle.pauli.specs.Refusals.{told_of}

-- the standard generators as the roll holds them
abbrev roll_of : Generators → List Sparse
roll_of A = map sparse_of (standard (list A))

-- ---- the calls

pub told_test : (t : Bool) (bs out : List ℕ)
    → told_bytes (refuse_if t 9 0 (answer bs)) out ≡ refuse_if t 9 0 (if_room out (length bs) (length bs))
unfolding told_bytes refuse_if if_room
told_test true bs out = refl
told_test false bs out = refl

module _ (A : Generators) where
  call_is : (words : ℕ) → standard_generators A.roll words ≡ refuse_if (ltb words 4096) 9 0 (answer (write (roll_of A)))
  unfolding standard_generators standard_bytes one_list and_then enough map_told
  call_is words = rw A.accepted (simp map_test)

  pub standard_told : (n : ℕ) × ((c : Standardized A) → told_of c.wrote ≡ if_area c.work (if_room c.out n n))
  unfolding if_area
  standard_told = (
    length (write (roll_of A)),
    λ c. c.promised.told ∙ ap (λ t. told_bytes t c.out) (call_is (length c.work))
        ∙ told_test (ltb (length c.work) 4096) (write (roll_of A)) c.out,
  )

  pub bytes_are : (c : Standardized A) (n : ℕ) → told_of c.wrote ≡ answer n → take n c.out' ≡ write (roll_of A)
  bytes_are c n e =
      let (bs, s, front) = told_bytes_lem (standard_generators A.roll (length c.work)) c.out n (sym c.promised.told ∙ e) in
      let (area, h) = test_passed _ 9 0 _ bs (sym (call_is (length c.work)) ∙ s) in
      ap (take n) c.promised.left ∙ front ∙ cc

module _ (A B : Generators) (c : Standardized A) (d : Standardized B) (m n : ℕ) (e : told_of c.wrote ≡ answer m)
    (f : told_of d.wrote ≡ answer n) where
  pub same_bytes : SameGroup (list A) (list B) → take m c.out' ≡ take n d.out'
  same_bytes s =
      bytes_are A c m e ∙ ap (λ gs. write (map sparse_of gs)) ((group_laws.canonical_law (list A) (list B)).same_standard s)
      ∙ sym (bytes_are B d n f)

  pub same_group : take m c.out' ≡ take n d.out' → SameGroup (list A) (list B)
  same_group s =
      let same : write (roll_of A) ≡ write (roll_of B) = sym (bytes_are A c m e) ∙ s ∙ bytes_are B d n f in
      let a = standard_holds A.roll A.held A.accepted in
      let b = standard_holds B.roll B.held B.accepted in
      let held : a.held ≡ b.held = cc (a.accepted, b.accepted) in
      (group_laws.canonical_law (list A) (list B)).same_group
      (sym (standard_values (list A)) ∙ sym a.exactly ∙ ap (map pauli_of) held ∙ b.exactly ∙ standard_values (list B))
