-- A group modulo another, by what its call promises: the roll holds the list of the definition, and the pivots are those of the form.
use Rattle.std.proofs.Common.{◌≡◌, sym, ap, ◌∙◌, subst, List, ◌++◌, map, ℕ, ◌*◌, ltb, length, take}
use Rattle.binar.specs.Echelon.{R}
use Rattle.binar.specs.Row.{bit}
use Rattle.binar.specs.Space.{SameSpace}
use Rattle.binar.proofs.Lists.{all_map, all_zip}
use Rattle.binar.proofs.echelon.Span.{same_flip, same_join}
use Rattle.binar.proofs.matrix_form.Theorems.{reduced_law, space_law, unique_law}
use Rattle.pauli.specs.Pauli.{Pauli}
use Rattle.pauli.specs.ReadBack.{Holds}
use Rattle.pauli.specs.Refusals.{told_of}
use Rattle.pauli.specs.Roll.{Sparse, support, read}
use Rattle.pauli.specs.Sets.{row_of, pauli_of}
use Rattle.pauli.specs.Support.{All}
use Rattle.pauli.specs.Told.{answer, map_told}
use Rattle.pauli.specs.Writing.{told_bytes}
use Rattle.pauli.proofs.roll.Told.{map_test}
use Rattle.pauli_theory.specs.Group.{Inside, SameGroup}
use Rattle.pauli_theory.specs.Modulo.{modulo}
use Rattle.pauli_theory.specs.Standard.{support_of, form_of}
use Rattle.pauli_theory.specs.Theorems.{ModuloLaw}
use Rattle.pauli_theory.proofs.ByValue.{modulo_values}
use Rattle.pauli_theory.proofs.Modulo.{supports_column, pivots_low}
use Rattle.pauli_theory.proofs.Rows.{rows_narrow}
use Rattle.pauli_theory.proofs.Spaces.{columns_narrow}
use Rattle.pauli_theory.proofs.Theorems.{group_laws}
use Rattle.pauli_theory.proofs.Written.{support_of_lem}
use Rattle.pauli_group.specs.Calls.{paulis, list_bytes, modulo_bytes, modulo_call}
use Rattle.demand_three.specs.DemandThree.{Generators, list, Element, Member, JoinedList, Limits, if_area, if_room}
use Rattle.demand_three.specs.ListedGroup.{Dividing, RemainderList, row_over, Pivots}
use Rattle.demand_three.proofs.CommonDemand.{two_within}
use Rattle.demand_three.proofs.DemandJoined.{group_is}
use Rattle.demand_three.proofs.DemandMember.{member_when, member_only}
use Rattle.demand_three.proofs.DemandStandard.{told_test}
use Rattle.demand_three.proofs.ReadBack.{read_back}

-- ---- the pivots

module _ (B : Generators) where
  abbrev qs : List ℕ
  qs = support_of (list B)

  same_support : support B.held ≡ qs
  unfolding paulis
  same_support = support_of_lem B.held

  -- what is so over the one support is so over the other
  over : (P : List ℕ → Type 0) → P qs → P (support B.held)
  over P h = subst P (sym same_support) h

  pub pivots : Pivots B
  unfolding form_of
  pivots =
      let c = 2 * length qs in
      let A = map (row_of qs) (list B) in
      record {
        rows = R (form_of (list B));
        columns = (form_of (list B)).pivots;
        form = rw same_support (reduced_law c A);
        space = over (λ ks. SameSpace (map (row_of ks) (list B)) (R (form_of (list B))))
            (rw (columns_narrow c A (rows_narrow qs (list B))) at (space_law c A).kept);
      }

  pub same_pivots : (P Q : Pivots B) → P.columns ≡ Q.columns
  same_pivots P Q =
      ((unique_law (2 * length (support B.held))).reduced P.rows Q.rows P.columns Q.columns P.form Q.form (same_join (same_flip P.space) Q.space)).0

-- ---- A modulo B

module _ (A B : Generators) where
  abbrev rest : List Pauli
  rest = modulo B.promise (list A) (list B)

  law : ModuloLaw B.promise (list A) (list B)
  law = group_laws.modulo_law B.promise (list A) (list B) B.honest

  holds : (c : Dividing A B) (n : ℕ) → told_of c.wrote ≡ answer n → Holds (take n c.out') rest
  holds c n e = read_back.modulo B.promise A.roll B.roll c.work c.out c.wrote c.work' c.out' A.held B.held c.promised A.accepted B.accepted n e

  pub modulo_accepted : (c : Dividing A B) (n : ℕ) → told_of c.wrote ≡ answer n → (ps : List Sparse) × (read (take n c.out') ≡ answer ps)
  modulo_accepted c n e = let h = holds c n e in (h.held, h.accepted)

  pub modulo_told : Limits A B → (n : ℕ) × ((c : Dividing A B) → told_of c.wrote ≡ if_area c.work (if_room c.out n n))
  unfolding if_area modulo_call modulo_bytes map_told
  modulo_told l = (
    length (list_bytes rest),
    λ c. c.promised.told
        ∙ ap (λ t. told_bytes t c.out)
        (ap (map_told (modulo_bytes B.promise)) (two_within A B l (length c.work))
        ∙ map_test (modulo_bytes B.promise) (ltb (length c.work) 4096) 9 0 _)
        ∙ told_test (ltb (length c.work) 4096) (list_bytes rest) c.out,
  )

  module _ (C : Generators) (m : RemainderList A B C) where
    list_is : list C ≡ rest
    unfolding paulis
    list_is =
        let h = subst (λ (b : List ℕ). Holds b rest) (sym m.bytes) (holds m.call m.size m.told) in
        let same : C.held ≡ h.held = cc (C.accepted, h.accepted) in
        ap (map pauli_of) same ∙ h.exactly ∙ modulo_values (list A) (list B) B.promise

    pub generates : SameGroup (list C ++ list B) (list A ++ list B)
    generates = rw list_is law.generates

    module _ (J K : Generators) (j : JoinedList C B J) (k : JoinedList A B K) (x : Element) where
      pub joined_there : Member J x → Member K x
      unfolding Inside
      joined_there a =
          member_when K x ((group_is A B K k).there _ (generates.there _ ((group_is C B J j).back _ (member_only J x a))))

      pub joined_back : Member K x → Member J x
      unfolding Inside
      joined_back a =
          member_when J x ((group_is C B J j).there _ (generates.back _ ((group_is A B K k).back _ (member_only K x a))))

    pub clear : (P : Pivots B) → All (λ p. All (λ c. bit (row_over B p) c ≡ 0) P.columns) (list C)
    unfolding pivots
    clear P =
        let cs = (form_of (list B)).pivots in
        rw (list_is, same_pivots B P (pivots B))
        (over B (λ ks. All (λ p. All (λ c. bit (row_of ks p) c ≡ 0) cs) rest)
        (all_map (λ p z. all_zip (λ c low s. sym (supports_column (qs B) c low p) ∙ s) cs (pivots_low (list B)) z) rest law.clear))
