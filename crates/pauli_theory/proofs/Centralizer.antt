-- The centralizer has exactly the Paulis on the named qubits that commute with every generator.
use Rattle.std.proofs.Common.{◌≡◌, refl, sym, ap, ◌∙◌, subst, List, [], ◌∷◌, ◌++◌, map, map-id, length, get_or, length-append, ℕ, suc, ◌+◌, ◌-◌, ◌*◌, ◌^◌, ◌≤◌, ◌<◌, pow_pos, arith}
use mathlib.Core.List.{Memᴰ as Mem, map-map}
use native.Mathlib.Decide.{dec_lt, ℕ_discrete}
use lib.ListN.{length-map}
use lib.Pow.{pow-lt}
use Rattle.binar.specs.Row.{◌⊕◌, bit, dot, columns, row_sum}
use Rattle.binar.specs.Echelon.{R}
use Rattle.binar.specs.Kernel.{without, kernel_basis}
use Rattle.binar.specs.Space.{RowSpace, SameSpace, Independent}
use Rattle.binar.specs.Theorems.{KernelLaw}
use Rattle.binar.proofs.row.Bits.{bit_lt, bit_of_zero, bit_xor, xors, xor_self, dot_comm, dot_zero_l, dot_zero_r, blank_zero}
use Rattle.binar.proofs.row.Units.{bit_unit_other, dot_unit}
use Rattle.binar.proofs.Lists.{all_of, all_map, all_zip, all_join, all_left, all_right, all_over, all_under, all_get_d, all_by, map_same}
use Rattle.binar.proofs.Without.{Apart}
use Rattle.binar.proofs.echelon.Span.{row_sum_head, space_rows, same_flip}
use Rattle.binar.proofs.matrix_form.Theorems.{space_law, kernel_law}
use Rattle.pauli.specs.Support.{All, Rising, insert_all}
use Rattle.pauli.specs.Pauli.{Pauli, I, times, turned, anticommute, indexed_product, phase}
use Rattle.pauli.specs.Sets.{row_of, pauli_of_row}
use Rattle.pauli.specs.Known.{place_of}
use Rattle.pauli.specs.PauliTheorems.{On, PauliOn}
use Rattle.pauli.proofs.support.Lists.{in_get_or}
use Rattle.pauli.proofs.signed.Algebra.{anticommute_comm, anticommute_times_l, anticommute-I}
use Rattle.pauli.proofs.condense.Places.{place_in, qubit_at_place, place_of_qubit, expand_on}
use Rattle.pauli.proofs.condense.Rows.{column_x, column_z, row_lt, back_row}
use Rattle.pauli_theory.specs.Group.{Generated, Inside}
use Rattle.pauli_theory.specs.Standard.{support_of, form_of}
use Rattle.pauli_theory.specs.Centralizer.{exchanged, dual_rows, unnamed, sparse_basis, stacked, kernel_paulis, x_on, z_on, x_and_z, basis_over, centralizer_within}
use Rattle.pauli_theory.specs.CentralizerTheorems.{CentralizerLaw}
use Rattle.pauli_theory.proofs.Agree.{one, four, agree_sets, Subgroup, indexed_in}
use Rattle.pauli_theory.proofs.Group.{generated_in, generated_subgroup, generated_indexed, generators, joined_law}
use Rattle.pauli_theory.proofs.Products.{anticommute_agree}
use Rattle.pauli_theory.proofs.Powers.{agree_in}
use Rattle.pauli_theory.proofs.Spaces.{columns_narrow, same_mapped, same_appended}
use Rattle.pauli_theory.proofs.Rows.{on_subgroup, rows_narrow, row_indexed, support_rises, support_on}
use Rattle.pauli_theory.proofs.Exchanged.{exchanged_xor, exchanged_lt, anticommute_row}
use Rattle.pauli_theory.proofs.Named.{member_or, off, without_each, without_has, unnamed_each, unnamed_at, x_and_z_length, x_and_z_all, x_and_z_each, sets_in, joined_length}

-- ---- the Paulis that commute with every generator
abbrev Commuting : List Pauli → Pauli → Type 0
Commuting gs p = All (λ g. anticommute p g ≡ 0) gs

commutes_subgroup : (gs : List Pauli) → Subgroup 4 (Commuting gs)
commutes_subgroup gs = record {
  agrees = λ p q a. all_map (λ g e. anticommute_comm q g ∙ sym (anticommute_agree g a) ∙ anticommute_comm g p ∙ e) gs;
  unit = all_of anticommute-I gs;
  products = λ p q. all_zip (λ g e f. anticommute_times_l p q g ∙ omega arith) gs;
}

-- X and Z on a qubit that the list does not use
module _ (gs : List Pauli) (q : ℕ) (unused : Apart (support_of gs) q) where
  pub x_commutes : Commuting gs (x_on q)
  unfolding x_on anticommute
  x_commutes =
      all_map (λ g on. omega (arith, dot_comm (2 ^ q) g.z ∙ dot_unit g.z q, off (support_of gs) g.z q on.z unused, dot_zero_l g.x)) gs
      (support_on gs)

  pub z_commutes : Commuting gs (z_on q)
  unfolding z_on anticommute
  z_commutes =
      all_map (λ g on. omega (arith, dot_comm (2 ^ q) g.x ∙ dot_unit g.x q, off (support_of gs) g.x q on.x unused, dot_zero_l g.z)) gs
      (support_on gs)

unit_on : {named : List ℕ} (q r : ℕ) → Mem q named → bit (2 ^ q) r ≡ 1 → Mem r named
unit_on {named} q r m e = elim (ℕ_discrete r q) [ yes d ↦ subst (λ t. Mem t named) (sym d) m | no d ↦ absurd (omega (arith, bit_unit_other q r d)) ]

module _ (named : List ℕ) (q : ℕ) (m : Mem q named) where
  pub x_named : PauliOn named (x_on q)
  unfolding x_on
  x_named = record { x = λ r e. unit_on q r m e; z = λ r e. absurd (omega (arith, bit_of_zero r)) }

  pub z_named : PauliOn named (z_on q)
  unfolding z_on
  z_named = record { x = λ r e. absurd (omega (arith, bit_of_zero r)); z = λ r e. unit_on q r m e }

module _ (named : List ℕ) (gs : List Pauli) where
  abbrev pub qs : List ℕ
  qs = support_of gs

  abbrev pub n : ℕ
  n = length qs

  rises : Rising 0 qs
  rises = support_rises gs

  -- ---- the generators' rows do for those of R: they have the same row space
  abbrev pub dual : Pauli → ℕ
  dual g = exchanged n (row_of qs g)

  abbrev places : List ℕ
  places = unnamed named qs

  abbrev pub B : List ℕ
  B = map dual gs ++ sparse_basis n places

  abbrev pub K : List ℕ
  K = kernel_basis (2 * n) B

  places_narrow : All (λ v. v < 2 ^ (2 * n)) (sparse_basis n places)
  unfolding sparse_basis
  places_narrow =
      let Q : ℕ → Type 0 = λ v. v < 2 ^ (2 * n) in
      let inside : All (λ i. i < n) places = unnamed_each named qs (λ i. i < n) (λ q m a. place_in qs q m) in
      all_join Q (map (λ i. 2 ^ i) places) (map (λ i. 2 ^ (n + i)) places)
      (all_over Q (λ i. 2 ^ i) places (all_map (λ i l. pow-lt (omega arith)) places inside))
      (all_over Q (λ i. 2 ^ (n + i)) places (all_map (λ i l. pow-lt (omega arith)) places inside))

  stacked_narrow : (A : List ℕ) → All (λ v. v < 2 ^ (2 * n)) A → columns (2 * n) (A ++ sparse_basis n places) ≡ A ++ sparse_basis n places
  stacked_narrow A h = columns_narrow (2 * n) (A ++ sparse_basis n places) (all_join (λ v. v < 2 ^ (2 * n)) A (sparse_basis n places) h places_narrow)

  exchanged_narrow : (A : List ℕ) → All (λ v. v < 2 ^ (2 * n)) (map (exchanged n) A)
  exchanged_narrow A = all_over (λ v. v < 2 ^ (2 * n)) (exchanged n) A (all_of (exchanged_lt n) A)

  duals : map (exchanged n) (map (row_of qs) gs) ≡ map dual gs
  duals = map-map (exchanged n) (row_of qs) gs

  whole : columns (2 * n) B ≡ B
  whole = stacked_narrow (map dual gs) (rw duals at (exchanged_narrow (map (row_of qs) gs)))

  form_space : SameSpace (R (form_of gs)) (map (row_of qs) gs)
  unfolding form_of
  form_space =
      let A = map (row_of qs) gs in
      same_flip (rw (columns_narrow (2 * n) A (rows_narrow qs gs)) at (space_law (2 * n) A).kept)

  by_generators : kernel_basis (2 * n) (stacked named gs) ≡ K
  unfolding stacked dual_rows
  by_generators =
      let P = sparse_basis n places in
      let A = map (exchanged n) (R (form_of gs)) in
      (kernel_law (2 * n) (A ++ P)).same B
      (rw (stacked_narrow A (exchanged_narrow (R (form_of gs))), whole, ← duals) (same_appended P (same_mapped (exchanged n) (exchanged_xor n) form_space)))

  pub kernel_is : kernel_paulis named gs ≡ map (pauli_of_row qs 0) K
  unfolding kernel_paulis
  kernel_is = ap (map (pauli_of_row qs 0)) by_generators

  L : KernelLaw (2 * n) B
  L = kernel_law (2 * n) B

  -- ---- what the rows of the stacked matrix ask of a row u: none at the places of the qubits that are not named
  abbrev pub Blank : ℕ → ℕ → Type 0
  Blank u i = (bit u i ≡ 0) × (bit u (n + i) ≡ 0)

  to_places : (u : ℕ) → All (Blank u) places → All (λ v. dot u v ≡ 0) (sparse_basis n places)
  unfolding sparse_basis
  to_places u h =
      all_join (λ v. dot u v ≡ 0) (map (λ i. 2 ^ i) places) (map (λ i. 2 ^ (n + i)) places)
      (all_over (λ v. dot u v ≡ 0) (λ i. 2 ^ i) places (all_map (λ i b. dot_unit u i ∙ b.0) places h))
      (all_over (λ v. dot u v ≡ 0) (λ i. 2 ^ (n + i)) places (all_map (λ i b. dot_unit u (n + i) ∙ b.1) places h))

  from_places : (u : ℕ) → All (λ v. dot u v ≡ 0) (sparse_basis n places) → All (Blank u) places
  unfolding sparse_basis
  from_places u h =
      let xs = map (λ i. 2 ^ i) places in
      let zs = map (λ i. 2 ^ (n + i)) places in
      all_zip (λ i a b. (sym (dot_unit u i) ∙ a, sym (dot_unit u (n + i)) ∙ b)) places
      (all_under (λ v. dot u v ≡ 0) (λ i. 2 ^ i) places (all_left (λ v. dot u v ≡ 0) xs zs h))
      (all_under (λ v. dot u v ≡ 0) (λ i. 2 ^ (n + i)) places (all_right (λ v. dot u v ≡ 0) xs zs h))

  -- and an even overlap with each generator's row, X and Z exchanged
  pub kernel_narrow : All (λ u. u < 2 ^ (2 * n)) K
  kernel_narrow = all_by (λ u. u < 2 ^ (2 * n)) K 0 λ i l. L.narrow i

  kernel_even : All (λ u. All (λ v. dot u v ≡ 0) B) K
  kernel_even = all_map (λ u s. all_by (λ v. dot u v ≡ 0) B 0 λ j k. rw whole at (L.sound u s j)) K (space_rows K)

  kernel_dual : All (λ u. All (λ g. dot u (dual g) ≡ 0) gs) K
  kernel_dual =
      all_map (λ u h. all_under (λ v. dot u v ≡ 0) dual gs (all_left (λ v. dot u v ≡ 0) (map dual gs) (sparse_basis n places) h)) K kernel_even

  pub kernel_blank : All (λ u. All (Blank u) places) K
  kernel_blank = all_map (λ u h. from_places u (all_right (λ v. dot u v ≡ 0) (map dual gs) (sparse_basis n places) h)) K kernel_even

  -- ---- the Pauli of a kernel row
  module _ (u : ℕ) (small : u < 2 ^ (2 * n)) where
    abbrev P : Pauli
    P = pauli_of_row qs 0 u

    row_is : row_of qs P ≡ u
    row_is = back_row qs rises 0 u small

    kernel_commutes : All (λ g. dot u (dual g) ≡ 0) gs → Commuting gs P
    kernel_commutes h = all_zip (λ g on e. anticommute_row qs rises P g on ∙ ap (λ (v : ℕ). dot v (dual g)) row_is ∙ e) gs (support_on gs) h

    -- a set with the bits of a half of the row, which has none at the places of qubits that are not named
    set_on : (v : ℕ) (at : ℕ → ℕ) → On qs v → ((i : ℕ) → i < n → bit u (at i) ≡ bit v (get_or qs i 0)) → All (λ i. bit u (at i) ≡ 0) places → On named v
    set_on v at on same blank q e =
        let m = on q e in
        let i = place_of qs q in
        member_or named q (λ k. k)
        (λ a. absurd (omega (arith, same i (place_in qs q m), ap (bit v) (qubit_at_place qs q m), unnamed_at named qs (λ j. bit u (at j) ≡ 0) blank q m a)))

    kernel_on : All (Blank u) places → PauliOn named P
    unfolding pauli_of_row
    kernel_on h = record {
      x = set_on P.x (λ i. i) (expand_on qs _) (λ i l. ap (λ (v : ℕ). bit v i) (sym row_is) ∙ column_x qs P i l) (all_map (λ i b. b.0) places h);
      z = set_on P.z (λ i. n + i) (expand_on qs _) (λ i l. ap (λ (v : ℕ). bit v (n + i)) (sym row_is) ∙ column_z qs P i l) (all_map (λ i b. b.1) places h);
    }

  -- ---- the named qubits that the list does not use
  abbrev W : List ℕ
  W = without qs named

  abbrev C : List Pauli
  C = centralizer_within named gs

  phase_commutes : Commuting gs (phase 1)
  unfolding phase anticommute
  phase_commutes = all_of (λ g. omega (arith, dot_zero_l g.x, dot_zero_l g.z)) gs

  phase_on : PauliOn named (phase 1)
  unfolding phase
  phase_on = record { x = λ r e. absurd (omega (arith, bit_of_zero r)); z = λ r e. absurd (omega (arith, bit_of_zero r)) }

  -- ---- what holds of the three kinds of generators holds of all, and the other way round
  parts : C ≡ map (pauli_of_row qs 0) K ++ (x_and_z W ++ phase 1 ∷ [])
  unfolding centralizer_within basis_over
  parts = ap (λ (ps : List Pauli). ps ++ (x_and_z W ++ phase 1 ∷ [])) kernel_is

  all_kinds : (Q : Pauli → Type 0) → All (λ u. Q (pauli_of_row qs 0 u)) K → All (λ q. Q (x_on q) × Q (z_on q)) W → Q (phase 1) → All Q C
  all_kinds Q k b i =
      rw parts
      (all_join Q (map (pauli_of_row qs 0) K) (x_and_z W ++ phase 1 ∷ []) (all_over Q (pauli_of_row qs 0) K k)
      (all_join Q (x_and_z W) (phase 1 ∷ []) (x_and_z_all Q W b) (i, tt)))

  -- the named qubits outside the list's support, each with a fact of X and of Z on it
  outside : (Q : Pauli → Type 0) → ((q : ℕ) → Mem q named → Apart qs q → Q (x_on q) × Q (z_on q)) → All (λ q. Q (x_on q) × Q (z_on q)) W
  outside Q h = without_each qs (λ q. Q (x_on q) × Q (z_on q)) named h

  generators_on : All (PauliOn named) C
  generators_on =
      all_kinds (PauliOn named) (all_zip (λ u l h. kernel_on u l h) K kernel_narrow kernel_blank)
      (outside (PauliOn named) λ q m a. (x_named named q m, z_named named q m)) phase_on

  generators_commute : All (Commuting gs) C
  generators_commute =
      all_kinds (Commuting gs) (all_zip (λ u l h. kernel_commutes u l h) K kernel_narrow kernel_dual)
      (outside (Commuting gs) λ q m a. (x_commutes gs q a, z_commutes gs q a)) phase_commutes

  values : All (λ p. p.e < 4) C
  unfolding pauli_of_row x_on z_on phase
  values = all_kinds (λ p. p.e < 4) (all_of (λ u. omega arith) K) (all_of (λ q. (omega arith, omega arith)) W) (omega arith)

  sound : (p : Pauli) → Generated C p → PauliOn named p × Commuting gs p
  sound p a = (generated_in (on_subgroup named 4) four C generators_on p a, generated_in (commutes_subgroup gs) four C generators_commute p a)

  -- ---- the group has i, so it goes by the sets alone
  last_two : All (Generated C) (x_and_z W ++ phase 1 ∷ [])
  last_two = all_right (Generated C) (map (pauli_of_row qs 0) K) (x_and_z W ++ phase 1 ∷ []) (subst (All (Generated C)) parts (generators C))

  has_i : Generated C (turned 1 I)
  unfolding turned I phase
  has_i = (all_right (Generated C) (x_and_z W) (phase 1 ∷ []) last_two).0

  by_sets : (p q : Pauli) → p.x ≡ q.x → p.z ≡ q.z → Generated C q → Generated C p
  by_sets p q ex ez = agree_in C one has_i p q (agree_sets ex ez)

  has_basis : All (λ q. Generated C (x_on q) × Generated C (z_on q)) W
  has_basis = x_and_z_each (Generated C) W (all_left (Generated C) (x_and_z W) (phase 1 ∷ []) last_two)

  has_x : (v : ℕ) → On W v → Generated C (record { e = 0; x = v; z = 0 })
  unfolding x_on times I
  has_x = sets_in (record {
    origin = (generated_subgroup C).unit;
    sum = λ a b h k. by_sets _ _ refl (sym (xor_self 0)) ((generated_subgroup C).products _ _ h k);
  }) W (all_map (λ q h. h.0) W has_basis)

  has_z : (v : ℕ) → On W v → Generated C (record { e = 0; x = 0; z = v })
  unfolding z_on times I
  has_z = sets_in (record {
    origin = (generated_subgroup C).unit;
    sum = λ a b h k. by_sets _ _ (sym (xor_self 0)) refl ((generated_subgroup C).products _ _ h k);
  }) W (all_map (λ q h. h.1) W has_basis)

  -- ---- a Pauli on the named qubits that commutes with every generator
  module _ (p : Pauli) (on : PauliOn named p) (even : Commuting gs p) where
    -- at the place of a qubit that is not named its row is zero in both halves
    row_blank : (q : ℕ) → Mem q qs → Apart named q → Blank (row_of qs p) (place_of qs q)
    row_blank q m a =
        let i = place_of qs q in
        let l = place_in qs q m in
        let at : get_or qs i 0 ≡ q = qubit_at_place qs q m in
        (column_x qs p i l ∙ ap (bit p.x) at ∙ off named p.x q on.x a, column_z qs p i l ∙ ap (bit p.z) at ∙ off named p.z q on.z a)

    row_even : All (λ v. dot (row_of qs p) v ≡ 0) B
    row_even =
        let u = row_of qs p in
        all_join (λ v. dot u v ≡ 0) (map dual gs) (sparse_basis n places)
        (all_over (λ v. dot u v ≡ 0) dual gs (all_zip (λ g o e. sym (anticommute_row qs rises p g o) ∙ e) gs (support_on gs) even))
        (to_places u (unnamed_each named qs (Blank u) row_blank))

    in_kernel : RowSpace K (row_of qs p)
    in_kernel =
        L.complete (row_of qs p) (row_lt qs p)
        (all_get_d (λ v. dot (row_of qs p) v ≡ 0) (columns (2 * n) B) 0 (dot_zero_r (row_of qs p)) (rw whole row_even))

    -- the product of kernel Paulis with the same row
    abbrev ks : List Pauli
    ks = map (pauli_of_row qs 0) K

    abbrev k : Pauli
    k = indexed_product in_kernel.subset ks

    kernel_back : map (row_of qs) ks ≡ K
    kernel_back =
        map-map (row_of qs) (pauli_of_row qs 0) K
        ∙ map_same (λ u. row_of qs (pauli_of_row qs 0 u)) (λ u. u) K (all_map (back_row qs rises 0) K kernel_narrow)
        ∙ map-id K

    same_row : row_of qs p ≡ row_of qs k
    same_row = sym (row_indexed qs in_kernel.subset ks ∙ ap (row_sum in_kernel.subset) kernel_back ∙ in_kernel.sums)

    kernel_in : Generated C k
    unfolding Inside
    kernel_in = rw parts ((joined_law ks (x_and_z W ++ phase 1 ∷ [])).left k (generated_indexed ks in_kernel.subset))

    kernel_on_support : PauliOn qs k
    unfolding pauli_of_row
    kernel_on_support =
        indexed_in (on_subgroup qs 4) ks
        (all_over (PauliOn qs) (pauli_of_row qs 0) K (all_of (λ u. record { x = expand_on qs _; z = expand_on qs _ }) K)) in_kernel.subset

    -- what is left of a set when one that is the same on the list's qubits is taken away
    rest_on : (a b : ℕ) → On named a → On qs b → ((i : ℕ) → i < n → bit a (get_or qs i 0) ≡ bit b (get_or qs i 0)) → On W (a ⊕ b)
    rest_on a b ha hb same q e =
        member_or qs q
        (λ m. let at = qubit_at_place qs q m in absurd (omega (arith, bit_xor a b q, e, ap (bit a) at, ap (bit b) at, same (place_of qs q) (place_in qs q m), bit_lt b q)))
        (λ z. without_has qs named q (ha q (omega (arith, bit_xor a b q, off qs b q hb z, bit_lt a q))) z)

    complete : Generated C p
    unfolding times
    complete =
        let x = p.x ⊕ k.x in
        let z = p.z ⊕ k.z in
        let a = has_x x (rest_on p.x k.x on.x kernel_on_support.x
        (λ i l. sym (column_x qs p i l) ∙ ap (λ (v : ℕ). bit v i) same_row ∙ column_x qs k i l)) in
        let b = has_z z (rest_on p.z k.z on.z kernel_on_support.z
        (λ i l. sym (column_z qs p i l) ∙ ap (λ (v : ℕ). bit v (n + i)) same_row ∙ column_z qs k i l)) in
        let px : Pauli = record { e = 0; x = x; z = 0 } in
        let pz : Pauli = record { e = 0; x = 0; z = z } in
        by_sets p (times k (times px pz)) (back p.x k.x) (back_right p.z k.z)
        ((generated_subgroup C).products k (times px pz) kernel_in ((generated_subgroup C).products px pz a b))
      where
        back : (a b : ℕ) → a ≡ b ⊕ ((a ⊕ b) ⊕ 0)
        back a b = simp xors

        back_right : (a b : ℕ) → a ≡ b ⊕ (0 ⊕ (a ⊕ b))
        back_right a b = simp xors

  -- ---- how many generators there are
  count : Rising 0 named → length C ≤ 2 * length (insert_all named qs) + 1
  count h =
      let ks = map (pauli_of_row qs 0) K in
      omega (
        arith,
        ap length parts,
        length-append ks (x_and_z W ++ phase 1 ∷ []),
        length-append (x_and_z W) (phase 1 ∷ []),
        length-map K (pauli_of_row qs 0),
        L.count _ (space_law (2 * n) B).dimension,
        x_and_z_length W,
        joined_length 0 named qs h rises,
      )

-- ---- with no qubit named
zeros_free : (M : List ℕ) → All (λ v. v ≡ 0) M → Independent M → M ≡ []
unfolding Independent
zeros_free [] h f = refl
zeros_free (v ∷ M) h f =
    let big : 1 < 2 ^ suc (length M) = omega (arith, pow_pos (length M)) in
    let one_zero : ◌≡◌ {A = ℕ} 1 0 = f 1 big (row_sum_head v M ∙ h.0) in absurd (omega arith)

module _ (gs : List Pauli) where
  -- each place is that of a qubit that is not named
  blank_at : (u : ℕ) → All (Blank [] gs u) (places [] gs) → (i : ℕ) → i < n [] gs → Blank [] gs u i
  blank_at u h i l = rw (place_of_qubit 0 (support_of gs) (support_rises gs) i l) at (unnamed_at [] (support_of gs) (Blank [] gs u) h (get_or (support_of gs) i 0) (in_get_or (support_of gs) i 0 l) tt)

  blank_zeros : (u : ℕ) → u < 2 ^ (2 * n [] gs) → All (Blank [] gs u) (places [] gs) → u ≡ 0
  blank_zeros u l h =
      let m = n [] gs in
      blank_zero (2 * m) u l λ i a k. elim (dec_lt i m) [
        | yes y ↦ (blank_at u h i y).0
        | no y ↦ (let e : m + (i - m) ≡ i = omega arith in ap (bit u) (sym e) ∙ (blank_at u h (i - m) (omega arith)).1)
      ]

  none_named : centralizer_within [] gs ≡ phase 1 ∷ []
  unfolding without x_and_z
  none_named =
      parts [] gs
      ∙ ap (λ (us : List ℕ). map (pauli_of_row (support_of gs) 0) us ++ phase 1 ∷ [])
      (zeros_free (K [] gs) (all_zip (λ u l h. blank_zeros u l h) (K [] gs) (kernel_narrow [] gs) (kernel_blank [] gs)) (L [] gs).independent)

pub centralizer_law : (named : List ℕ) (gs : List Pauli) → CentralizerLaw named gs
centralizer_law named gs = record {
  sound = sound named gs;
  complete = complete named gs;
  on_named = generators_on named gs;
  values = values named gs;
  count = count named gs;
  none_named = λ e. ap (λ (l : List ℕ). centralizer_within l gs) e ∙ none_named gs;
}
