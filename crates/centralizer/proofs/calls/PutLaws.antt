-- The stacked matrix and the result, as the definitions have them: over the places of the list's own qubits, and of the named ones.
use Rattle.std.proofs.Common.{◌≡◌, refl, sym, ap, ap₂, ◌∙◌, List, [], ◌∷◌, ◌++◌, map, length, take, drop, get_or, get_or-take, get_or-drop, mul-le-mul_left, lt_of_lt_of_le, pow_mono, append_assoc, not, ℕ, ◌+◌, ◌*◌, ◌/◌, ◌%◌, ◌^◌, ◌≤◌, ◌<◌, true, false, pow-add, mod-lt, pow_pos, arith}
use Rattle.std.specs.List.{list_any}
use Rattle.std.specs.Prelude.{◌==◌}
use Rattle.std.proofs.lemmas.List.Filters.{length-filter_both}
use mathlib.Core.List.{map-map, map-append, Memᴰ as Mem}
use lib.ListN.{length-map}
use lib.Pow.{pow-lt, shr-shr}
use Rattle.binar.specs.Echelon.{EchelonForm, echelon, rank as echelon_rank}
use Rattle.binar.specs.Kernel.{without, kernel_of, kernel_basis}
use Rattle.binar.specs.Layout.{form_stride, form_in, KernelRoom}
use Rattle.binar.specs.Row.{bit}
use Rattle.binar.specs.Words.{put_rows, matrix}
use Rattle.binar.proofs.Lists.{all_of, all_map, all_over, all_join, all_zip, map_same}
use Rattle.binar.proofs.row.Bits.{bit_mod}
use Rattle.binar.proofs.kernel.Rows.{rows_puts}
use Rattle.binar.proofs.matrix_form.Theorems.{reduced_law, kernel_rows_law, kernel_law}
use Rattle.binar.proofs.echelon.Bounds.{rank_rows}
use Rattle.pauli.specs.Support.{All, Rising}
use Rattle.pauli.specs.Pauli.{Pauli, phase}
use Rattle.pauli.specs.Roll.{Sparse, support, count_of}
use Rattle.pauli.specs.Told.{answer}
use Rattle.pauli.specs.Condense.{list_of, condensed}
use Rattle.pauli.specs.Known.{place_of}
use Rattle.pauli.specs.PauliTheorems.{PauliOn}
use Rattle.pauli.specs.Sets.{pauli_of, row_of, pauli_of_row}
use Rattle.pauli.specs.Signed.{list_in}
use Rattle.pauli.specs.Writing.{OnPlaces, roll_over}
use Rattle.pauli.proofs.condense.Places.{condense_lt, condense_expand, expand_on, place_in, place_of_qubit}
use Rattle.pauli.proofs.join.ProductLaws.{count_accepted, readable}
use Rattle.pauli.proofs.roll.ListSupport.{support_rises as list_rises}
use Rattle.pauli.proofs.signed.Algebra.{pauli_path}
use Rattle.pauli.proofs.support.Lists.{in_get_or}
use Rattle.pauli.proofs.write.Writers.{length_list}
use Rattle.pauli_theory.specs.Centralizer.{unnamed, sparse_basis, kernel_paulis, x_and_z, basis_over, centralizer_within}
use Rattle.pauli_theory.specs.Inner.ModuloPlaces.{moved_pauli}
use Rattle.pauli_theory.specs.Standard.{support_of}
use Rattle.pauli_theory.proofs.Centralizer.{dual, B, K, Blank, kernel_is, kernel_narrow, kernel_blank, centralizer_law}
use Rattle.pauli_theory.proofs.Exchanged.{exchanged_beside, high_lt}
use Rattle.pauli_theory.proofs.ModuloPlaces.{moved_pauli_lem}
use Rattle.pauli_theory.proofs.Named.{member_or, unnamed_each, unnamed_at}
use Rattle.pauli_theory.proofs.Placed.{condensed_phase, condensed_on}
use Rattle.pauli_theory.proofs.Rows.{support_rises}
use Rattle.pauli_theory.proofs.Written.{support_of_lem, written_over}
use Rattle.pauli_group.specs.Calls.{paulis, list_bytes}
use Rattle.pauli_group.specs.Inner.Area.{row_words, stride_of, Outside}
use Rattle.pauli_group.specs.Inner.Lists.{ReadableAll, row_over, form_over}
use Rattle.pauli_group.specs.Inner.Moved.{MovablePauli}
use Rattle.pauli_group.proofs.list.ListLaws.{list_append, list_kept}
use Rattle.centralizer.specs.Stacked.{stacked_at, kernel_at, result_at, exchanged_over, unit_at, places_of_row}

-- ---- the stacked Paulis
module _ (named : List ℕ) (ps : List Sparse) where
  abbrev pub gs : List Pauli
  gs = paulis ps

  abbrev pub qs : List ℕ
  qs = support_of gs

  abbrev pub n : ℕ
  n = length qs

  abbrev pub places : List ℕ
  places = unnamed named qs

  abbrev pub stacked_paulis : List Pauli
  stacked_paulis = map (exchanged_over qs) ps ++ (map (unit_at true) places ++ map (unit_at false) places)

  row_exchanged : (p : Sparse) → row_over n (exchanged_over qs p) ≡ dual named gs (pauli_of p)
  unfolding row_over exchanged_over row_of
  row_exchanged p = sym (exchanged_beside n _ _ (condense_lt qs (pauli_of p).x) (condense_lt qs (pauli_of p).z))

  row_x : (i : ℕ) → row_over n (unit_at true i) ≡ 2 ^ i
  unfolding row_over unit_at
  row_x i = omega arith

  row_z : (i : ℕ) → row_over n (unit_at false i) ≡ 2 ^ (n + i)
  unfolding row_over unit_at
  row_z i = rw pow-add (omega arith)

  pub stacked_rows : map (row_over n) stacked_paulis ≡ B named gs
  unfolding paulis sparse_basis
  stacked_rows =
      map-append (row_over n) (map (exchanged_over qs) ps) _
      ∙ ap₂ ◌++◌
      (map-map (row_over n) (exchanged_over qs) ps ∙ map_same _ _ ps (all_of row_exchanged ps) ∙ sym (map-map (dual named gs) pauli_of ps))
      (map-append (row_over n) (map (unit_at true) places) _
      ∙ ap₂ ◌++◌
      (map-map (row_over n) (unit_at true) places ∙ map_same _ _ places (all_of row_x places))
      (map-map (row_over n) (unit_at false) places ∙ map_same _ _ places (all_of row_z places)))

  pub stacked_on : OnPlaces n stacked_paulis
  unfolding OnPlaces exchanged_over unit_at
  stacked_on =
      let Q : Pauli → Type 0 = λ p. (p.x < 2 ^ n) × (p.z < 2 ^ n) in
      let inside : All (λ i. i < n) places = unnamed_each named qs (λ i. i < n) (λ q m a. place_in qs q m) in
      all_join Q (map (exchanged_over qs) ps) _
      (all_over Q (exchanged_over qs) ps (all_of (λ p. (condense_lt qs (pauli_of p).z, condense_lt qs (pauli_of p).x)) ps))
      (all_join Q (map (unit_at true) places) (map (unit_at false) places)
      (all_over Q (unit_at true) places (all_map (λ i l. (pow-lt l, pow_pos n)) places inside))
      (all_over Q (unit_at false) places (all_map (λ i l. (pow_pos n, pow-lt l)) places inside)))

-- ---- the form of the stacked rows, in the area

-- how much room a form of so many rows takes
pub most_room : (total : ℕ) → total ≤ 254 → (total * stride_of total + total ≤ 2286) × (4 ≤ stride_of total)
unfolding stride_of form_stride
most_room total most =
    let t : 4 + (total + 63) / 64 ≤ 8 = omega arith in
    (omega (arith, mul-le-mul_left total t), omega arith)

module _ (named : List ℕ) (ps : List Sparse) (few : length (support_of (paulis ps)) ≤ 63) (x : List ℕ) (size : length x ≡ 4096) (total r : ℕ)
    (most : total ≤ 254) (count : total ≡ length (stacked_paulis named ps)) (l : List Pauli) (list_is : l ≡ stacked_paulis named ps)
    (rank_is : r ≡ echelon_rank (form_over (n named ps) l))
    (form_is : form_in (stride_of total) total row_words (2 * n named ps) r x ≡ form_over (n named ps) l) where
  abbrev N : ℕ
  N = n named ps

  abbrev A : List ℕ
  A = B named (paulis ps)

  stacked_form : form_over N l ≡ echelon (2 * N) A
  unfolding form_over
  stacked_form = ap (echelon (2 * N)) (ap (map (row_over N)) list_is ∙ stacked_rows named ps)

  stacked_count : length A ≡ total
  stacked_count = ap length (sym (stacked_rows named ps)) ∙ length-map (stacked_paulis named ps) (row_over N) ∙ sym count

  stacked_rank : r ≤ total
  unfolding echelon_rank
  stacked_rank = omega (arith, rank_is, ap echelon_rank stacked_form, rank_rows (2 * N) A, stacked_count)

  pub kernel_room : KernelRoom x (stride_of total) total (2 * N) r 2304 row_words (2 * N)
  unfolding form_in echelon_rank
  kernel_room =
      let s = stride_of total in
      let pivots_are : take r (drop (total * s) x) ≡ (echelon (2 * N) A).pivots = ap (λ (f : EchelonForm). f.pivots) (form_is ∙ stacked_form) in
      record {
        rows = stacked_rank;
        pivots = omega (arith, stacked_rank, (most_room total most).0);
        room = omega (arith, few, size);
        wide = omega (arith, few, (most_room total most).1);
        narrow = omega (arith, few);
        inside = λ k h. omega (
          arith,
          ap (λ (l : List ℕ). get_or l k 0) (sym pivots_are) ∙ get_or-take r (drop (total * s) x) k 0 h ∙ get_or-drop (total * s) x k 0,
          (reduced_law (2 * N) A).inside k (omega (arith, rank_is, ap echelon_rank stacked_form)),
        );
      }

  pub kernel_rows_are : kernel_of (2 * N) (form_in (stride_of total) total row_words (2 * N) r x) ≡ K named (paulis ps)
  unfolding kernel_basis
  kernel_rows_are = ap (kernel_of (2 * N)) (form_is ∙ stacked_form)

-- ---- the kernel's rows as Paulis on the named qubits

-- bit i of a number's high part
bit_over : (n v i : ℕ) → bit (v / 2 ^ n) i ≡ bit v (n + i)
unfolding bit
bit_over n v i = ap (λ (x : ℕ). x % 2) (shr-shr v n i)

module _ (named : List ℕ) (ps : List Sparse) (few : length (support_of (paulis ps)) ≤ 63) where
  abbrev rows : List ℕ
  rows = K named (paulis ps)

  abbrev M : ℕ
  M = n named ps

  pub rows_few : length rows ≤ 126
  rows_few = let L = kernel_rows_law (2 * M) (B named (paulis ps)) in omega (arith, L.count, L.all_columns, few)

  -- they are written and read back
  pub rows_read : (x w : List ℕ) → length x ≡ 4096 → w ≡ put_rows x 2304 row_words rows → matrix 4 (length rows) (drop kernel_at w) ≡ rows
  rows_read x w size e =
      let wide : 2 * M ≤ 64 * 4 = omega (arith, few) in
      rw e (rows_puts x rows 2304 4 (omega (arith, size, rows_few)) λ i. lt_of_lt_of_le ((kernel_law (2 * M) (B named (paulis ps))).narrow i) (pow_mono wide))

  abbrev rises : Rising 0 (qs named ps)
  rises = support_rises (paulis ps)

  -- bit i of a set of places whose ones are at qubits that are named
  named_at : (v u : ℕ) (at : ℕ → ℕ) → ((i : ℕ) → i < M → bit v i ≡ bit u (at i)) → All (λ i. bit u (at i) ≡ 0) (places named ps)
      → (i : ℕ) → i < M → bit v i ≡ 1 → Mem (get_or (qs named ps) i 0) named
  named_at v u at same blank i h e =
      let own = qs named ps in
      let q = get_or own i 0 in
      member_or named q (λ k. k)
      (λ a. absurd (omega (
        arith,
        e,
        same i h,
        ap (λ j. bit u (at j)) (sym (place_of_qubit 0 own rises i h)),
        unnamed_at named own (λ j. bit u (at j) ≡ 0) blank q (in_get_or own i 0 h) a,
      )))

  module _ (named_rises : Rising 0 named) (u : ℕ) (small : u < 2 ^ (2 * M)) where
    movable : All (Blank named (paulis ps) u) (places named ps) → MovablePauli (qs named ps) named (places_of_row M u)
    unfolding places_of_row
    movable blank = (
      record {
        own_rises = rises;
        rises = named_rises;
        inside = named_at (u % 2 ^ M) u (λ i. i) (λ i h. bit_mod M u i h) (all_map (λ i b. b.0) (places named ps) blank);
      },
      record {
        own_rises = rises;
        rises = named_rises;
        inside = named_at (u / 2 ^ M) u (λ i. M + i) (λ i h. bit_over M u i) (all_map (λ i b. b.1) (places named ps) blank);
      },
    )

    row_places : condensed (qs named ps) (pauli_of_row (qs named ps) 0 u) ≡ places_of_row M u
    unfolding condensed pauli_of_row places_of_row
    row_places =
        pauli_path refl (condense_expand (qs named ps) rises (u % 2 ^ M) (mod-lt u (pow_pos M)))
        (condense_expand (qs named ps) rises (u / 2 ^ M) (high_lt M u small))

    row_on : PauliOn (qs named ps) (pauli_of_row (qs named ps) 0 u)
    unfolding pauli_of_row
    row_on = record { x = expand_on (qs named ps) (u % 2 ^ M); z = expand_on (qs named ps) (u / 2 ^ M) }

    row_moved : moved_pauli (qs named ps) named (places_of_row M u) ≡ condensed named (pauli_of_row (qs named ps) 0 u)
    row_moved = ap (moved_pauli (qs named ps) named) (sym row_places) ∙ moved_pauli_lem (qs named ps) rises named _ row_on

  module _ (named_rises : Rising 0 named) where
    pub rows_movable : All (λ u. (u < 2 ^ (2 * M)) × MovablePauli (qs named ps) named (places_of_row M u)) rows
    rows_movable =
        all_zip (λ u small blank. (small, movable named_rises u small blank)) rows (kernel_narrow named (paulis ps)) (kernel_blank named (paulis ps))

    pub rows_moved : map (λ u. moved_pauli (qs named ps) named (places_of_row M u)) rows ≡ map (condensed named) (kernel_paulis named (paulis ps))
    rows_moved =
        map_same _ _ rows (all_map (λ u small. row_moved named_rises u small) rows (kernel_narrow named (paulis ps)))
        ∙ sym (map-map (condensed named) (pauli_of_row (qs named ps) 0) rows)
        ∙ ap (map (condensed named)) (sym (kernel_is named (paulis ps)))

-- ---- the kernel's rows in the area, and their Paulis
module _ (named : List ℕ) (ps : List Sparse) (few : length (support_of (paulis ps)) ≤ 63) (x : List ℕ) (size : length x ≡ 4096) (total r : ℕ)
    (most : total ≤ 254) (count : total ≡ length (stacked_paulis named ps)) (l : List Pauli) (list_is : l ≡ stacked_paulis named ps)
    (rank_is : r ≡ echelon_rank (form_over (n named ps) l))
    (form_is : form_in (stride_of total) total row_words (2 * n named ps) r x ≡ form_over (n named ps) l) (k : ℕ) (y : List ℕ)
    (written : k ≡ length (kernel_of (2 * n named ps) (form_in (stride_of total) total row_words (2 * n named ps) r x)))
    (left : y ≡ put_rows x 2304 row_words (kernel_of (2 * n named ps) (form_in (stride_of total) total row_words (2 * n named ps) r x))) where
  rows_here : kernel_of (2 * n named ps) (form_in (stride_of total) total row_words (2 * n named ps) r x) ≡ K named (paulis ps)
  rows_here = kernel_rows_are named ps few x size total r most count l list_is rank_is form_is

  rows_count : k ≡ length (K named (paulis ps))
  rows_count = written ∙ ap length rows_here

  pub kernel_few : k ≤ 126
  kernel_few = omega (arith, rows_count, rows_few named ps few)

  rows_in : matrix 4 k (drop kernel_at y) ≡ K named (paulis ps)
  rows_in = ap (λ j. matrix 4 j (drop kernel_at y)) rows_count ∙ rows_read named ps few x y size (left ∙ ap (put_rows x 2304 row_words) rows_here)

  module _ (rises : Rising 0 named) where
    pub kernel_movable : All (λ u. (u < 2 ^ (2 * n named ps)) × MovablePauli (qs named ps) named (places_of_row (n named ps) u)) (matrix 4 k (drop kernel_at y))
    kernel_movable = rw rows_in (rows_movable named ps few rises)

    pub kernel_put : (z : List ℕ) → list_in z result_at k ≡ map (λ u. moved_pauli (qs named ps) named (places_of_row (n named ps) u)) (matrix 4 k (drop kernel_at y))
        → list_in z result_at k ≡ map (condensed named) (kernel_paulis named (paulis ps))
    kernel_put z e =
        e ∙ ap (map (λ u. moved_pauli (qs named ps) named (places_of_row (n named ps) u))) rows_in ∙ rows_moved named ps few rises

-- ---- the three parts one behind the other
module _ (named : List ℕ) (ps : List Sparse) (k f : ℕ) (w : List ℕ)
    (kernel : list_in w result_at k ≡ map (condensed named) (kernel_paulis named (paulis ps)))
    (further : list_in w (result_at + 5 * k) f ≡ map (condensed named) (x_and_z (without (support_of (paulis ps)) named)))
    (last : list_in w (result_at + 5 * (k + f)) 1 ≡ phase 1 ∷ []) where
  pub put_is : list_in w result_at (k + f + 1) ≡ map (condensed named) (centralizer_within named (paulis ps))
  unfolding centralizer_within basis_over
  put_is =
      let behind : list_in w (result_at + 5 * (k + f)) 1 ≡ map (condensed named) (phase 1 ∷ []) = last ∙ ap (λ (p : Pauli). p ∷ []) (sym (condensed_phase named 1)) in
      let front : list_in w result_at (k + f) ≡ _ = list_append w result_at k f ∙ ap₂ ◌++◌ kernel further in
      list_append w result_at (k + f) 1 ∙ ap₂ ◌++◌ front behind
      ∙ append_assoc (map (condensed named) (kernel_paulis named (paulis ps))) (map (condensed named) (x_and_z (without (support_of (paulis ps)) named))) (map (condensed named) (phase 1 ∷ []))
      ∙ sym (map-append (condensed named) (kernel_paulis named (paulis ps)) _ ∙ ap (map (condensed named) (kernel_paulis named (paulis ps)) ++◌)
      (map-append (condensed named) (x_and_z (without (support_of (paulis ps)) named)) _))

-- ---- an accepted roll, and its own qubits
module _ (named own b : List ℕ) (count : ℕ) (accepted : count_of b ≡ answer count) (own_support : own ≡ support (list_of b)) (few : length own ≤ 63) where
  pub own_is : own ≡ support_of (paulis (list_of b))
  unfolding paulis
  own_is = own_support ∙ support_of_lem (list_of b)

  pub own_rises : Rising 0 own
  own_rises = rw own_support (list_rises (list_of b))

  pub own_readable : ReadableAll b count own
  own_readable i h = rw own_support (readable b count (count_accepted b count accepted) i h (list_of b) (λ p m. m))

  pub unnamed_few : length (unnamed named own) ≤ 63
  unfolding unnamed without
  unnamed_few = omega (arith, length-map (without named own) (place_of own), length-filter_both _ (λ x. not (not (list_any (λ y. y == x) named))) (λ x. refl) own, few)

  -- the three parts of the stacked Paulis, one behind the other
  module _ (w1 w2 w3 : List ℕ) (middle total : ℕ) (middle_is : middle ≡ count + length (unnamed named own)) (total_is : total ≡ middle + length (unnamed named own))
      (exchanged_list : list_in w1 stacked_at count ≡ map (exchanged_over own) (list_of b))
      (x_list : list_in w2 (stacked_at + 5 * count) (length (unnamed named own)) ≡ map (unit_at true) (unnamed named own))
      (x_rest : Outside (stacked_at + 5 * count) (5 * length (unnamed named own)) w1 w2)
      (z_list : list_in w3 (stacked_at + 5 * middle) (length (unnamed named own)) ≡ map (unit_at false) (unnamed named own))
      (z_rest : Outside (stacked_at + 5 * middle) (5 * length (unnamed named own)) w2 w3) where
    abbrev u : ℕ
    u = length (unnamed named own)

    pub stack_is : list_in w3 stacked_at total ≡ stacked_paulis named (list_of b)
    stack_is =
        let here : total ≡ count + (u + u) = omega (arith, middle_is, total_is) in
        let back : stacked_at + 5 * count + 5 * u ≡ stacked_at + 5 * middle = omega (arith, middle_is) in
        rw (here, ← own_is)
        (list_append w3 stacked_at count (u + u)
        ∙ ap₂ ◌++◌
        (list_kept z_rest stacked_at count (omega (arith, middle_is)) ∙ list_kept x_rest stacked_at count (omega arith) ∙ exchanged_list)
        (list_append w3 (stacked_at + 5 * count) u u
        ∙ ap₂ ◌++◌ (list_kept z_rest (stacked_at + 5 * count) u (omega (arith, back)) ∙ x_list) (rw back z_list)))

    pub stack_count : total ≡ length (stacked_paulis named (list_of b))
    stack_count = sym (length_list w3 stacked_at total) ∙ ap length stack_is

    pub stack_few : count ≤ 128 → total ≤ 254
    stack_few h = omega (arith, middle_is, total_is, unnamed_few)

-- ---- the result, as it stands once all is put
pub further_few : (named own : List ℕ) → length (without own named) ≤ length named
unfolding without
further_few named own = omega (arith, length-filter_both _ (λ x. not (not (list_any (λ y. y == x) own))) (λ x. refl) named)

module _ (named own : List ℕ) (ps : List Sparse) (is : own ≡ support_of (paulis ps)) (w5 w6 w7 : List ℕ) (k count : ℕ)
    (count_is : count ≡ k + 2 * length (without own named))
    (kernel : list_in w5 result_at k ≡ map (condensed named) (kernel_paulis named (paulis ps)))
    (further : list_in w6 (result_at + 5 * k) (2 * length (without own named)) ≡ map (condensed named) (x_and_z (without own named)))
    (further_rest : Outside (result_at + 5 * k) (10 * length (without own named)) w5 w6)
    (last : list_in w7 (result_at + 5 * count) 1 ≡ phase 1 ∷ [])
    (last_rest : Outside (result_at + 5 * count) 5 w6 w7) where
  pub result_is : list_in w7 result_at (count + 1) ≡ map (condensed named) (centralizer_within named (paulis ps))
  result_is =
      let f = 2 * length (without own named) in
      rw count_is
      (put_is named ps k f w7 (list_kept last_rest result_at k (omega (arith, count_is)) ∙ list_kept further_rest result_at k (omega arith) ∙ kernel)
      (list_kept last_rest (result_at + 5 * k) f (omega (arith, count_is)) ∙ further ∙ ap (λ (qs : List ℕ). map (condensed named) (x_and_z (without qs named))) is)
      (rw count_is at last))

-- ---- and as it is written
module _ (named : List ℕ) (ps : List Sparse) where
  pub result_on : OnPlaces (length named) (map (condensed named) (centralizer_within named (paulis ps)))
  result_on = condensed_on named (centralizer_within named (paulis ps))

pub result_written : (named : List ℕ) → Rising 0 named → (ps : List Sparse)
    → roll_over named (map (condensed named) (centralizer_within named (paulis ps))) ≡ list_bytes (centralizer_within named (paulis ps))
result_written named up ps = written_over named up (centralizer_within named (paulis ps)) (centralizer_law named (paulis ps)).on_named
