-- Laws of a page of a group's elements: as the work area holds it, and as it is written.
use Rattle.std.proofs.Common.{◌≡◌, ℕ, zero, suc, ◌+◌, ◌-◌, ◌*◌, ◌/◌, ◌%◌, ◌^◌, ◌<◌, ◌≤◌, min, ltb, List, [], ◌∷◌, ◌++◌, map, length, get_or, drop, sym, refl, ap, ◌∙◌, ap₂, arith, length-take, get_or-drop, get_or-take, ext_get_or, le-ltb, lt-ltb}
use lib.ListN.{length-map}
use lib.Seq.{sets}
use Rattle.binar.specs.Row.{if_bit}
use Rattle.binar.proofs.Lists.{all_by}
use Rattle.binar.proofs.echelon.Span.{if_bit_case}
use Rattle.pauli.specs.declared.signed.Pauli.{Pauli as Held}
use Rattle.pauli.specs.Condense.{condensed}
use Rattle.pauli.specs.Pauli.{Pauli, I, normal, times, turned, select, product, indexed_product}
use Rattle.pauli.specs.PauliTheorems.{PauliOn}
use Rattle.pauli.specs.Support.{All, Rising}
use Rattle.pauli.specs.Signed.{held, list_in, pauli_words}
use Rattle.pauli.specs.Told.{Told, answer, refused, refuse_if, and_then}
use Rattle.pauli.specs.Writing.{OnPlaces, roll_over}
use Rattle.pauli.proofs.signed.Algebra.{pauli_path}
use Rattle.pauli.proofs.write.Condensed.{condensed_times}
use Rattle.pauli.proofs.signed.Products.{product_none, indexed_cons}
use Rattle.pauli.proofs.condense.Rows.{on-I}
use Rattle.pauli.proofs.signed.SignedLaws.{byte_value}
use Rattle.pauli.proofs.roll.Told.{test_pass, test_refuses}
use Rattle.pauli.proofs.write.Writers.{length_list}
use Rattle.pauli_theory.specs.Group.{Promise}
use Rattle.pauli_theory.specs.Listing.{count_from, subset_at, phase_count, elements_of, page_size, page}
use Rattle.pauli_theory.specs.Standard.{support_of, standard, rank, phase_step, step_of}
use Rattle.pauli_theory.proofs.Agree.{indexed_in}
use Rattle.pauli_theory.proofs.Elements.{basis_count}
use Rattle.pauli_theory.proofs.ListingElements.{select_first, first_standard, elements_law}
use Rattle.pauli_theory.proofs.ListingNumbers.{of_sizes_at_lt}
use Rattle.pauli_theory.proofs.ListingPages.{page_law}
use Rattle.pauli_theory.proofs.ListingSubsets.{get_map}
use Rattle.pauli_theory.proofs.OverPlaces.{places_standard, count_length, count_at}
use Rattle.pauli_theory.proofs.Placed.{condensed-I, condensed_on}
use Rattle.pauli_theory.proofs.Rows.{support_rises, on_subgroup}
use Rattle.pauli_theory.proofs.StandardLaw.{standard_law}
use Rattle.pauli_theory.proofs.Written.{written_over}
use Rattle.pauli_group.specs.Inner.Area.{standard_at, further_at}
use Rattle.pauli_group.specs.Calls.{one_list, most_listed, page_bytes, elements_call}
use Rattle.pauli_group.specs.Inner.Groups.{over_support, Grouped}
use Rattle.pauli_group.specs.Inner.Lists.{step_told, clash_of, stabilizer_of}
use Rattle.pauli_group.specs.Answers.{yes_number}
use Rattle.pauli_group.specs.declared.standard.Signs.{Signs}
use Rattle.pauli_group.specs.Inner.Listed.{element_at, elements_from}
use Rattle.pauli_group.proofs.group.GroupLaws.{described}
use Rattle.pauli_group.proofs.list.ListLaws.{StoredUpTo, list_append, list_kept, stored_none, stored_step, stored_all}

-- a held Pauli, turned
pub turned_held : (q : Held) (e turn : ℕ) (p : Pauli) → normal (held q) ≡ p → e ≡ (q.exponent + turn) % 2 ^ 8
    → normal (held (record { exponent = e; x = q.x; z = q.z })) ≡ turned turn p
unfolding normal held turned
turned_held q e turn p h k =
    let same : (q.exponent + turn) % 256 % 4 ≡ (turn + q.exponent % 4) % 4 = byte_value (q.exponent + turn) ∙ omega arith in
    pauli_path (ap (◌% 4) k ∙ same) refl refl ∙ ap (turned turn) h

-- ---- elements in a row

module _ (r c m : ℕ) (ps : List Pauli) where
  pub elements_are : (i n : ℕ) → map (element_at r c m ps) (count_from i n) ≡ elements_from r c m ps i n
  unfolding elements_from count_from
  elements_are i zero = refl
  elements_are i (suc n) = ap (element_at r c m ps i ∷◌) (elements_are (suc i) n)

  from_length : (i n : ℕ) → length (elements_from r c m ps i n) ≡ n
  unfolding elements_from
  from_length i zero = refl
  from_length i (suc n) = ap suc (from_length (suc i) n)

  from_at : (i n k : ℕ) → k < n → get_or (elements_from r c m ps i n) k I ≡ element_at r c m ps (i + k)
  unfolding elements_from
  from_at i zero k h = absurd (omega arith)
  from_at i (suc n) zero h = let e : i ≡ i + 0 = omega arith in ap (element_at r c m ps) e
  from_at i (suc n) (suc k) h = let e : suc i + k ≡ i + suc k = omega arith in from_at (suc i) n k (omega arith) ∙ ap (element_at r c m ps) e

-- ---- elements stored, one by one

module _ (l : List ℕ) (r step start n : ℕ) where
  abbrev ps : List Pauli
  ps = list_in l standard_at r

  -- the first i are stored
  abbrev pub Listed : ℕ → List ℕ → Type 0
  Listed i w = StoredUpTo (element_at r (4 / step) step ps) (count_from start n) further_at n l i w

  pub listed_none : Listed 0 l
  listed_none = stored_none _ _ _ _ _

  module _ (i : ℕ) (w : List ℕ) (s : Listed i w) where
    pub listed_next : length l ≡ 4096 → r ≤ 16 → n ≤ 128 → i < n
        → (set : ℕ) → set ≡ subset_at r ((start + i) / (4 / step)) → (q : Held)
        → normal (held q) ≡ indexed_product set (list_in w standard_at r)
        → (e : ℕ) → e ≡ (q.exponent + step * ((start + i) % (4 / step))) % 2 ^ 8
        → (u : List ℕ) → u ≡ sets w (further_at + 5 * i) (pauli_words (record { exponent = e; x = q.x; z = q.z })) → Listed (i + 1) u
    unfolding element_at
    listed_next size few many h set a q b e k u v =
        stored_step _ _ _ _ _ i w s (count_length start n) 0 (record { exponent = e; x = q.x; z = q.z }) h (omega arith)
        (turned_held q e _ _ b k
        ∙ ap₂ (λ (t : ℕ) (gs : List Pauli). turned (step * ((start + i) % (4 / step))) (indexed_product t gs)) a
        (list_kept s.rest standard_at r (omega arith))
        ∙ ap (element_at r (4 / step) step ps) (sym (count_at start n i h))) u v

    pub listed_all : i ≤ n → n ≤ i → list_in w further_at n ≡ elements_from r (4 / step) step ps start n
    listed_all a b = stored_all _ _ _ _ _ i w s (count_length start n) a b ∙ elements_are r (4 / step) step ps start n

-- ---- products of the first generators, over places

first_products : (s : ℕ) (xs ys : List Pauli) → s < 2 ^ length xs → indexed_product s xs ≡ indexed_product s (xs ++ ys)
unfolding indexed_product
first_products s xs ys h = ap product (sym (select_first s xs ys h))

module _ (qs : List ℕ) (h : Rising 0 qs) where
  first_factor : (d : ℕ) (g p : Pauli) → times (if_bit d (condensed qs g) I) p ≡ times (condensed qs (if_bit d g I)) p
  unfolding if_bit
  first_factor zero g p = ap (λ r. times r p) (sym (condensed-I qs))
  first_factor (suc d) g p = refl

  products_condensed : (s : ℕ) (gs : List Pauli) → All (PauliOn qs) gs
      → indexed_product s (map (condensed qs) gs) ≡ condensed qs (indexed_product s gs)
  unfolding indexed_product select
  products_condensed s [] on = rw product_none (sym (condensed-I qs))
  products_condensed s (g ∷ gs) on =
      let a = if_bit (s % 2) g I in
      let p = indexed_product (s / 2) gs in
      indexed_cons s (condensed qs g) (map (condensed qs) gs)
      ∙ ap (times (if_bit (s % 2) (condensed qs g) I)) (products_condensed (s / 2) gs on.1)
      ∙ first_factor (s % 2) g (condensed qs p)
      ∙ condensed_times qs h a p (if_bit_case (PauliOn qs) (s % 2) (λ z. on-I qs) (λ l. on.0))
      ∙ ap (condensed qs) (sym (indexed_cons s g gs))

rank_first : (gs : List Pauli) → rank gs ≤ length (standard gs)
rank_first gs = omega (arith, length-take (rank gs) (standard gs), ap length (first_standard gs), basis_count gs)

subset_lt : (n i : ℕ) → subset_at n i < 2 ^ n
unfolding subset_at
subset_lt n i = of_sizes_at_lt n n 0 i

-- ---- a page of the group of gs, whose standard generators are in the area

module _ (promise : Promise) (gs : List Pauli) where
  abbrev es : List Pauli
  es = elements_of promise gs

  element_on : (i : ℕ) → i < length es → PauliOn (support_of gs) (get_or es i I)
  unfolding turned
  element_on i h =
      let on = indexed_in (on_subgroup (support_of gs) 4) (standard gs) (standard_law gs).on_support
      (subset_at (rank gs) (i / phase_count promise gs)) in
      rw ((elements_law promise gs).at_number i h) (record { x = on.x; z = on.z })

  module _ {known x : List ℕ} {places r total : ℕ} (g : Grouped gs known x places r total) (m : ℕ) (step : m ≡ phase_step promise gs) where
    listed_standard : list_in x standard_at total ≡ map (condensed (support_of gs)) (standard gs)
    unfolding over_support
    listed_standard = g.standards ∙ places_standard gs

    product_over_lem : (s : ℕ) → s < 2 ^ r → indexed_product s (list_in x standard_at r) ≡ condensed (support_of gs) (indexed_product s (standard gs))
    product_over_lem s h =
        let e : r + (total - r) ≡ total = omega (arith, g.rank_is, g.count, rank_first gs) in
        first_products s (list_in x standard_at r) (list_in x (standard_at + 5 * r) (total - r)) (rw length_list h)
        ∙ ap (indexed_product s) (sym (list_append x standard_at r (total - r)) ∙ ap (list_in x standard_at) e ∙ listed_standard)
        ∙ products_condensed (support_of gs) (support_rises gs) s (standard gs) (standard_law gs).on_support

    element_over : (i : ℕ) → i < length es → element_at r (4 / m) m (list_in x standard_at r) i ≡ condensed (support_of gs) (get_or es i I)
    unfolding element_at phase_count turned condensed
    element_over i h =
        ap (turned (m * (i % (4 / m)))) (product_over_lem (subset_at r (i / (4 / m))) (subset_lt r (i / (4 / m))))
        ∙ ap₂ (λ (k : ℕ) (d : ℕ). condensed (support_of gs)
        (turned (k * (i % (4 / k))) (indexed_product (subset_at d (i / (4 / k))) (standard gs)))) step g.rank_is
        ∙ ap (condensed (support_of gs)) (sym ((elements_law promise gs).at_number i h))

    pub page_total : 2 ^ r * (4 / m) ≡ length es
    unfolding phase_count
    page_total = rw (step, g.rank_is) (sym (elements_law promise gs).count_by_rank)

    -- n elements from number start on
    module _ (start count n : ℕ) (many : n ≡ min (page_size count) (2 ^ r * (4 / m) - start)) where
      abbrev shown : List Pauli
      shown = page start count es

      page_length : length shown ≡ n
      page_length = (page_law start count es).size ∙ sym (many ∙ ap (λ (k : ℕ). min (page_size count) (k - start)) page_total)

      page_bounds : (i : ℕ) → i < length shown → (i < page_size count) × (start + i < length es)
      page_bounds i h = (omega (arith, (page_law start count es).size), omega (arith, (page_law start count es).size))

      page_at : (i : ℕ) → i < length shown → get_or shown i I ≡ get_or es (start + i) I
      unfolding page
      page_at i h = get_or-take (page_size count) (drop start es) i I (page_bounds i h).0 ∙ get_or-drop start es i I

      page_on : All (PauliOn (support_of gs)) shown
      page_on = all_by (PauliOn (support_of gs)) shown I λ i h. rw (page_at i h) (element_on (start + i) (page_bounds i h).1)

      page_is : elements_from r (4 / m) m (list_in x standard_at r) start n ≡ map (condensed (support_of gs)) shown
      page_is =
          let ps = list_in x standard_at r in
          ext_get_or I (elements_from r (4 / m) m ps start n) (map (condensed (support_of gs)) shown)
          (from_length r (4 / m) m ps start n ∙ sym (length-map shown (condensed (support_of gs)) ∙ page_length))
          λ i h.
          let l : i < n = rw from_length at h in
          let k : i < length shown = rw page_length l in
          from_at r (4 / m) m ps start n i l ∙ element_over (start + i) (page_bounds i k).1
          ∙ sym (get_map (condensed (support_of gs)) shown i I I k ∙ ap (condensed (support_of gs)) (page_at i k))

      module _ (y : List ℕ) (listed : list_in y further_at n ≡ elements_from r (4 / m) m (list_in x standard_at r) start n) where
        pub page_places : OnPlaces places (list_in y further_at n)
        page_places = rw (listed, page_is, g.size) (condensed_on (support_of gs) shown)

        pub page_written : roll_over known (list_in y further_at n) ≡ page_bytes promise start count gs
        unfolding page_bytes
        page_written = ap₂ roll_over g.support (listed ∙ page_is) ∙ written_over (support_of gs) (support_rises gs) shown page_on

-- ---- the step, by what the standard generators tell

module _ (promise : Promise) {gs : List Pauli} {known x : List ℕ} {places r total : ℕ} (g : Grouped gs known x places r total) (s : Signs)
    (clash : yes_number s.clash ≡ clash_of promise (list_in x standard_at total))
    (step : step_told s.phases ≡ step_of (clash_of promise (list_in x standard_at total)) (list_in x standard_at total))
    (stable : yes_number s.stabilizer ≡ stabilizer_of (clash_of promise (list_in x standard_at total)) (list_in x standard_at total)) where
  pub signs_step : step_told s.phases ≡ phase_step promise gs
  signs_step = (described g promise (step_told s.phases) (yes_number s.clash) (yes_number s.stabilizer) clash step stable).step_is

-- ---- what is told

module _ (promise : Promise) (start count : ℕ) (gs : List Pauli) where
  -- by the rank
  abbrev pub page_told : Told (List ℕ)
  page_told = refuse_if (ltb most_listed (rank gs)) 10 0 (answer (page_bytes promise start count gs))

  pub page_refused : most_listed < rank gs → page_told ≡ refused 10 0
  page_refused h = test_refuses (ltb most_listed (rank gs)) 10 0 _ (lt-ltb most_listed (rank gs) h)

  pub page_answered : rank gs ≤ most_listed → page_told ≡ answer (page_bytes promise start count gs)
  page_answered h = test_pass (ltb most_listed (rank gs)) 10 0 _ (le-ltb most_listed (rank gs) h)

module _ (promise : Promise) (start count : ℕ) (b : List ℕ) (words : ℕ) where
  pub call_refused : (m p : ℕ) → one_list b words ≡ refused m p → elements_call promise start count b words ≡ refused m p
  unfolding elements_call and_then
  call_refused m p e = rw e

  pub call_answered : (gs : List Pauli) → one_list b words ≡ answer gs
      → elements_call promise start count b words ≡ refuse_if (ltb most_listed (rank gs)) 10 0 (answer (page_bytes promise start count gs))
  unfolding elements_call and_then
  call_answered gs e = rw e
