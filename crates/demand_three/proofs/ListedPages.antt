-- Pages in a row, by what their calls promise: together they are the list of the elements, which is the group.
use Rattle.std.proofs.Common.{◌≡◌, refl, sym, ap, ap₂, ◌∙◌, subst, Bool, true, false, List, [], ◌∷◌, ◌++◌, map, ℕ, zero, suc, ◌+◌, ◌^◌, ◌≤◌, ◌<◌, arith, ltb, length, get_or, take, drop, Ok}
use borrow.Author.Tests.{lt-ltb, le-ltb, ltb-false}
use lib.ListN.{length-map, get_or-map, drop_of_length-le}
use lib.Pow.{pow_mono}
use lib.Seq.{drop-drop}
use Rattle.binar.proofs.Lists.{all_get, all_left, all_right}
use Rattle.pauli.specs.Condense.{nothing}
use Rattle.pauli.specs.Pauli.{Pauli, I, Same}
use Rattle.pauli.specs.ReadBack.{Holds}
use Rattle.pauli.specs.Refusals.{told_of}
use Rattle.pauli.specs.Roll.{Sparse, read}
use Rattle.pauli.specs.Sets.{pauli_of}
use Rattle.pauli.specs.Support.{All}
use Rattle.pauli.specs.Told.{answer, refused, refuse_if, and_then, map_told}
use Rattle.pauli.specs.Writing.{told_bytes, left_in}
use Rattle.pauli.proofs.join.ReadBack.{told_bytes_lem}
use Rattle.pauli.proofs.roll.Told.{test_pass, test_passed, test_refuses, map_test}
use Rattle.pauli_theory.specs.Group.{Generated}
use Rattle.pauli_theory.specs.Listing.{default_page, largest_page, page_size, elements_of, page}
use Rattle.pauli_theory.specs.ListingTheorems.{PageLaw, ElementsLaw, ListedLaw}
use Rattle.pauli_theory.specs.Standard.{if_zero, rank, log2_size}
use Rattle.pauli_theory.proofs.ByValue.{values_by}
use Rattle.pauli_theory.proofs.ListingTheorems.{listing_laws}
use Rattle.pauli_group.specs.WorkArea.{enough, area_after}
use Rattle.pauli_group.specs.Calls.{paulis, one_list, rank_call, size_call, page_bytes, elements_call}
use Rattle.demand_three.specs.DemandThree.{Generators, list, Element, pauli, Member, if_area, if_room}
use Rattle.demand_three.specs.ListedGroup.{Paging, Ranking, Sizing, Page, on_page, Pages, last, next, collected, Counted}
use Rattle.demand_three.proofs.DemandMember.{room, member_when, member_only}
use Rattle.demand_three.proofs.DemandStandard.{told_test}
use Rattle.demand_three.proofs.ReadBack.{read_back}

-- the first elements of a list, as many as there are up to c, and those behind them
take_on : {X : Type 0} (c : ℕ) (l : List X) → take c l ++ drop (length (take c l)) l ≡ l
take_on zero l = refl
take_on (suc c) [] = refl
take_on (suc c) (a ∷ l) = ap (a ∷◌) (take_on c l)

some_page : (count : ℕ) → 0 < page_size count
unfolding page_size if_zero default_page largest_page
some_page zero = omega arith
some_page (suc count) = omega arith

-- a listing refused with 10, behind the test of the work area
told_refused : (t : Bool) (out : List ℕ) → told_bytes (refuse_if t 9 0 (refused 10 0)) out ≡ refuse_if t 9 0 (refused 10 0)
unfolding told_bytes refuse_if
told_refused true out = refl
told_refused false out = refl

module _ (A : Generators) where
  abbrev es : List Pauli
  es = elements_of A.promise (list A)

  elements : ElementsLaw A.promise (list A)
  elements = listing_laws.elements_law A.promise (list A)

  listed : ListedLaw A.promise (list A)
  listed = listing_laws.listed_law A.promise (list A) A.honest

  -- ---- what the calls tell

  rank_is : (words : ℕ) → rank_call A.roll words ≡ refuse_if (ltb words 4096) 9 0 (answer (rank (list A)))
  unfolding rank_call one_list and_then enough map_told
  rank_is words = rw A.accepted (map_test rank (ltb words 4096) 9 0 (answer (list A)))

  size_is : (words : ℕ) → size_call A.promise A.roll words ≡ refuse_if (ltb words 4096) 9 0 (answer (log2_size A.promise (list A)))
  unfolding size_call one_list and_then enough map_told
  size_is words = rw A.accepted (map_test (log2_size A.promise) (ltb words 4096) 9 0 (answer (list A)))

  page_is : (start count words : ℕ) → elements_call A.promise start count A.roll words
      ≡ refuse_if (ltb words 4096) 9 0 (refuse_if (ltb 16 (rank (list A))) 10 0 (answer (page_bytes A.promise start count (list A))))
  unfolding elements_call one_list and_then enough refuse_if
  page_is start count words = rw A.accepted (go (ltb words 4096))
    where
      go : (t : Bool) → and_then (refuse_if t 9 0 (answer (list A)))
          (λ gs. refuse_if (ltb 16 (rank gs)) 10 0 (answer (page_bytes A.promise start count gs)))
          ≡ refuse_if t 9 0 (refuse_if (ltb 16 (rank (list A))) 10 0 (answer (page_bytes A.promise start count (list A))))
      go true = refl
      go false = refl

  pub rank_told : (r : ℕ) × ((c : Ranking A) → told_of c.found ≡ if_area c.work (answer r))
  unfolding if_area
  rank_told = (rank (list A), λ c. c.promised.told ∙ rank_is (length c.work))

  pub size_told : (k : ℕ) × ((c : Sizing A) → told_of c.found ≡ if_area c.work (answer k))
  unfolding if_area
  size_told = (log2_size A.promise (list A), λ c. c.promised.told ∙ size_is (length c.work))

  told_rank : (c : Ranking A) (r : ℕ) → told_of c.found ≡ answer r → rank (list A) ≡ r
  told_rank c r e = let (area, s) = test_passed _ 9 0 _ r (sym (rank_is (length c.work)) ∙ sym c.promised.told ∙ e) in cc

  told_size : (c : Sizing A) (k : ℕ) → told_of c.found ≡ answer k → log2_size A.promise (list A) ≡ k
  told_size c k e = let (area, s) = test_passed _ 9 0 _ k (sym (size_is (length c.work)) ∙ sym c.promised.told ∙ e) in cc

  -- ---- a page

  module _ (start : ℕ) where
    holds : (count : ℕ) (c : Paging A start count) (n : ℕ) → told_of c.wrote ≡ answer n → Holds (take n c.out') (page start count es)
    holds count c n e = read_back.elements A.promise start count A.roll c.work c.out c.wrote c.work' c.out' A.held c.promised A.accepted n e

    pub page_accepted : (count : ℕ) (c : Paging A start count) (n : ℕ) → told_of c.wrote ≡ answer n
        → (ps : List Sparse) × (read (take n c.out') ≡ answer ps)
    page_accepted count c n e = let h = holds count c n e in (h.held, h.accepted)

    law : (count : ℕ) → PageLaw start count es
    law count = listing_laws.page_law start count es

    -- what is so of all elements is so of a page's
    page_all : (P : Pauli → Type 0) → All P es → (count : ℕ) → All P (page start count es)
    page_all P h count =
        let behind = drop (start + page_size count) es in
        all_left P (page start count es) behind (all_right P (take start es) (page start count es ++ behind) (subst (All P) (law count).parts h))

    module _ (p : Page A start) where
      held_is : paulis p.held ≡ page start p.count es
      unfolding paulis
      held_is =
          let h = holds p.count p.call p.size p.told in
          let same : p.held ≡ h.held = cc (p.accepted, h.accepted) in
          ap (map pauli_of) same ∙ h.exactly ∙ values_by (page start p.count es) (page_all (λ q. q.e < 4) elements.values p.count)

      held_count : length p.held ≡ length (page start p.count es)
      unfolding paulis
      held_count = sym (length-map p.held pauli_of) ∙ ap length held_is

      pub no_other : (i : ℕ) (h : i < length p.held) → Member A (on_page p i h)
      unfolding paulis
      no_other i h =
          let all = subst (All (Generated (list A))) (sym held_is) (page_all (Generated (list A)) listed.generated p.count) in
          let l : i < length (paulis p.held) = rw length-map h in
          member_when A (on_page p i h)
          (rw (get_or-map pauli_of p.held i nothing) at (all_get (Generated (list A)) (paulis p.held) (pauli_of nothing) all i l))

      -- an empty page is past the end, and only such a page is empty
      empty_past : p.held ≡ [] → length es ≤ start
      empty_past e = omega (arith, ap length e, held_count, (law p.count).size, some_page p.count)

      past_empty : length es ≤ start → length p.held ≡ 0
      past_empty h = omega (arith, held_count, (law p.count).size)

      pub page_low : rank (list A) ≤ 16
      page_low =
          let (bs, s, front) = told_bytes_lem _ p.call.out p.size (sym p.call.promised.told ∙ p.told) in
          let (area, s₁) = test_passed _ 9 0 _ bs (sym (page_is start p.count (length p.call.work)) ∙ s) in
          let (low, s₂) = test_passed _ 10 0 _ bs s₁ in
          ltb-false 16 (rank (list A)) low

      pub low_rank : (c : Ranking A) (r : ℕ) → told_of c.found ≡ answer r → r ≤ 16
      low_rank c r e = omega (arith, told_rank c r e, page_low)

  -- ---- pages in a row

  collected_is : {start : ℕ} (row : Pages A start) → collected row ≡ drop start es
  unfolding collected page paulis
  collected_is {start} (last p e) = ap paulis e ∙ sym (drop_of_length-le es (empty_past start p e))
  collected_is {start} (next p more) =
      let here = page start p.count es in
      ap₂ ◌++◌ (held_is start p)
      (collected_is more ∙ ap (λ (n : ℕ). drop (start + n) es) (held_count start p) ∙ sym (drop-drop (length here) start es))
      ∙ take_on (page_size p.count) (drop start es)

  row_low : {start : ℕ} → Pages A start → rank (list A) ≤ 16
  row_low {start} (last p e) = page_low start p
  row_low {start} (next p more) = page_low start p

  module _ (row : Pages A 0) where
    row_is : collected row ≡ es
    row_is = collected_is row

    pub every : (x : Element) → Member A x → (i : ℕ) × (i < length (collected row)) × Same (get_or (collected row) i I) (pauli x)
    every x m = rw row_is (listed.complete (pauli x) (member_only A x m))

    pub once : (i j : ℕ) → i < length (collected row) → j < length (collected row)
        → Same (get_or (collected row) i I) (get_or (collected row) j I) → i ≡ j
    once = rw row_is listed.distinct

    row_count : length (collected row) ≡ 2 ^ log2_size A.promise (list A)
    row_count = ap length row_is ∙ elements.count

    pub count : (c : Sizing A) (k : ℕ) → told_of c.found ≡ answer k → length (collected row) ≡ 2 ^ k
    count c k e = row_count ∙ ap (2 ^◌) (told_size c k e)

    pub few : length (collected row) ≤ 2 ^ 18
    unfolding log2_size
    few =
        let low : log2_size A.promise (list A) ≤ 18 = omega (arith, row_low row) in
        rw row_count (pow_mono low)

  -- ---- what page calls tell

  module _ (c : Ranking A) (r : ℕ) (e : told_of c.found ≡ answer r) where
    pub page_refused : 16 < r → (start count : ℕ) (p : Paging A start count) → told_of p.wrote ≡ if_area p.work (refused 10 0)
    unfolding if_area
    page_refused h start count p =
        let bs = page_bytes A.promise start count (list A) in
        let high = test_refuses (ltb 16 (rank (list A))) 10 0 (answer bs) (lt-ltb 16 (rank (list A)) (omega (arith, told_rank c r e))) in
        p.promised.told
        ∙ ap (λ t. told_bytes t p.out) (page_is start count (length p.work) ∙ ap (refuse_if (ltb (length p.work) 4096) 9 0) high)
        ∙ told_refused (ltb (length p.work) 4096) p.out

    module _ (h : r ≤ 16) where
      module _ (start count : ℕ) where
        abbrev bytes : ℕ
        bytes = length (page_bytes A.promise start count (list A))

        tells : (work out : List ℕ)
            → told_bytes (elements_call A.promise start count A.roll (length work)) out ≡ if_area work (if_room out bytes bytes)
        unfolding if_area
        tells work out =
            let bs = page_bytes A.promise start count (list A) in
            let low = test_pass (ltb 16 (rank (list A))) 10 0 (answer bs) (le-ltb 16 (rank (list A)) (omega (arith, told_rank c r e))) in
            ap (λ t. told_bytes t out) (page_is start count (length work) ∙ ap (refuse_if (ltb (length work) 4096) 9 0) low)
            ∙ told_test (ltb (length work) 4096) bs out

        pub page_told : (n : ℕ) × ((p : Paging A start count) → told_of p.wrote ≡ if_area p.work (if_room p.out n n))
        page_told = (bytes, λ p. p.promised.told ∙ tells p.work p.out)

        -- a page, by a call with 4,096 words and room
        called : Paging A start count
        unfolding if_area if_room
        called =
            let (work, words) = room 4096 in
            let (out, size) = room bytes in
            let area = le-ltb (length work) 4096 (omega arith) in
            let fits = le-ltb (length out) bytes (omega arith) in
            record {
              work = work;
              out = out;
              wrote = Ok bytes;
              work' = area_after (one_list A.roll (length work)) work;
              out' = left_in (elements_call A.promise start count A.roll (length work)) out;
              promised = record { told = sym (tells work out ∙ test_pass _ 9 0 _ area ∙ test_pass _ 12 0 _ fits); left = refl; area = refl };
            }

        a_page : (p : Page A start) × (p.count ≡ count)
        unfolding called
        a_page =
            let (held, accepted) = page_accepted start count called bytes refl in
            (record { count = count; call = called; size = bytes; told = refl; held = held; accepted = accepted }, refl)

      -- ---- a row of pages

      module _ (counts : ℕ → ℕ) where
        -- a page, and the row behind it unless it is empty
        row_on : (n start : ℕ) (p : Page A start) → p.count ≡ counts n → (ps : List Sparse) → p.held ≡ ps
            → (0 < length p.held → (row : Pages A (start + length p.held)) × Counted counts (suc n) row)
            → (row : Pages A start) × Counted counts n row
        unfolding Counted
        row_on n start p same [] e more = (last p e, same)
        row_on n start p same (q ∷ ps) e more = let (row, rest) = more (omega (arith, ap length e)) in (next p row, (same, rest))

        rows_from : (fuel n start : ℕ) → length es ≤ start + fuel → (row : Pages A start) × Counted counts n row
        rows_from zero n start l =
            let (p, same) = a_page start (counts n) in
            row_on n start p same p.held refl λ h. absurd (omega (arith, past_empty start p (omega arith)))
        rows_from (suc fuel) n start l =
            let (p, same) = a_page start (counts n) in
            row_on n start p same p.held refl λ h. rows_from fuel (suc n) (start + length p.held) (omega arith)

        pub a_row : (row : Pages A 0) × Counted counts 0 row
        a_row = rows_from (length es) 0 0 (omega arith)
