-- Laws of the common part in the work area: exponents noted for the elements of a basis, the shared one of two, and the phases.
use Rattle.std.proofs.Common.{◌≡◌, Option as CodeOption, Some, None, MatchOption, ℕ, zero, suc, ◌+◌, ◌-◌, ◌*◌, ◌%◌, ◌^◌, ◌<◌, ◌≤◌, max, List, [], ◌∷◌, ◌++◌, length, sym, refl, ap, ◌∙◌, subst, ap₂, append_assoc, append-nil, add-one, arith}
use mathlib.Core.Option.{Option, some, none}
use Rattle.binar.specs.Layout.{form_in}
use Rattle.binar.specs.Solve.{transpose_solve}
use Rattle.pauli.specs.declared.signed.Pauli.{Pauli as Held}
use Rattle.pauli.specs.Pauli.{Pauli, I, normal, indexed_product, phase}
use Rattle.pauli.specs.Writing.{OnPlaces, roll_over}
use Rattle.pauli.specs.Roll.{Sparse}
use Rattle.pauli.proofs.write.Writers.{length_list}
use Rattle.pauli.specs.Support.{All}
use Rattle.binar.proofs.Lists.{all_get}
use Rattle.pauli.specs.Signed.{held, pauli_in, list_in}
use Rattle.pauli.proofs.condense.Places.{condense_lt}
use Rattle.pauli_theory.specs.Standard.{support_of, if_zero}
use Rattle.pauli_theory.proofs.OverPlaces.{places_on, places_echelon}
use Rattle.pauli_theory.proofs.SymplecticPlaces.{written_placed}
use Rattle.pauli_theory.specs.Common.{phases_from}
use Rattle.pauli_theory.specs.Inner.CommonPlaces.{form_of_places, shared_exponent_from, shared_exponent, exponent_by, solved_exponent}
use Rattle.pauli_theory.specs.Inner.ModuloPlaces.{moved_set, moved_pauli}
use Rattle.pauli_theory.proofs.CommonWritten.{phases_next}
use Rattle.pauli_theory.proofs.IfZero.{if_zero_zero, if_zero_more}
use Rattle.pauli_group.specs.Inner.Area.{target_at, list_at, further_at, row_words, stride_of, Outside}
use Rattle.pauli_group.proofs.source.SourceLaws.{Counted}
use Rattle.pauli_group.specs.Inner.Groups.{over_support, Grouped}
use Rattle.pauli_group.specs.Calls.{paulis, list_bytes}
use Rattle.pauli_group.specs.Inner.Lists.{row_over, found}
use Rattle.pauli_group.proofs.member.FactorLaws.{grouped_solvable}
use Rattle.pauli_group.proofs.group.GroupedLaws.{list_length, list_few, group_places}
use Rattle.pauli_group.proofs.area.AreaLaws.{form_room}
use Rattle.pauli_group.proofs.list.ListLaws.{list_at_lem, on_places_at, list_append, list_kept, list_kept_after, pauli_kept_after}
use Rattle.pauli_group.proofs.member.SolveLaws.{solvable_kept, form_kept}
use Rattle.pauli_group.specs.Inner.Moved.{MovablePauli}
use Rattle.pauli_group.specs.Inner.Shared.{Solving, exponent_over, exponent_for, NotedBy}

some_more : (i j : ℕ) → (i + j ≡ 0 → ⊥) → 0 < max i j
some_more zero zero d = absurd (d refl)
some_more zero (suc j) d = omega arith
some_more (suc i) j d = omega arith

-- ---- the shared exponent of two

module _ (a b u v : ℕ) where
  abbrev pub Hit : ℕ → Type 0
  Hit e = (e + 4 - u) % 4 % a + (e + 4 - v) % 4 % b ≡ 0

  abbrev pub Missed : ℕ → Type 0
  Missed e = Hit e → ⊥

  abbrev misses : ℕ → ℕ
  misses e = max ((e + 4 - u) % 4 % a) ((e + 4 - v) % 4 % b)

  -- the answer is that from exponent e on
  abbrev SharedFrom : ℕ → Type 0
  SharedFrom e = shared_exponent_from a b u v (4 - e) e ≡ shared_exponent a b u v

  shared_start : SharedFrom 0
  unfolding shared_exponent
  shared_start = refl

  module _ (e : ℕ) (low : e < 4) (f : SharedFrom e) where
    left_over : 4 - e ≡ suc (4 - (e + 1))
    left_over = omega arith

    next : if_zero (misses e) (some e) (shared_exponent_from a b u v (4 - (e + 1)) (e + 1)) ≡ shared_exponent a b u v
    unfolding shared_exponent_from
    next = let one : e + 1 ≡ suc e = omega arith in rw one (ap (λ (n : ℕ). shared_exponent_from a b u v n e) (sym (left_over ∙ ap (λ (k : ℕ). suc (4 - k)) one)) ∙ f)

    shared_hit : Hit e → some e ≡ shared_exponent a b u v
    shared_hit h =
        let z : misses e ≡ 0 = omega (arith, h) in
        sym (if_zero_zero (some e) (shared_exponent_from a b u v (4 - (e + 1)) (e + 1)) z) ∙ next

    shared_miss : Missed e → SharedFrom (e + 1)
    shared_miss h =
        let m : 0 < misses e = some_more ((e + 4 - u) % 4 % a) ((e + 4 - v) % 4 % b) h in
        sym (if_zero_more (misses e) (some e) (shared_exponent_from a b u v (4 - (e + 1)) (e + 1)) m) ∙ next

  reached : (e : ℕ) → e ≤ 4 → ((k : ℕ) → 0 ≤ k → k < e → Missed k) → SharedFrom e
  reached zero h f = shared_start
  reached (suc e) h f =
      let one : e + 1 ≡ suc e = omega arith in
      rw one at (shared_miss e (omega arith) (reached e (omega arith) (λ k l m. f k l (omega arith))) (f e (omega arith) (omega arith)))

  -- the first exponent below 4 that hits, or none
  pub shared_found : (r : CodeOption ℕ)
      → MatchOption r ((k : ℕ) → 0 ≤ k → k < 4 → Missed k) (λ i. (0 ≤ i) × (i < 4) × Hit i × ((k : ℕ) → 0 ≤ k → k < i → Missed k))
      → found r ≡ shared_exponent a b u v
  unfolding shared_exponent_from
  shared_found None f = reached 4 (omega arith) f
  shared_found (Some i) (least, low, h, f) = shared_hit i low (reached i (omega arith) f) h

-- ---- phases behind them

-- the phases below exponent k stand behind the n Paulis from word base on
pub record PhasesUpTo (base a b n : ℕ) (first : List ℕ) (k total : ℕ) (w : List ℕ) : Type 0 where
  pub within : k ≤ 4
  pub few : total ≤ n + k
  pub list : list_in w base total ≡ list_in first base n ++ phases_from a b k 0
  pub size : length w ≡ length first

module _ (base a b n : ℕ) (first : List ℕ) where
  pub phases_none : PhasesUpTo base a b n first 0 n first
  unfolding phases_from
  phases_none = record { within = omega arith; few = omega arith; list = sym (append-nil (list_in first base n)); size = refl }

  module _ (k total : ℕ) (w : List ℕ) (P : PhasesUpTo base a b n first k total w) (h : k < 4) where
    one_more : phases_from a b (k + 1) 0 ≡ phases_from a b k 0 ++ phases_from a b 1 k
    one_more =
        let z : 0 + k ≡ k = omega arith in
        ap (λ (j : ℕ). phases_from a b j 0) (add-one k) ∙ phases_next a b k 0 ∙ ap (λ (j : ℕ). phases_from a b k 0 ++ phases_from a b 1 j) z

    here : list_in w base total ++ phases_from a b 1 k ≡ list_in first base n ++ phases_from a b (k + 1) 0
    here =
        ap (◌++ phases_from a b 1 k) P.list ∙ append_assoc (list_in first base n) (phases_from a b k 0) (phases_from a b 1 k)
        ∙ ap (list_in first base n ++◌) (sym one_more)

    pub phases_skip : (k % a + k % b ≡ 0 → ⊥) → PhasesUpTo base a b n first (k + 1) total w
    unfolding phases_from
    phases_skip d = record {
      within = omega arith;
      few = let f = P.few in omega arith;
      list =
          let z : phases_from a b 1 k ≡ [] = if_zero_more (max (k % a) (k % b)) (phase k ∷ []) [] (some_more (k % a) (k % b) d) in
          sym (append-nil (list_in w base total)) ∙ ap (list_in w base total ++◌) (sym z) ∙ here;
      size = P.size;
    }

    pub phases_put : k % a + k % b ≡ 0 → (u : List ℕ) → list_in u (base + 5 * total) 1 ≡ phase k ∷ [] → Outside (base + 5 * total) 5 w u
        → PhasesUpTo base a b n first (k + 1) (total + 1) u
    unfolding phases_from
    phases_put e u put o = record {
      within = omega arith;
      few = let f = P.few in omega arith;
      list =
          let z : phases_from a b 1 k ≡ phase k ∷ [] = if_zero_zero (phase k ∷ []) [] (let m : max (k % a) (k % b) ≡ 0 = omega (arith, e) in m) in
          list_append u base total 1 ∙ ap₂ ◌++◌ (list_kept o base total (omega arith)) (put ∙ sym z) ∙ here;
      size = o.size ∙ P.size;
    }

-- ---- the exponent of the product that solves for an element

module _ (w joint own : List ℕ) (at n places rank : ℕ) (S : Solving w n places rank) (Own-size : places ≡ length own) (q r : Held)
    (loaded : normal (held q) ≡ normal (pauli_in w at)) (moved : held r ≡ moved_pauli joint own (held q)) where
  abbrev m : Pauli
  m = moved_pauli joint own (pauli_in w at)

  x_is : (held r).x ≡ m.x
  unfolding normal moved_pauli
  x_is = ap (λ (t : Pauli). t.x) moved ∙ ap (moved_set joint own) (ap (λ (t : Pauli). t.x) loaded)

  z_is : (held r).z ≡ m.z
  unfolding normal moved_pauli
  z_is = ap (λ (t : Pauli). t.z) moved ∙ ap (moved_set joint own) (ap (λ (t : Pauli). t.z) loaded)

  moved_low : (v : ℕ) → moved_set joint own v < 2 ^ places
  unfolding moved_set
  moved_low v = subst (λ (k : ℕ). moved_set joint own v < 2 ^ k) (sym Own-size) (condense_lt own _)

  pub target_low : ((held r).x < 2 ^ places) × ((held r).z < 2 ^ places)
  unfolding moved_pauli
  target_low = (rw x_is (moved_low (pauli_in w at).x), rw z_is (moved_low (pauli_in w at).z))

  abbrev exponent : ℕ
  exponent = exponent_over joint own n places w (pauli_in w at)

  solution_is : (o : Option ℕ) → o ≡ transpose_solve (2 * places) (form_in (stride_of n) n row_words (2 * places) rank w) (row_over places (held r))
      → exponent_by (list_in w list_at n) o ≡ exponent
  unfolding exponent_over solved_exponent row_over
  solution_is o e =
      ap (exponent_by (list_in w list_at n))
      (e ∙ ap₂ (transpose_solve (2 * places)) S.form (ap₂ (λ (i : ℕ) (j : ℕ). i + 2 ^ places * j) x_is z_is))

  pub exponent_none : none ≡ transpose_solve (2 * places) (form_in (stride_of n) n row_words (2 * places) rank w) (row_over places (held r)) → 0 ≡ exponent
  unfolding exponent_by
  exponent_none e = solution_is none e

  pub exponent_set : (s : ℕ) → some s ≡ transpose_solve (2 * places) (form_in (stride_of n) n row_words (2 * places) rank w) (row_over places (held r))
      → (x : List ℕ) → Outside target_at (stride_of n) w x → (p : Held) → normal (held p) ≡ indexed_product s (list_in x list_at n)
      → p.exponent % 4 ≡ exponent
  unfolding exponent_by normal held
  exponent_set s e x o p f =
      let here = list_kept_after o list_at n (omega (arith, (form_room n S.few).1)) in
      ap (λ (t : Pauli). t.e) (f ∙ ap (indexed_product s) here) ∙ solution_is (some s) e

-- ---- exponents noted, one after the other

module _ {first w : List ℕ} {n : ℕ} (O : Outside target_at (stride_of n) first w) {places rank : ℕ} (S : Solving first n places rank) where
  -- the generators and the further list are behind the row to solve for
  kept_from : target_at + stride_of n ≤ list_at
  kept_from = omega (arith, (form_room n S.few).1)

  list_here : list_in w list_at n ≡ list_in first list_at n
  list_here = list_kept_after O list_at n kept_from

  noted_here : (i : ℕ) → pauli_in w (further_at + 5 * i) ≡ pauli_in first (further_at + 5 * i)
  noted_here i = pauli_kept_after O (further_at + 5 * i) (omega (arith, kept_from))

  pub noted_solving : Solving w n places rank
  noted_solving = record {
    form =
        form_kept O (stride_of n) n (2 * places) rank target_at S.solvable (omega arith) row_words ∙ S.form
        ∙ ap (form_of_places places) (sym list_here);
    solvable = solvable_kept O (stride_of n) n (2 * places) rank target_at S.solvable (omega arith);
    few = S.few;
    small = S.small;
  }

  pub noted_element : (size m i : ℕ) → i < m → OnPlaces size (list_in first further_at m) → (qs rs : List ℕ) → All (MovablePauli qs rs) (list_in first further_at m)
      → let p = pauli_in w (further_at + 5 * i) in (p.x < 2 ^ size) × (p.z < 2 ^ size) × MovablePauli qs rs p
  noted_element size m i h on qs rs all =
      let o = on_places_at size first further_at m i on h in
      rw (noted_here i)
      (o.0, o.1, subst (MovablePauli qs rs) (list_at_lem first further_at m i I h) (all_get (MovablePauli qs rs) (list_in first further_at m) I all i (rw (length_list first further_at m) h)))

  pub noted_exponent : (joint own : List ℕ) (i e : ℕ) → e ≡ exponent_over joint own n places w (pauli_in w (further_at + 5 * i))
      → e ≡ exponent_over joint own n places first (pauli_in first (further_at + 5 * i))
  unfolding exponent_over
  noted_exponent joint own i e told = told ∙ ap₂ (λ ps p. solved_exponent places ps (moved_pauli joint own p)) list_here (noted_here i)

-- ---- by the group of a list within the limits

module _ (ps : List Sparse) (n : ℕ) (count : Counted ps n) {known x : List ℕ} {places rank total : ℕ}
    (G : Grouped (paulis ps) known x places rank total) (size : length x ≡ 4096) where
  abbrev gs : List Pauli
  gs = paulis ps

  number : length gs ≡ n
  number = list_length ps n count

  group_list : list_in x list_at n ≡ over_support gs
  group_list = rw (← number) G.list

  pub group_solving : Solving x n places rank
  unfolding over_support
  group_solving = record {
    form = rw (← number) (G.form ∙ places_echelon gs ∙ rw (← G.size, ← G.list));
    solvable = rw (← number) (grouped_solvable G (list_few ps n count) (group_places ps n count G) size);
    few = omega (arith, number, list_few ps n count);
    small = group_places ps n count G;
  }

  module _ {entry : List ℕ} (o : Outside 0 further_at entry x) (qs : List ℕ) (m : ℕ) where
    further_kept : list_in x further_at m ≡ list_in entry further_at m
    further_kept = list_kept_after o further_at m (omega arith)

    pub group_further : (s : ℕ) → OnPlaces s (list_in entry further_at m) → OnPlaces s (list_in x further_at m)
    group_further s on = rw further_kept on

    pub group_movable : All (MovablePauli qs (support_of gs)) (list_in entry further_at m) → All (MovablePauli qs known) (list_in x further_at m)
    group_movable all = rw (further_kept, G.support) all

    pub group_noted : (by : List ℕ) → NotedBy (exponent_over qs known n places x) by m x → NotedBy (exponent_for qs gs) by m entry
    unfolding exponent_over exponent_for
    group_noted by e = λ i h.
        let here = pauli_kept_after o (further_at + 5 * i) (omega arith) in
        e i h ∙ rw (here, G.support, group_list, ← G.size)

  -- the list itself, as a written roll
  pub list_on : OnPlaces places (list_in x list_at n)
  unfolding over_support
  list_on = rw (group_list, G.size) (places_on gs)

  pub list_written : roll_over known (list_in x list_at n) ≡ list_bytes gs
  unfolding over_support
  list_written = rw (group_list, G.support) (written_placed gs)
