-- Laws of lists kept in slots.
use Rattle.std.proofs.Common.{◌≡◌, ℕ, zero, suc, ◌+◌, ◌*◌, ◌/◌, ◌%◌, ◌^◌, ◌<◌, ◌≤◌, List, [], ◌∷◌, ◌++◌, map, length, get_or, take, drop, set, sym, refl, ap, ap₂, ◌∙◌, subst, arith, add-one, append_assoc, length-set, length-drop, length-append, drop-cons, take-suc, get_or-set_other, get_or-set_same, drop_of_length-le}
use mathlib.Core.List.{map-map}
use Rattle.std.proofs.Math.Seq.{take-suc-set}
use Rattle.std.proofs.lemmas.List.{append-nil, get_or-drop, get_or-take, drop-set-add, drop-set-lt, ext_get_or, length-take, length-take-le}
use lib.Bits.{bit_or, or_zero_r}
use native.Mathlib.Decide.{dec_lt}
use Rattle.binar.proofs.Lists.{all_of, all_map, all_over, map_same}
use Rattle.pauli.specs.declared.signed.Pauli.{Pauli as Held}
use Rattle.pauli.specs.Condense.{condensed}
use Rattle.pauli.specs.Pauli.{Pauli, normal, select, cons_if}
use Rattle.pauli.specs.PauliTheorems.{On, PauliOn}
use Rattle.pauli.specs.PlaceSet.{set_in}
use Rattle.pauli.specs.Sets.{members, set_of, condense, pauli_of, sparse_of}
use Rattle.pauli.specs.Signed.{held, pauli_in, paulis_in, list_in, stored}
use Rattle.pauli.specs.Support.{All, Rising}
use Rattle.pauli.specs.Writing.{OnPlaces, roll_over, sparse_over}
use Rattle.pauli.proofs.condense.Places.{condense_bit, condense_lt, condense_or}
use Rattle.pauli.proofs.condense.Sets.{set_only, members_set, set_members}
use Rattle.pauli.proofs.places.Members.{at_indexes, at_hit, select_members}
use Rattle.pauli.proofs.write.Condensed.{select_members as select_over, sparse_over_lem}
use Rattle.pauli_theory.specs.Standard.{used_by, support_of}
use Rattle.pauli_theory.specs.Inner.ModuloPlaces.{moved_pauli}
use Rattle.pauli_theory.proofs.IndexSets.{members_below}
use Rattle.pauli_theory.proofs.ModuloPlaces.{moved_paulis}
use Rattle.pauli_theory.proofs.Placed.{condense_none, condensed_on}
use Rattle.pauli_theory.proofs.Rows.{support_rises, support_on, used_least}
use Rattle.pauli_theory.proofs.Written.{written_over, support_of_lem}
use Rattle.pauli_group.specs.Calls.{list_bytes, paulis}
use Rattle.pauli_group.specs.Inner.Area.{Outside}
use Rattle.pauli_group.specs.Inner.Moved.{Movable, MovablePauli}
use Rattle.pauli_group.proofs.list.ListLaws.{list_kept_after, set_outside}
use Rattle.pauli_group.proofs.moved.MoveLaws.{or_assoc}
use Rattle.pauli.specs.Roll.{by_value}
use Rattle.pauli.proofs.signed.Algebra.{pauli_path}
use Rattle.pauli.proofs.support.Lists.{all_mem}
use Rattle.pauli_group.specs.Inner.Kept.{spread, KeptOver}
use Rattle.combined_lists.specs.Inner.Slots.{qubits_in, NumbersFit, SlotHas, Keepable}

-- ---- the places that a list uses, Pauli by Pauli

-- the places of the first i Paulis are joined
pub record UsedUpTo (list : List (List ℕ)) (i used : ℕ) : Type 0 where
  pub joined : bit_or used (used_by (paulis_in (drop i list))) ≡ used_by (paulis_in list)

module _ (list : List (List ℕ)) where
  pub used_none : (used : ℕ) → used ≡ 0 → UsedUpTo list 0 used
  used_none used e = record { joined = rw e refl }

  module _ {i used : ℕ} (u : UsedUpTo list i used) where
    pub used_next : i < length list → (p : Held) → held p ≡ stored (pauli_in (get_or list i []) 0) → (new both : ℕ) → new ≡ bit_or used both
        → both ≡ bit_or (set_in p.x) (set_in p.z) → UsedUpTo list (i + 1) new
    unfolding used_by paulis_in held stored
    used_next h p e new both f g = record {
      joined =
          let rest = used_by (paulis_in (drop (suc i) list)) in
          let q = pauli_in (get_or list i []) 0 in
          let same : both ≡ bit_or q.x q.z = g ∙ ap (λ (r : Pauli). bit_or r.x r.z) e in
          rw (add-one, f ∙ ap (bit_or used) same, or_assoc)
          (ap (λ (l : List (List ℕ)). bit_or used (used_by (paulis_in l))) (sym (drop-cons list i [] h)) ∙ u.joined);
    }

    pub used_all : length list ≤ i → used ≡ used_by (paulis_in list)
    unfolding used_by paulis_in
    used_all h = sym (or_zero_r used) ∙ ap (λ (l : List (List ℕ)). bit_or used (used_by (paulis_in l))) (sym (drop_of_length-le list h)) ∙ u.joined

-- ---- the numbers of qubits, number by number

length_cons_if {ℓ} : {A : Type ℓ} (d : ℕ) (a : A) (l : List A) → length (cons_if d a l) ≤ suc (length l)
unfolding cons_if
length_cons_if zero a l = omega arith
length_cons_if (suc d) a l = omega arith

length_select {ℓ} : {A : Type ℓ} (l : List A) (v : ℕ) → length (select v l) ≤ length l
unfolding select
length_select [] v = omega arith
length_select (a ∷ l) v = omega (arith, length_cons_if (v % 2) a (select (v / 2) l), length_select l (v / 2))

-- a number put behind those that a slot has
put_behind : (s : List ℕ) (count q : ℕ) → 2 + count < length s
    → take (count + 1) (drop 2 (set s (2 + count) q)) ≡ take count (drop 2 s) ++ (q ∷ [])
put_behind s count q h =
    let room : count < length (drop 2 s) = omega (arith, length-drop 2 s) in
    ap₂ take (add-one count) (drop-set-add 2 s count q) ∙ take-suc-set (drop 2 s) count q room

-- of the qubits at the places v of joint, those at the places `left` are left to put into the slot s, behind `count` that are in it
pub record Putting (v : ℕ) (joint left : List ℕ) (count : ℕ) (s : List ℕ) : Type 0 where
  pub size : length s ≡ 770
  pub inside : All (λ i. i < length joint) left
  pub room : count ≤ 128
  pub low : (i : ℕ) → i < count → get_or s (2 + i) 0 < 2 ^ 32
  pub list : take count (drop 2 s) ++ at_indexes left joint ≡ select v joint

module _ (v : ℕ) (joint : List ℕ) where
  pub putting_start : (s : List ℕ) → length s ≡ 770 → v < 2 ^ length joint → Putting v joint (members v) 0 s
  putting_start s e small = record {
    size = e;
    inside = members_below (length joint) v small;
    room = omega arith;
    low = λ i h. absurd (omega arith);
    list = sym (select_members joint v);
  }

  module _ (few : length joint ≤ 128) {left : List ℕ} {count : ℕ} {s : List ℕ} (r : Putting v joint left count s) where
    -- the next place is p
    module _ (p : ℕ) (more : List ℕ) (e : left ≡ p ∷ more) where
      next : Putting v joint (p ∷ more) count s
      next = subst (λ (is : List ℕ). Putting v joint is count s) e r

      pub putting_in : p < length joint
      putting_in = next.inside.0

      number : take count (drop 2 s) ++ (get_or joint p 0 ∷ at_indexes more joint) ≡ select v joint
      number = ap (take count (drop 2 s) ++◌) (sym (at_hit joint p more 0 putting_in)) ∙ next.list

      pub putting_room : count < 128
      putting_room =
          let there : length (take count (drop 2 s)) ≡ count = length-take-le count (drop 2 s) (omega (arith, length-drop 2 s, r.size, r.room)) in
          let all = length-append (take count (drop 2 s)) (get_or joint p 0 ∷ at_indexes more joint) in
          omega (arith, there, all, ap length number, length_select joint v)

      pub putting_next : (q : ℕ) → q ≡ get_or joint p 0 → q < 2 ^ 32 → Putting v joint more (count + 1) (set s (2 + count) q)
      putting_next q f fits = record {
        size = length-set s (2 + count) q ∙ r.size;
        inside = next.inside.1;
        room = omega (arith, putting_room);
        low = λ i h. elim (dec_lt i count) [
          | yes l ↦ rw (get_or-set_other s (2 + count) (2 + i) q 0 (λ d. omega arith)) (next.low i l)
          | no l ↦
              let same : 2 + i ≡ 2 + count = omega arith in
              rw (same, get_or-set_same s (2 + count) q 0 (omega (arith, r.size, putting_room))) fits
        ];
        list =
            ap (◌++ at_indexes more joint) (put_behind s count q (omega (arith, r.size, putting_room)))
            ∙ append_assoc (take count (drop 2 s)) (q ∷ []) (at_indexes more joint) ∙ rw f number;
      }

    module _ (e : left ≡ []) where
      done : take count (drop 2 s) ≡ select v joint
      unfolding at_indexes
      done = sym (append-nil (take count (drop 2 s))) ∙ ap (λ (is : List ℕ). take count (drop 2 s) ++ at_indexes is joint) (sym e) ∙ r.list

      pub putting_end : qubits_in (set s 1 count) ≡ select v joint
      unfolding qubits_in
      putting_end = ap₂ take (get_or-set_same s 1 count 0 (omega (arith, r.size))) (drop-set-lt 2 s 1 count (omega arith)) ∙ done

      pub putting_fit : NumbersFit (set s 1 count)
      putting_fit = record {
        places = rw (get_or-set_same s 1 count 0 (omega (arith, r.size))) r.room;
        low = λ i h. rw (get_or-set_other s 1 (2 + i) count 0 (λ d. omega arith)) (r.low i (rw (get_or-set_same s 1 count 0 (omega (arith, r.size))) at h));
      }

-- ---- the numbers read, number by number

module _ (s ns : List ℕ) (i : ℕ) (h : take i ns ≡ take i (drop 2 s)) where
  pub numbers_next : i < length ns → 2 + i < length s → (q : ℕ) → q ≡ get_or s (2 + i) 0 → take (i + 1) (set ns i q) ≡ take (i + 1) (drop 2 s)
  numbers_next l m q e =
      let room : i < length (drop 2 s) = omega (arith, length-drop 2 s) in
      ap (λ (n : ℕ). take n (set ns i q)) (add-one i) ∙ take-suc-set ns i q l
      ∙ ap₂ (λ (l : List ℕ) (r : ℕ). l ++ (r ∷ [])) h (e ∙ sym (get_or-drop 2 s i 0))
      ∙ sym (ap (λ (n : ℕ). take n (drop 2 s)) (add-one i) ∙ take-suc (drop 2 s) i 0 room)

  pub numbers_all : i ≡ get_or s 1 0 → take (get_or s 1 0) ns ≡ qubits_in s
  unfolding qubits_in
  numbers_all e = rw (← e) h

-- ---- a list that can be kept

used_condensed : (qs : List ℕ) (gs : List Pauli) → used_by (map (condensed qs) gs) ≡ condense qs (used_by gs)
unfolding used_by condensed
used_condensed qs [] = sym (condense_none qs)
used_condensed qs (g ∷ gs) =
    ap₂ bit_or (sym (condense_or qs g.x g.z)) (used_condensed qs gs) ∙ sym (condense_or qs (bit_or g.x g.z) (used_by gs))

-- the values are there once moved
condensed_value : (qs : List ℕ) (p : Pauli) → normal (condensed qs p) ≡ condensed qs (normal p)
unfolding normal condensed
condensed_value qs p = refl

module _ {joint : List ℕ} {words : List (List ℕ)} {gs : List Pauli} (k : Keepable joint words gs) where
  used_on : On joint (used_by gs)
  used_on q e = set_only joint q (used_least (set_of joint) gs (rw (members_set joint k.rises) k.on) q e)

  used_is : used_by (paulis_in words) ≡ condense joint (used_by gs)
  used_is = ap used_by k.list ∙ used_condensed joint gs

  module _ (v : ℕ) (e : v ≡ used_by (paulis_in words)) where
    pub kept_small : v < 2 ^ length joint
    kept_small = rw (e, used_is) (condense_lt joint (used_by gs))

    pub kept_own : select v joint ≡ support_of gs
    unfolding support_of
    kept_own = ap (λ (u : ℕ). select u joint) (e ∙ used_is) ∙ select_over joint k.rises (used_by gs) used_on

  movable : (v : ℕ) → On (support_of gs) v → Movable joint (support_of gs) (condense joint v)
  movable v on = record {
    own_rises = k.rises;
    rises = support_rises gs;
    inside = λ i l e. on (get_or joint i 0) (sym (condense_bit joint v i l) ∙ e);
  }

  kept_movable : (own : List ℕ) → own ≡ support_of gs → All (MovablePauli joint own) (paulis_in words)
  unfolding condensed
  kept_movable own e =
      rw (e, k.list)
      (all_over (MovablePauli joint (support_of gs)) (condensed joint) gs
      (all_map (λ p on. (movable p.x on.x, movable p.z on.z)) gs (support_on gs)))

  -- they can be moved into a slot
  pub kept_room : (own : List ℕ) (v room : ℕ) → own ≡ select v joint → own ≡ support_of gs → 770 ≤ room
      → (length own ≤ 128) × (130 + 5 * length words ≤ room) × OnPlaces (length joint) (paulis_in words) × All (MovablePauli joint own) (paulis_in words)
  kept_room own v room e f long =
      let small : length own ≤ 128 = rw e (omega (arith, length_select joint v, k.places)) in
      (small, omega (arith, k.few), rw k.list (condensed_on joint gs), kept_movable own f)

  pub kept_moved : map (λ p. normal (moved_pauli joint (support_of gs) p)) (paulis_in words) ≡ map (condensed (support_of gs)) gs
  kept_moved =
      let qs = support_of gs in
      ap (map (λ p. normal (moved_pauli joint qs p))) k.list ∙ sym (map-map normal (moved_pauli joint qs) (map (condensed joint) gs))
      ∙ ap (map normal) (moved_paulis joint k.rises qs gs k.on) ∙ map-map normal (condensed qs) gs
      ∙ map_same (λ p. normal (condensed qs p)) (λ p. condensed qs (normal p)) gs (all_of (condensed_value qs) gs)
      ∙ sym (map-map (condensed qs) normal gs) ∙ ap (map (condensed qs)) k.values

-- ---- slots

-- what is in words 1 to 129 is in another slot too
module _ (old new : List ℕ) (long : length old ≡ 770) (size : length new ≡ length old)
    (same : (i : ℕ) → 0 < i → i < 130 → get_or new i 0 ≡ get_or old i 0) (f : NumbersFit old) where
  count_same : get_or new 1 0 ≡ get_or old 1 0
  count_same = same 1 (omega arith) (omega arith)

  numbers_fit : NumbersFit new
  numbers_fit = record {
    places = rw count_same f.places;
    low = λ i h. let l : i < get_or old 1 0 = rw count_same at h in rw (same (2 + i) (omega arith) (omega (arith, f.places))) (f.low i l);
  }

  numbers_same : qubits_in new ≡ qubits_in old
  unfolding qubits_in
  numbers_same =
      let n = get_or old 1 0 in
      let a : length (take n (drop 2 new)) ≡ n = length-take-le n (drop 2 new) (omega (arith, length-drop 2 new, f.places)) in
      let b : length (take n (drop 2 old)) ≡ n = length-take-le n (drop 2 old) (omega (arith, length-drop 2 old, f.places)) in
      ap (λ (k : ℕ). take k (drop 2 new)) count_same
      ∙ ext_get_or 0 (take n (drop 2 new)) (take n (drop 2 old)) (a ∙ sym b) λ i h.
      let l : i < n = rw a at h in
      get_or-take n (drop 2 new) i 0 l ∙ get_or-drop 2 new i 0 ∙ same (2 + i) (omega arith) (omega (arith, f.places))
      ∙ sym (get_or-take n (drop 2 old) i 0 l ∙ get_or-drop 2 old i 0)

-- the numbers are put into the slot first; then the Paulis, which makes second; then their number
pub kept_slot : {joint : List ℕ} {words : List (List ℕ)} {gs : List Pauli} → Keepable joint words gs
    → (first second own : List ℕ) → length first ≡ 770 → NumbersFit first → qubits_in first ≡ own → own ≡ support_of gs
    → list_in second 130 (length words) ≡ map (λ p. normal (moved_pauli joint own p)) (paulis_in words)
    → Outside 130 (5 * length words) first second → SlotHas (set second 0 (length words)) gs
kept_slot {joint} {words} {gs} k first second own long f are supports list o =
    let n = length words in
    let new = set second 0 n in
    let count : get_or new 0 0 ≡ n = get_or-set_same second 0 n 0 (omega (arith, long, o.size)) in
    let size : length new ≡ length first = length-set second 0 n ∙ o.size in
    let same : (i : ℕ) → 0 < i → i < 130 → get_or new i 0 ≡ get_or first i 0 =
    λ i l h. get_or-set_other second 0 i n 0 (λ e. omega arith) ∙ o.before i h in
    record {
      few = rw count k.few;
      numbers = numbers_fit first new long size same f;
      support = numbers_same first new long size same f ∙ are ∙ supports;
      list =
          ap (list_in new 130) count ∙ list_kept_after (set_outside second 0 n) 130 n (omega arith) ∙ list
          ∙ ap (λ (qs : List ℕ). map (λ p. normal (moved_pauli joint qs p)) (paulis_in words)) supports ∙ kept_moved k;
      values = k.values;
    }

-- ---- the list in a slot, lent

-- a Pauli over places, read back
read_back : (own : List ℕ) → Rising 0 own → (p : Pauli) → PauliOn own p → pauli_of (sparse_over own (condensed own p)) ≡ normal p
unfolding pauli_of by_value sparse_of normal
read_back own rises p on = ap pauli_of (sparse_over_lem own rises p on) ∙ pauli_path refl (set_members p.x) (set_members p.z)

module _ {s : List ℕ} {gs : List Pauli} (h : SlotHas s gs) (own : List ℕ) (are : own ≡ qubits_in s) (words : List (List ℕ))
    (list : paulis_in words ≡ list_in s 130 (get_or s 0 0)) where
  own_is : own ≡ support_of gs
  own_is = are ∙ h.support

  own_few : length own ≤ 128
  unfolding qubits_in
  own_few = rw are (omega (arith, length-take (get_or s 1 0) (drop 2 s), h.numbers.places))

  own_rises : Rising 0 own
  own_rises = rw own_is (support_rises gs)

  own_on : All (PauliOn own) gs
  own_on = subst (λ (qs : List ℕ). All (PauliOn qs) gs) (sym own_is) (support_on gs)

  own_list : paulis_in words ≡ map (condensed own) gs
  own_list = list ∙ h.list ∙ ap (λ (qs : List ℕ). map (condensed qs) gs) (sym own_is)

  pub lent_listed : paulis (spread own words) ≡ gs
  unfolding paulis spread
  lent_listed =
      ap (λ (ps : List Pauli). map pauli_of (map (sparse_over own) ps)) own_list
      ∙ ap (map pauli_of) (map-map (sparse_over own) (condensed own) gs)
      ∙ map-map pauli_of (λ p. sparse_over own (condensed own p)) gs
      ∙ map_same (λ p. pauli_of (sparse_over own (condensed own p))) normal gs (all_map (read_back own own_rises) gs own_on) ∙ h.values

  pub lent_written : roll_over own (paulis_in words) ≡ list_bytes gs
  lent_written = ap (roll_over own) own_list ∙ written_over own own_rises gs own_on

  pub lent_kept : length words ≡ get_or s 0 0 → KeptOver own words
  unfolding paulis OnPlaces
  lent_kept count = record {
    few = rw count h.few;
    places = own_few;
    on = all_mem (λ p. (p.x < 2 ^ length own) × (p.z < 2 ^ length own)) (paulis_in words) (rw own_list (condensed_on own gs));
    support_is = support_of_lem (spread own words) ∙ ap support_of lent_listed ∙ sym own_is;
  }
