-- Laws of Paulis moved from the places of one list of qubits to those of another.
use Rattle.std.proofs.Common.{◌≡◌, ℕ, zero, suc, ◌+◌, ◌*◌, ◌%◌, ◌^◌, ◌<◌, ◌≤◌, List, [], ◌∷◌, length, get_or, sym, ap, ◌∙◌, subst, arith, eq-eqb, ne_eqb}
use mathlib.Core.List.Memᴰ.{head as here}
use mathlib.Core.List.Memᴰ.{tail as there}
use mathlib.Core.List.{Memᴰ as Mem}
use lib.Bits.{bit_or, or_zero_r}
use Rattle.binar.proofs.row.Bits.{ext}
use Rattle.binar.proofs.Lists.{all_get}
use Rattle.pauli.specs.Known.{place_of, lower}
use Rattle.pauli.specs.Support.{All, Rising}
use Rattle.pauli.specs.Sets.{set_of, members}
use Rattle.pauli.proofs.support.Lists.{all_in, in_get_or}
use Rattle.pauli.proofs.support.SupportLaws.{rising_least, insert_known}
use Rattle.pauli.proofs.support.Walk.{lower_stop, lower_go, lower_next}
use Rattle.pauli.specs.declared.signed.Pauli.{Pauli as Held}
use Rattle.pauli.specs.Pauli.{Pauli, I, normal}
use Rattle.pauli.specs.Signed.{held, pauli_in, list_in, paulis_in, stored}
use Rattle.pauli.specs.Writing.{OnPlaces}
use Rattle.pauli.proofs.signed.Algebra.{pauli_path}
use Rattle.pauli.proofs.condense.CondenseLaws.{lower_at}
use Rattle.pauli.proofs.condense.MoreBits.{bit_or_lem}
use Rattle.pauli.proofs.condense.Sets.{set_members, members_rise, members_only}
use Rattle.pauli.proofs.signed.SignedLaws.{length_paulis, pauli_at, stored_value}
use Rattle.pauli.proofs.write.Writers.{length_list}
use Rattle.pauli_theory.specs.Inner.ModuloPlaces.{moved_set, moved_pauli}
use Rattle.pauli_theory.proofs.IndexSets.{bit_below}
use Rattle.pauli_theory.proofs.ModuloPlaces.{moved_none, moved_or, moved_unit}
use Rattle.pauli_group.specs.Inner.Area.{Outside}
use Rattle.pauli_group.proofs.list.ListLaws.{list_at_lem, on_places_at, pauli_kept}
use Rattle.pauli_group.specs.Inner.Moved.{Movable, MovablePauli}

-- ---- places in rising lists

rising_at : (least : ℕ) (l : List ℕ) → Rising least l → (i k : ℕ) → i < k → k < length l → get_or l i 0 < get_or l k 0
rising_at least [] h i k lt u = absurd (omega arith)
rising_at least (r ∷ rs) h i zero lt u = absurd (omega arith)
rising_at least (r ∷ rs) h zero (suc k) lt u = rising_least (suc r) rs h.1 (in_get_or rs k 0 (omega arith))
rising_at least (r ∷ rs) h (suc i) (suc k) lt u = rising_at (suc r) rs h.1 i k (omega arith) (omega arith)

lower_place : (least : ℕ) (qs : List ℕ) → Rising least qs → (q : ℕ) → Mem q qs → lower q qs ≡ place_of qs q
unfolding place_of
lower_place least [] h q m = elim m [ ]
lower_place least (r ∷ rs) h q (here e) = lower_stop q r rs (omega arith) ∙ sym (rw (eq-eqb r q (sym e)))
lower_place least (r ∷ rs) h q (there m) =
    let past : suc r ≤ q = rising_least (suc r) rs h.1 m in
    lower_go q r rs past ∙ rw (ne_eqb r q (λ e. omega arith)) (ap suc (lower_place (suc r) rs h.1 q m))

pub or_assoc : (a b c : ℕ) → bit_or (bit_or a b) c ≡ bit_or a (bit_or b c)
or_assoc a b c = ext (bit_or (bit_or a b) c) (bit_or a (bit_or b c)) λ k. simp bit_or_lem (omega arith)

-- ---- a set moved, place by place

-- of the set v the places `left` are left to move, rising; each one's qubit is in qs, at the place `from` or after it
pub record Moving (own qs : List ℕ) (v : ℕ) (left : List ℕ) (from moved : ℕ) : Type 0 where
  pub least : ℕ
  pub rises : Rising least left
  pub inside : All (λ i. (i < length own) × Mem (get_or own i 0) qs) left
  pub ahead : (k : ℕ) → least ≤ k → k < length own → from ≤ lower (get_or own k 0) qs
  pub value : moved_set own qs v ≡ bit_or moved (moved_set own qs (set_of left))

pub moving_start : (own qs : List ℕ) (v moved : ℕ) → v < 2 ^ length own → Movable own qs v → moved ≡ 0 → Moving own qs v (members v) 0 moved
moving_start own qs v moved small m e = record {
  least = 0;
  rises = members_rise v;
  inside = all_in (λ i. (i < length own) × Mem (get_or own i 0) qs) (members v) λ i h.
      let one = members_only v i h in
      let l = bit_below (length own) v small i one in
      (l, m.inside i l one);
  ahead = λ k _ _. omega arith;
  value = rw (e, set_members v);
}

module _ {own qs : List ℕ} {v : ℕ} {left : List ℕ} {from moved : ℕ} (m : Movable own qs v) (r : Moving own qs v left from moved) where
  pub moving_end : left ≡ [] → moved ≡ moved_set own qs v
  unfolding set_of
  moving_end e =
      sym (r.value ∙ ap (λ (is : List ℕ). bit_or moved (moved_set own qs (set_of is))) e ∙ ap (bit_or moved) (moved_none own m.own_rises qs) ∙ or_zero_r moved)

  -- the next is the place i
  module _ (i : ℕ) (more : List ℕ) (e : left ≡ i ∷ more) where
    next : Moving own qs v (i ∷ more) from moved
    next = subst (λ (is : List ℕ). Moving own qs v is from moved) e r

    pub moving_in : i < length own
    moving_in = next.inside.0.0

    -- of the qubit q
    module _ (few : length qs ≤ 128) (q : ℕ) (met : q ≡ get_or own i 0) where
      inside : Mem q qs
      inside = rw met next.inside.0.1

      pub moving_place : lower q qs < 128
      moving_place = omega (arith, (lower_at 0 qs m.rises q inside).0)

      further : (k : ℕ) → i < k → k < length own → lower q qs ≤ lower (get_or own k 0) qs
      further k lt u =
          let above : q < get_or own k 0 = rw met (rising_at 0 own m.own_rises i k lt u) in
          omega (arith, rw (insert_known 0 q qs m.rises inside) at (lower_next q (get_or own k 0) qs above))

      pub moving_next : (set place : ℕ) → place ≡ lower q qs → set ≡ bit_or moved (2 ^ place) → Moving own qs v more place set
      unfolding set_of
      moving_next set place a b =
          let there : place ≡ place_of qs (get_or own i 0) = a ∙ lower_place 0 qs m.rises q inside ∙ ap (place_of qs) met in
          let one = moved_unit own m.own_rises qs m.rises i moving_in next.inside.0.1 ∙ ap (2 ^◌) (sym there) in
          let rest = moved_set own qs (set_of more) in
          record {
            least = suc i;
            rises = next.rises.1;
            inside = next.inside.1;
            ahead = λ k lt u. rw a (further k lt u);
            value =
                next.value ∙ ap (bit_or moved) (moved_or own m.own_rises qs (2 ^ i) (set_of more) ∙ ap (λ (w : ℕ). bit_or w rest) one)
                ∙ sym (or_assoc moved (2 ^ place) rest) ∙ ap (λ (w : ℕ). bit_or w rest) (sym b);
          }

-- ---- a Pauli loaded and moved

module _ (p : Held) (q : Pauli) (e : normal (held p) ≡ normal q) where
  same_x : (held p).x ≡ q.x
  unfolding normal
  same_x = ap (λ (r : Pauli). r.x) e

  same_z : (held p).z ≡ q.z
  unfolding normal
  same_z = ap (λ (r : Pauli). r.z) e

  same_value : (held p).e % 4 ≡ q.e % 4
  unfolding normal
  same_value = ap (λ (r : Pauli). r.e) e

  pub loaded_movable : (own qs : List ℕ) (count : ℕ) → (q.x < 2 ^ count) × (q.z < 2 ^ count) → MovablePauli own qs q
      → ((held p).x < 2 ^ count) × ((held p).z < 2 ^ count) × MovablePauli own qs (held p)
  loaded_movable own qs count on m = rw (same_x, same_z) (on.0, on.1, m)

  pub moved_value : (own qs : List ℕ) (r : Held) → held r ≡ moved_pauli own qs (held p) → normal (held r) ≡ normal (moved_pauli own qs q)
  unfolding normal moved_pauli
  moved_value own qs r g = ap normal g ∙ pauli_path same_value (ap (moved_set own qs) same_x) (ap (moved_set own qs) same_z)

-- Pauli i of a list in words
module _ (words : List (List ℕ)) (i : ℕ) (h : i < length words) where
  pub words_movable : (own qs : List ℕ) → OnPlaces (length own) (paulis_in words) → All (MovablePauli own qs) (paulis_in words)
      → (p : Held) → held p ≡ stored (pauli_in (get_or words i []) 0)
      → ((held p).x < 2 ^ length own) × ((held p).z < 2 ^ length own) × MovablePauli own qs (held p)
  unfolding OnPlaces
  words_movable own qs on m p e =
      let q = pauli_in (get_or words i []) 0 in
      let at = pauli_at words i [] h in
      let size : i < length (paulis_in words) = rw (length_paulis words) h in
      loaded_movable p q (stored_value q e) own qs (length own)
      (subst (λ (r : Pauli). (r.x < 2 ^ length own) × (r.z < 2 ^ length own)) at
      (all_get (λ r. (r.x < 2 ^ length own) × (r.z < 2 ^ length own)) (paulis_in words) I on i size))
      (subst (MovablePauli own qs) at (all_get (MovablePauli own qs) (paulis_in words) I m i size))

  pub words_value : (own qs : List ℕ) (p r : Held) → held p ≡ stored (pauli_in (get_or words i []) 0) → held r ≡ moved_pauli own qs (held p)
      → normal (held r) ≡ normal (moved_pauli own qs (get_or (paulis_in words) i I))
  words_value own qs p r e m =
      let q = pauli_in (get_or words i []) 0 in
      moved_value p q (stored_value q e) own qs r m ∙ ap (λ (s : Pauli). normal (moved_pauli own qs s)) (sym (pauli_at words i [] h))

-- Pauli i of the n from word base on is still as it was at first, since only words behind them have changed
module _ (first w : List ℕ) (base to n k i : ℕ) (o : Outside to k first w) (before : base + 5 * n ≤ to) (h : i < n) where
  pub kept_at : pauli_in w (base + 5 * i) ≡ get_or (list_in first base n) i I
  kept_at = pauli_kept o (base + 5 * i) (omega arith) ∙ sym (list_at_lem first base n i I h)

  pub kept_movable : (own qs : List ℕ) (count : ℕ) → OnPlaces count (list_in first base n) → All (MovablePauli own qs) (list_in first base n)
      → (p : Held) → normal (held p) ≡ normal (pauli_in w (base + 5 * i))
      → ((held p).x < 2 ^ count) × ((held p).z < 2 ^ count) × MovablePauli own qs (held p)
  kept_movable own qs count on m p e =
      let q = get_or (list_in first base n) i I in
      let at : q ≡ pauli_in first (base + 5 * i) = list_at_lem first base n i I h in
      loaded_movable p q (e ∙ ap normal kept_at) own qs count (rw at (on_places_at count first base n i on h))
      (all_get (MovablePauli own qs) (list_in first base n) I m i (rw (length_list first base n) h))
