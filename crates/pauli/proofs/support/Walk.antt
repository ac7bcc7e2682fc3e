-- The known qubit numbers: the walk to a number's place, and what is known once it is put in.
use mathlib.Core.List.{append-nil}
use Rattle.std.proofs.Common.{◌≡◌, ℕ, zero, suc, ◌+◌, ◌-◌, ◌<◌, ◌≤◌, Bool, true, false, cond, not, eqb, ltb, List, [], ◌∷◌, ◌++◌, length, get_or, take, drop, set, sym, refl, ap, ◌∙◌, ap₂, append_assoc, suc-le-suc, add-one, arith, length-append, length-drop, length-take-le, get_or-take, take_at, take-take, le-ltb, lt-ltb, drop-cons, drop_of_length-le, add-zero, take-append-drop}
use native.Mathlib.Decide.{dec_lt}
use Rattle.std.proofs.Common.{Option, Some, None}
use Rattle.std.specs.List.{position_or_len}
use Rattle.std.specs.Option.{unwrap_or}
use lib.ListN.{length-map}
use lib.Seq.{set_split}
use Rattle.std.proofs.lemmas.List.{drop-take, drop_at, get_or-map}
use Rattle.std.specs.List.{copy_within}
use Rattle.pauli.specs.Bytes.{u32_at, u32s_in}
use Rattle.pauli.specs.Support.{most_qubits, insert, insert_all, Rising}
use Rattle.pauli.specs.Known.{place_of, first_place, lower, Gathered}
use Rattle.pauli.proofs.support.Lists.{in_get_or}
use Rattle.pauli.proofs.support.SupportLaws.{by_order, insert_below, insert_same, insert_above, insert_length, insert_all_keeps, rising_least, insert_rises}

-- ---- the first place that passes a test

module _ (test : ℕ → Bool) where
  first_cases : (r : ℕ) (rs : List ℕ) (P : ℕ → Type 0) → (test r ≡ true → P 0) → (test r ≡ false → P (suc (first_place test rs))) → P (first_place test (r ∷ rs))
  unfolding first_place
  first_cases r rs P hit miss = go (test r) refl
    where
      go : (t : Bool) → test r ≡ t → P (cond t 0 (suc (first_place test rs)))
      go true e = hit e
      go false e = miss e

  pub first_le : (l : List ℕ) → first_place test l ≤ length l
  unfolding first_place
  first_le [] = omega arith
  first_le (r ∷ rs) = first_cases r rs (λ n. n ≤ suc (length rs)) (λ _. omega arith) (λ _. suc-le-suc (first_le rs))

  first_or_len : (l : List ℕ) → position_or_len test l ≡ first_place test l
  unfolding first_place
  first_or_len [] = refl
  first_or_len (r ∷ rs) = go (test r) (first_or_len rs)
    where
      go : (t : Bool) → position_or_len test rs ≡ first_place test rs → cond (not t) (1 + position_or_len test rs) 0 ≡ cond t 0 (suc (first_place test rs))
      go true e = refl
      go false e = omega (arith, e)

  -- what a search of the list tells, or else the list's length
  pub first_found : (l : List ℕ) (r : Option ℕ) → r ≡ cond (ltb (position_or_len test l) (length l)) (Some (position_or_len test l)) None
      → unwrap_or r (length l) ≡ first_place test l
  first_found l r e =
      let n = first_place test l in
      let found : r ≡ cond (ltb n (length l)) (Some n) None = rw (first_or_len l) at e in
      elim (dec_lt n (length l)) [
        | yes h ↦ ap (λ (o : Option ℕ). unwrap_or o (length l)) (rw (lt-ltb n (length l) h) at found)
        | no h ↦ ap (λ (o : Option ℕ). unwrap_or o (length l)) (rw (le-ltb n (length l) (omega arith)) at found) ∙ omega (arith, first_le l)
      ]

  -- the first k, none of which passes, may be left out
  pub first_rest : (k : ℕ) (l : List ℕ) → k ≤ first_place test l → k + first_place test (drop k l) ≡ first_place test l
  first_rest zero l h = omega arith
  first_rest (suc k) [] h = absurd (omega (arith, first_le []))
  first_rest (suc k) (r ∷ rs) h =
      first_cases r rs (λ n. suc k ≤ n → suc k + first_place test (drop k rs) ≡ n) (λ _ j. absurd (omega arith)) (λ _ j. omega (arith, first_rest k rs (omega arith))) h

pub place_first : (l : List ℕ) (q : ℕ) → place_of l q ≡ first_place (λ r. eqb r q) l
unfolding place_of first_place
place_first [] q = refl
place_first (r ∷ rs) q = ap (λ n. cond (eqb r q) 0 (suc n)) (place_first rs q)

module _ (l : List ℕ) (q : ℕ) where
  pub lower_le : lower q l ≤ length l
  unfolding lower
  lower_le = first_le (λ r. not (ltb r q)) l

-- ---- q put in at a place

-- q put into a list at place i
unfoldable put_at : ℕ → ℕ → List ℕ → List ℕ
put_at i q l = take i l ++ q ∷ drop i l

-- the slice l, of which n numbers are known, once q is put in at place i of them
unfoldable inserted_at : List ℕ → ℕ → ℕ → ℕ → List ℕ
inserted_at l n i q = put_at i q (take n l) ++ drop (suc n) l

-- the numbers from place i on, of n that are known, are moved one place up, and q is put there
module _ (l : List ℕ) (n i q : ℕ) (room : n < length l) (h : i ≤ n) where
  abbrev moved : List ℕ
  moved = take (n - i) (drop i l)

  abbrev after : List ℕ
  after = moved ++ drop (i + 1 + (n - i)) l

  known_front : take i (take n l) ++ (q ∷ drop i (take n l)) ≡ take i l ++ (q ∷ moved)
  known_front =
      let e : n ≡ i + (n - i) = omega arith in
      ap₂ (λ (a : List ℕ) (b : List ℕ). a ++ (q ∷ b)) (take-take i n l h) (ap (λ (k : ℕ). drop i (take k l)) e ∙ drop-take i (n - i) l)

  moved_put : set (copy_within l i n (i + 1)) i q ≡ inserted_at l n i q
  unfolding inserted_at put_at
  moved_put =
      let front = take (i + 1) l in
      let all = front ++ after in
      let size : length front ≡ suc i = length-take-le (i + 1) l (omega arith) ∙ add-one i in
      let before : take i all ≡ take i l = sym (take-take i (suc i) all (omega arith)) ∙ ap (take i) (take_at front after (suc i) size) ∙ take-take i (i + 1) l (omega arith) in
      let last : i + 1 + (n - i) ≡ suc n = omega arith in
      ap (λ (x : List ℕ). set x i q) (append_assoc front moved (drop (i + 1 + (n - i)) l)) ∙ set_split all i q (omega (arith, length-append front after, size)) ∙ ap₂ (λ (a : List ℕ) (b : List ℕ). a ++ (q ∷ b)) before (drop_at front after (suc i) size)
      ∙ sym (append_assoc (take i l) (q ∷ moved) (drop (i + 1 + (n - i)) l)) ∙ ap₂ (λ (a : List ℕ) (k : ℕ). a ++ drop k l) (sym known_front) last

length_put : (i q : ℕ) (l : List ℕ) → i ≤ length l → length (put_at i q l) ≡ suc (length l)
unfolding put_at
length_put i q l h = rw length-append (omega (arith, length-take-le i l h, length-drop i l))

-- ---- insert by the place

lower_cases : (q r : ℕ) (rs : List ℕ) (P : ℕ → Type 0) → (q ≤ r → P 0) → (r < q → P (suc (lower q rs))) → P (lower q (r ∷ rs))
unfolding lower first_place
lower_cases q r rs P stop go = by_order q r (λ h. rw (le-ltb r q (omega arith)) (stop (omega arith))) (λ e. rw (le-ltb r q (omega arith)) (stop (omega arith))) (λ h. rw (lt-ltb r q h) (go h))

pub lower_stop : (q r : ℕ) (rs : List ℕ) → q ≤ r → lower q (r ∷ rs) ≡ 0
lower_stop q r rs h = lower_cases q r rs (λ n. n ≡ 0) (λ _. refl) (λ k. absurd (omega arith))

pub lower_go : (q r : ℕ) (rs : List ℕ) → r < q → lower q (r ∷ rs) ≡ suc (lower q rs)
lower_go q r rs h = lower_cases q r rs (λ n. n ≡ suc (lower q rs)) (λ k. absurd (omega arith)) (λ _. refl)

insert_nil : (q : ℕ) → insert q [] ≡ q ∷ []
unfolding insert
insert_nil q = refl

lower_nil : (q : ℕ) → lower q [] ≡ 0
unfolding lower first_place
lower_nil q = refl

-- in a rising list a number's place is where it stands
pub lower_here : (least q : ℕ) (l : List ℕ) → Rising least l → (i : ℕ) → i < length l → get_or l i 0 ≡ q → i ≡ lower q l
lower_here least q [] h i k e = absurd (omega arith)
lower_here least q (r ∷ rs) h zero k e = sym (lower_stop q r rs (omega arith))
lower_here least q (r ∷ rs) h (suc i) k e =
    let above : r < q = omega (arith, rising_least (suc r) rs h.1 (in_get_or rs i 0 (omega arith))) in
    rw (lower_go q r rs above) (ap suc (lower_here (suc r) q rs h.1 i (omega arith) e))

pub lower_known : (l : List ℕ) (q : ℕ) → Rising 0 l → (i : ℕ) → i < length l → get_or l i 0 ≡ q → i ≡ lower q l
lower_known l q h i k e = lower_here 0 q l h i k e

-- a number that stands at its place changes nothing
pub insert_there : (q : ℕ) (l : List ℕ) → lower q l < length l → get_or l (lower q l) 0 ≡ q → insert q l ≡ l
insert_there q [] h e = absurd (omega arith)
insert_there q (r ∷ rs) h e =
    by_order q r
    (λ below. absurd (omega (arith, ap (λ n. get_or (r ∷ rs) n 0) (lower_stop q r rs (omega arith)))))
    (λ same. insert_same q r rs same)
    (λ above. let p = lower_go q r rs above in
    insert_above q r rs above ∙ ap (λ m. r ∷ m) (insert_there q rs (omega (arith, rw p at h)) (rw p at e)))

-- another is put in there
insert_put : (q : ℕ) (l : List ℕ) → (lower q l < length l → get_or l (lower q l) 0 ≡ q → ⊥) → insert q l ≡ put_at (lower q l) q l
unfolding insert put_at
insert_put q [] n = rw (lower_nil q)
insert_put q (r ∷ rs) n =
    by_order q r
    (λ below. rw (lower_stop q r rs (omega arith)) (insert_below q r rs below))
    (λ same. let p = lower_stop q r rs (omega arith) in absurd (n (rw p (omega arith)) (rw p (sym same))))
    (λ above. let p = lower_go q r rs above in
    rw p (insert_above q r rs above ∙ ap (λ m. r ∷ m) (insert_put q rs (λ h e. n (rw p (suc-le-suc h)) (rw p e)))))

-- the place past q is not past the place of a higher number
pub lower_next : (q s : ℕ) (l : List ℕ) → q < s → suc (lower q l) ≤ lower s (insert q l)
lower_next q s [] h = rw (lower_nil q, insert_nil q, lower_go s q [] h) (omega arith)
lower_next q s (r ∷ rs) h =
    by_order q r
    (λ below. rw (insert_below q r rs below, lower_stop q r rs (omega arith), lower_go s q (r ∷ rs) h) (omega arith))
    (λ same. rw (insert_same q r rs same, lower_stop q r rs (omega arith), lower_go s r rs (omega arith)) (omega arith))
    (λ above. rw (insert_above q r rs above, lower_go q r rs above, lower_go s r (insert q rs) (omega arith)) (suc-le-suc (lower_next q s rs h)))

-- ---- one number noted

-- one that is known changes nothing
pub noted_known : (l : List ℕ) (q i : ℕ) → i ≡ lower q l → i < length l → get_or l i 0 ≡ q → l ≡ insert q l
noted_known l q i e h k = sym (insert_there q l (rw (← e) h) (rw (← e) k))

-- another is put into the slice l, of which n numbers are known
module _ (l : List ℕ) (n q : ℕ) (room : n < length l) where
  noted_new : (i : ℕ) → i ≡ lower q (take n l) → (i < n → get_or l i 0 ≡ q → ⊥) → take (n + 1) (inserted_at l n i q) ≡ insert q (take n l)
  unfolding inserted_at
  noted_new i e k =
      let size : length (take n l) ≡ n = length-take-le n l (omega arith) in
      let put : insert q (take n l) ≡ put_at i q (take n l) =
      rw e (insert_put q (take n l) (λ b g. k (omega (arith, size)) (sym (get_or-take n l i 0 (omega (arith, size))) ∙ (rw (← e) at g)))) in
      let long : length (put_at i q (take n l)) ≡ suc n = length_put i q (take n l) (omega (arith, size, e, lower_le (take n l) q)) ∙ ap suc size in
      rw (add-one n) (take_at (put_at i q (take n l)) (drop (suc n) l) (suc n) long ∙ sym put)

  -- the numbers from its place on are moved one place up, and it is put there
  pub noted_moved : (i : ℕ) → i ≡ lower q (take n l) → (i < n → get_or l i 0 ≡ q → ⊥) → (m : List ℕ) → m ≡ copy_within l i n (i + 1) → take (n + 1) (set m i q) ≡ insert q (take n l)
  noted_moved i e k m c =
      let size : length (take n l) ≡ n = length-take-le n l (omega arith) in
      ap (λ (x : List ℕ). take (n + 1) (set x i q)) c ∙ ap (take (n + 1)) (moved_put l n i q room (omega (arith, size, e, lower_le (take n l) q))) ∙ noted_new i e k

  -- one above all of them is put behind them, and none is moved
  none_moved : l ≡ copy_within l n n (n + 1)
  none_moved =
      let none : n - n ≡ 0 = omega arith in
      rw (none, add-zero (n + 1)) (sym (ap (◌++ drop (n + 1) l) (append-nil (take (n + 1) l)) ∙ take-append-drop (n + 1) l))

  pub noted_last : n ≡ lower q (take n l) → take (n + 1) (set l n q) ≡ insert q (take n l)
  noted_last e = noted_moved n e (λ h. absurd (omega arith)) l none_moved

-- ---- numbers noted in turn

-- the numbers from number i on
unfoldable pub numbers_from : List (List ℕ) → ℕ → List ℕ
numbers_from ls i = u32s_in (drop i ls)

module _ (ls : List (List ℕ)) where
  pub numbers_start : u32s_in ls ≡ numbers_from ls 0
  unfolding numbers_from
  numbers_start = refl

  pub numbers_next : (i : ℕ) → i < length ls → numbers_from ls i ≡ u32_at (get_or ls i []) 0 ∷ numbers_from ls (i + 1)
  unfolding numbers_from u32s_in
  numbers_next i h = rw (drop-cons ls i [] h, add-one i) refl

  pub numbers_end : (i : ℕ) → length ls ≤ i → numbers_from ls i ≡ []
  unfolding numbers_from u32s_in
  numbers_end i h = ap u32s_in (drop_of_length-le ls h)

pub numbers_length : (ls : List (List ℕ)) → length (u32s_in ls) ≡ length ls
unfolding u32s_in
numbers_length ls = length-map ls (λ l. u32_at l 0)

pub number_at : (ls : List (List ℕ)) (i : ℕ) → i < length ls → get_or (u32s_in ls) i 0 ≡ u32_at (get_or ls i []) 0
unfolding u32s_in
number_at ls i h = get_or-map (λ l. u32_at l 0) ls i [] 0 h

pub insert_all_longer : (qs known : List ℕ) → length known ≤ length (insert_all qs known)
unfolding insert_all
insert_all_longer [] known = omega arith
insert_all_longer (q ∷ qs) known = omega (arith, insert_all_longer qs (insert q known), insert_length q known)

-- a walk may start at `from` for a number above the last, and at the front for every number
pub walk_from : (l : List ℕ) (last from : ℕ) → ((s : ℕ) → last < s → from ≤ lower s l) → (q : ℕ) → cond (ltb last q) from 0 ≤ lower q l
walk_from l last from walk q = elim (dec_lt last q) [ yes h ↦ rw (lt-ltb last q h) (walk q h) | no h ↦ rw (le-ltb last q (omega arith)) (omega arith) ]

-- i of the numbers are noted, and the walk for a number above `last` may start at `from`
module _ (ns old : List ℕ) where
  abbrev all : List ℕ
  all = insert_all ns old

  pub record Walking (known : List ℕ) (from last i : ℕ) : Type 0 where
    pub done : i ≤ length ns
    pub few : length known ≤ suc most_qubits
    pub left : all ≡ insert_all (drop i ns) known
    pub walk : (s : ℕ) → last < s → from ≤ lower s known
    pub rises : Rising 0 known

  pub walking_start : length old ≤ suc most_qubits → Rising 0 old → Walking old 0 0 0
  walking_start h rises = record {
    done = omega arith;
    few = h;
    left = refl;
    walk = λ s k. omega arith;
    rises = rises;
  }

  module _ (known : List ℕ) (from last i : ℕ) (w : Walking known from last i) where
    pub walking_next : i < length ns → (q : ℕ) → q ≡ get_or ns i 0 → (new : List ℕ) (p : ℕ) → length known ≤ most_qubits
        → new ≡ insert q known → p ≡ suc (lower q known) → Walking new p q (i + 1)
    unfolding insert_all
    walking_next h q e new p few t next = record {
      done = omega arith;
      few = rw t (omega (arith, few, (insert_length q known).1));
      left = w.left ∙ rw (drop-cons ns i 0 h, ← e, t, add-one i) refl;
      walk = λ s k. rw (next, t) (lower_next q s known k);
      rises = rw t (insert_rises 0 q known (omega arith) w.rises);
    }

    pub walking_full : most_qubits < length known → Gathered all known
    walking_full h =
        let more = insert_all_longer (drop i ns) known in
        let long : suc most_qubits ≤ length all = rw w.left (omega (arith, more)) in
        record { count = omega (arith, w.few, long); known = λ k. absurd (omega arith); among = λ q. rw w.left (insert_all_keeps (drop i ns) known q); rises = w.rises }

    pub walking_end : length ns ≤ i → Gathered all known
    unfolding insert_all
    walking_end h =
        let e : all ≡ known = w.left ∙ rw (drop_of_length-le ns h) refl in
        record { count = rw e (omega (arith, w.few)); known = λ _. sym e; among = λ q. rw e (λ h. h); rises = w.rises }
