-- Marks in bytes: what is put at the place of one, and all of them behind one another.
use Rattle.std.proofs.Common.{◌≡◌, ℕ, zero, suc, ◌+◌, ◌-◌, ◌*◌, ◌<◌, ◌≤◌, max, List, [], ◌∷◌, ◌++◌, length, take, drop, set, Bool, true, false, sym, refl, ap, ap₂, ◌∙◌, append_assoc, add_assoc, arith, length-append, length-drop, length-take-le, take-append-drop, take_at, drop-drop, take-take}
use Rattle.std.proofs.lemmas.List.{drop-take, drop-append-le}
use Rattle.std.specs.Prelude.{cond, bytes_eq, Some}
use Rattle.std.specs.List.{copy_within}
use lib.Seq.{take-add, drop-append-add, take-append-le}
use Rattle.pauli.specs.Writing.{put_bytes}
use Rattle.pauli.proofs.write.Puts.{put_byte, put_nothing, put_append, length_put, put_drop}
use Rattle.window.specs.Inner.{place}
use Rattle.window.specs.Layout.{width_at}
use Rattle.window.specs.MarkHistory.{Named, kept_at}
use Rattle.window.specs.MarkLayout.{array_bytes, round_at, held_at, marks_at, mark_bytes, state_bytes, held_in, marks_in, marks_from, mark_list, with_marks, state, restored}

-- ---- bytes that are put

module _ (l : List ℕ) where
  -- n bytes copied
  pub copied : (i j n to : ℕ) → j ≡ i + n → i + n ≤ length l → copy_within l i j to ≡ put_bytes l to (take n (drop i l))
  unfolding put_bytes
  copied i j n to e h =
      let k : j - i ≡ n = omega arith in
      let size : length (take n (drop i l)) ≡ n = length-take-le n (drop i l) (rw length-drop (omega arith)) in
      ap (λ (m : ℕ). (take to l ++ take m (drop i l)) ++ drop (to + m) l) k
      ∙ append_assoc (take to l) (take n (drop i l)) (drop (to + n) l) ∙ ap (λ (m : ℕ). take to l ++ (take n (drop i l) ++ drop (to + m) l)) (sym size)

  pub set_put : (i a : ℕ) → i < length l → set l i a ≡ put_bytes l i (a ∷ [])
  set_put i a h = sym (put_byte l i a [] h ∙ put_nothing (set l i a) (i + 1))

  set_one : (i a : ℕ) → i < length l → set l i a ≡ take i l ++ (a ∷ drop (i + 1) l)
  unfolding put_bytes
  set_one i a h = set_put i a h

  -- what stands before them, and behind them
  pub put_below : (i k : ℕ) (bs : List ℕ) → k ≤ i → i ≤ length l → take k (put_bytes l i bs) ≡ take k l
  unfolding put_bytes
  put_below i k bs h r = take-append-le k (take i l) (bs ++ drop (i + length bs) l) (rw (length-take-le i l r) h) ∙ take-take k i l h

  pub part_below : (i k n : ℕ) (bs : List ℕ) → k + n ≤ i → i ≤ length l → take n (drop k (put_bytes l i bs)) ≡ take n (drop k l)
  part_below i k n bs h r = sym (drop-take k n (put_bytes l i bs)) ∙ ap (drop k) (put_below i (k + n) bs h r) ∙ drop-take k n l

  pub put_behind : (i k : ℕ) (bs : List ℕ) → i + length bs ≤ k → i + length bs ≤ length l → drop k (put_bytes l i bs) ≡ drop k l
  put_behind i k bs h r =
      let at : k ≡ i + length bs + (k - (i + length bs)) = omega arith in
      ap (λ (j : ℕ). drop j (put_bytes l i bs)) at ∙ put_drop l i bs r (k - (i + length bs)) ∙ ap (λ (j : ℕ). drop j l) (sym at)

  drop_put : (d k : ℕ) (bs : List ℕ) → d + k ≤ length l → drop d (put_bytes l (d + k) bs) ≡ put_bytes (drop d l) k bs
  unfolding put_bytes
  drop_put d k bs h =
      drop-append-le d (take (d + k) l) (bs ++ drop (d + k + length bs) l) (rw (length-take-le (d + k) l h) (omega arith))
      ∙ ap₂ (λ (x : List ℕ) (y : List ℕ). x ++ (bs ++ y)) (drop-take d k l) (ap (λ (j : ℕ). drop j l) (add_assoc d k (length bs)) ∙ sym (drop-drop (k + length bs) d l))

-- bytes at the place of the round
pub joined_put : (u r xs : List ℕ) → length u ≡ round_at → put_bytes (u ++ r) round_at xs ≡ u ++ (xs ++ drop (length xs) r)
unfolding put_bytes
joined_put u r xs e =
    let at : round_at + length xs ≡ length u + length xs = omega arith in
    ap₂ (λ (x : List ℕ) (y : List ℕ). x ++ (xs ++ y)) (take_at u r round_at e) (ap (λ (j : ℕ). drop j (u ++ r)) at ∙ drop-append-add u r (length xs))

-- bytes put among the marks, and how many are held
set_held : (w : List ℕ) (k b : ℕ) (xs : List ℕ) → length w ≡ array_bytes → marks_at + k + length xs ≤ array_bytes
    → set (put_bytes w (marks_at + k) xs) held_at b ≡ take held_at w ++ (b ∷ put_bytes (drop marks_at w) k xs)
set_held w k b xs size room =
    let p = put_bytes w (marks_at + k) xs in
    set_one p held_at b (omega (arith, length_put w (marks_at + k) xs (omega arith)))
    ∙ ap₂ (λ (x : List ℕ) (y : List ℕ). x ++ (b ∷ y)) (put_below w (marks_at + k) held_at xs (omega arith) (omega arith)) (drop_put w marks_at k xs (omega arith))

-- ---- marks behind one another

pub marks_length : (h : ℕ) (l : List ℕ) → length (marks_from h l) ≡ h
unfolding marks_from
marks_length zero l = refl
marks_length (suc h) l = ap suc (marks_length h (drop mark_bytes l))

list_take : (h : ℕ) (l : List ℕ) → mark_list (marks_from h l) ≡ take (mark_bytes * h) l
unfolding marks_from mark_list
list_take zero l = refl
list_take (suc h) l =
    let all : mark_bytes * suc h ≡ 8 + (state_bytes + mark_bytes * h) = omega arith in
    let rest : take (mark_bytes * h) (drop state_bytes (drop 8 l)) ≡ mark_list (marks_from h (drop mark_bytes l)) =
    ap (take (mark_bytes * h)) (drop-drop state_bytes 8 l) ∙ sym (list_take h (drop mark_bytes l)) in
    sym (ap (λ (j : ℕ). take j l) all ∙ take-add 8 (state_bytes + mark_bytes * h) l
    ∙ ap (take 8 l ++◌) (take-add state_bytes (mark_bytes * h) (drop 8 l) ∙ ap (take state_bytes (drop 8 l) ++◌) rest))

list_back : (h : ℕ) (l : List ℕ) → mark_list (marks_from h l) ++ drop (mark_bytes * h) l ≡ l
list_back h l = ap (◌++ drop (mark_bytes * h) l) (list_take h l) ∙ take-append-drop (mark_bytes * h) l

marks_take : (i h : ℕ) (l : List ℕ) → i ≤ h → take i (marks_from h l) ≡ marks_from i l
unfolding marks_from
marks_take zero h l r = refl
marks_take (suc i) zero l r = absurd (omega arith)
marks_take (suc i) (suc h) l r = ap (record { name = take 8 l; kept = take state_bytes (drop 8 l) } ∷◌) (marks_take i h (drop mark_bytes l) (omega arith))

marks_drop : (i h : ℕ) (l : List ℕ) → drop i (marks_from h l) ≡ marks_from (h - i) (drop (mark_bytes * i) l)
unfolding marks_from
marks_drop zero h l = let e : h - 0 ≡ h = omega arith in rw e refl
marks_drop (suc i) zero l = let e : 0 - suc i ≡ 0 = omega arith in rw e refl
marks_drop (suc i) (suc h) l =
    let left : h - i ≡ suc h - suc i = omega arith in
    let at : mark_bytes + mark_bytes * i ≡ mark_bytes * suc i = omega arith in
    marks_drop i h (drop mark_bytes l) ∙ ap₂ marks_from left (drop-drop (mark_bytes * i) mark_bytes l ∙ ap (λ (j : ℕ). drop j l) at)

list_join : (ms ns : List (Named (List ℕ))) → mark_list (ms ++ ns) ≡ mark_list ms ++ mark_list ns
unfolding mark_list
list_join [] ns = refl
list_join (m ∷ ms) ns =
    ap (λ (r : List ℕ). m.name ++ (m.kept ++ r)) (list_join ms ns) ∙ ap (m.name ++◌) (sym (append_assoc m.kept (mark_list ms) (mark_list ns)))
    ∙ sym (append_assoc m.name (m.kept ++ mark_list ms) (mark_list ns))

-- ---- the marks of a window

module _ (w : List ℕ) (size : length w ≡ array_bytes) (h p : ℕ) (few : h ≤ 8) where
  abbrev l : List ℕ
  l = drop marks_at w

  abbrev ms : List (Named (List ℕ))
  ms = marks_from h l

  rest : (n : ℕ) → n ≡ max h (p + 1) → mark_list (drop (suc p) ms) ++ drop (mark_bytes * n) l ≡ drop (mark_bytes * suc p) l
  rest n e =
      let at : mark_bytes * n ≡ mark_bytes * suc p + mark_bytes * (h - suc p) = omega arith in
      ap₂ ◌++◌ (ap mark_list (marks_drop (suc p) h l)) (ap (λ (j : ℕ). drop j l) at ∙ sym (drop-drop (mark_bytes * (h - suc p)) (mark_bytes * suc p) l))
      ∙ list_back (h - suc p) (drop (mark_bytes * suc p) l)

  module _ (le : p ≤ h) where
    before : mark_list (take p ms) ≡ take (mark_bytes * p) l
    before = ap mark_list (marks_take p h l le) ∙ list_take p l

    taken : length (take p ms) ≡ p
    taken = length-take-le p ms (rw marks_length le)

    pub put_saved : (m : Named (List ℕ)) → length m.name ≡ 8 → length m.kept ≡ state_bytes → p < 8 → (k : ℕ) → k ≡ max h (p + 1)
        → set (put_bytes w (marks_at + mark_bytes * p) (m.name ++ m.kept)) held_at k ≡ with_marks w (take p ms ++ m ∷ drop (suc p) ms)
    unfolding with_marks mark_list put_bytes
    put_saved m en ek lt k e =
        let x = m.name ++ m.kept in
        let long : length x ≡ mark_bytes = length-append m.name m.kept ∙ ap₂ ◌+◌ en ek in
        let count : length (take p ms ++ m ∷ drop (suc p) ms) ≡ k =
        omega (arith, length-append (take p ms) (m ∷ drop (suc p) ms), taken, length-drop (suc p) ms, marks_length h l) in
        let past : drop (mark_bytes * p + length x) l ≡ drop (mark_bytes * suc p) l = ap (λ (j : ℕ). drop j l) (omega arith) in
        let d = drop (mark_bytes * k) l in
        let c = mark_list (drop (suc p) ms) in
        let t = take (mark_bytes * p) l in
        let all : mark_list (take p ms ++ m ∷ drop (suc p) ms) ++ d ≡ t ++ (x ++ drop (mark_bytes * p + length x) l) =
        ap (◌++ d) (list_join (take p ms) (m ∷ drop (suc p) ms) ∙ ap (◌++ (m.name ++ (m.kept ++ c))) before)
        ∙ append_assoc t (m.name ++ (m.kept ++ c)) d
        ∙ ap (t ++◌) (append_assoc m.name (m.kept ++ c) d ∙ ap (m.name ++◌) (append_assoc m.kept c d) ∙ sym (append_assoc m.name m.kept (c ++ d)) ∙ ap (x ++◌) (rest k e ∙ sym past)) in
        set_held w (mark_bytes * p) k x size (omega arith)
        ∙ ap (take held_at w ++◌) (ap (k ∷◌) (sym all) ∙ ap (λ (j : ℕ). j ∷ (mark_list (take p ms ++ m ∷ drop (suc p) ms) ++ drop (mark_bytes * j) l)) (sym count))

    pub put_deleted : p < h → (n : ℕ) → n ≡ mark_bytes * (h - suc p)
        → set (put_bytes w (marks_at + mark_bytes * p) (take n (drop (marks_at + mark_bytes * suc p) w))) held_at (h - 1) ≡ with_marks w (take p ms ++ drop (suc p) ms)
    unfolding with_marks put_bytes
    put_deleted lt n e =
        let x = take n (drop (marks_at + mark_bytes * suc p) w) in
        let long : length x ≡ n = length-take-le n (drop (marks_at + mark_bytes * suc p) w) (rw length-drop (omega arith)) in
        let c = mark_list (drop (suc p) ms) in
        let is : c ≡ x =
        ap mark_list (marks_drop (suc p) h l) ∙ list_take (h - suc p) (drop (mark_bytes * suc p) l)
        ∙ ap₂ (λ (j : ℕ) (y : List ℕ). take j y) (sym e) (drop-drop (mark_bytes * suc p) marks_at w) in
        let count : length (take p ms ++ drop (suc p) ms) ≡ h - 1 = omega (arith, length-append (take p ms) (drop (suc p) ms), taken, length-drop (suc p) ms, marks_length h l) in
        let past : drop (mark_bytes * p + length x) l ≡ drop (mark_bytes * (h - 1)) l = ap (λ (j : ℕ). drop j l) (omega arith) in
        let d = drop (mark_bytes * (h - 1)) l in
        let t = take (mark_bytes * p) l in
        let all : mark_list (take p ms ++ drop (suc p) ms) ++ d ≡ t ++ (x ++ drop (mark_bytes * p + length x) l) =
        ap (◌++ d) (list_join (take p ms) (drop (suc p) ms) ∙ ap₂ ◌++◌ before is) ∙ append_assoc t x d ∙ ap (λ (y : List ℕ). t ++ (x ++ y)) (sym past) in
        set_held w (mark_bytes * p) (h - 1) x size (omega arith)
        ∙ ap (take held_at w ++◌) (ap ((h - 1) ∷◌) (sym all) ∙ ap (λ (j : ℕ). j ∷ (mark_list (take p ms ++ drop (suc p) ms) ++ drop (mark_bytes * j) l)) (sym count))

  -- what is at the place of a mark comes to the front
  pub put_restored : (at : ℕ) → width_at ≤ at → at + state_bytes ≤ array_bytes → (u v : List ℕ)
      → u ≡ copy_within w at (at + width_at) 0 → v ≡ copy_within u (at + width_at) (at + width_at + 8) round_at → v ≡ restored w (take state_bytes (drop at w))
  unfolding restored
  put_restored at far room u v cu cv =
      let x = take width_at (drop at w) in
      let long : length x ≡ width_at = length-take-le width_at (drop at w) (rw length-drop (omega arith)) in
      let pu : u ≡ put_bytes w 0 x = cu ∙ copied w at (at + width_at) width_at 0 refl (omega arith) in
      let pv : v ≡ put_bytes u round_at (take 8 (drop (at + width_at) u)) =
      cv ∙ copied u (at + width_at) (at + width_at + 8) 8 round_at refl (omega (arith, ap length pu, length_put w 0 x (omega arith))) in
      let first : take width_at (take state_bytes (drop at w)) ≡ x = take-take width_at state_bytes (drop at w) (omega arith) in
      let second : drop width_at (take state_bytes (drop at w)) ≡ take 8 (drop (at + width_at) w) =
      drop-take width_at 8 (drop at w) ∙ ap (take 8) (drop-drop width_at at w) in
      let far_on : drop (at + width_at) u ≡ drop (at + width_at) w = ap (drop (at + width_at)) pu ∙ put_behind w 0 (at + width_at) x (omega arith) (omega arith) in
      pv ∙ ap₂ (λ (a : List ℕ) (b : List ℕ). put_bytes a round_at b) (pu ∙ ap (put_bytes w 0) (sym first)) (ap (take 8) far_on ∙ sym second)

-- what is put for a mark: its name, then the first bytes, then the round
pub put_state : (w : List ℕ) → length w ≡ array_bytes → (at : ℕ) → marks_at ≤ at → at + mark_bytes ≤ array_bytes → (name u v x : List ℕ) → length name ≡ 8
    → u ≡ put_bytes w at name → v ≡ copy_within u 0 width_at (at + 8) → x ≡ copy_within v round_at held_at (at + 8 + width_at)
    → x ≡ put_bytes w at (name ++ state w)
unfolding state
put_state w size at far room name u v x en pu cv cx =
    let y = take width_at w in
    let z = take 8 (drop round_at w) in
    let one : length y ≡ width_at = length-take-le width_at w (omega arith) in
    let two : length (name ++ y) ≡ 8 + width_at = length-append name y ∙ ap₂ ◌+◌ en one in
    let front_u : take width_at (drop 0 u) ≡ y = ap (λ (l : List ℕ). take width_at (drop 0 l)) pu ∙ part_below w at 0 width_at name (omega arith) (omega arith) in
    let pv : v ≡ put_bytes u (at + 8) (take width_at (drop 0 u)) =
    cv ∙ copied u 0 width_at width_at (at + 8) refl (omega (arith, ap length pu, length_put w at name (omega arith))) in
    let next : at + 8 ≡ at + length name = omega arith in
    let v_is : v ≡ put_bytes w at (name ++ y) =
    pv ∙ ap₂ (λ (l : List ℕ) (b : List ℕ). put_bytes l (at + 8) b) pu front_u ∙ ap (λ (j : ℕ). put_bytes (put_bytes w at name) j y) next ∙ put_append w at name (omega arith) y in
    let px : x ≡ put_bytes v (at + 8 + width_at) (take 8 (drop round_at v)) =
    cx ∙ copied v round_at held_at 8 (at + 8 + width_at) refl (omega (arith, ap length v_is, length_put w at (name ++ y) (omega arith))) in
    let round_v : take 8 (drop round_at v) ≡ z = ap (λ (l : List ℕ). take 8 (drop round_at l)) v_is ∙ part_below w at round_at 8 (name ++ y) (omega arith) (omega arith) in
    let last : at + 8 + width_at ≡ at + length (name ++ y) = omega arith in
    px ∙ ap₂ (λ (l : List ℕ) (b : List ℕ). put_bytes l (at + 8 + width_at) b) v_is round_v ∙ ap (λ (j : ℕ). put_bytes (put_bytes w at (name ++ y)) j z) last
    ∙ put_append w at (name ++ y) (omega arith) z ∙ ap (put_bytes w at) (append_assoc name y z)

-- ---- the place of a name, and what is kept there

module _ (n : List ℕ) where
  pub place_hit : (h i : ℕ) (l : List ℕ) → i < h → bytes_eq (take 8 l) n ≡ true → place n (marks_from (h - i) l) ≡ 0
  unfolding place marks_from
  place_hit h i l lt e = let s : h - i ≡ suc (h - suc i) = omega arith in rw (s, e) refl

  pub place_miss : (h i : ℕ) (l : List ℕ) → i < h → bytes_eq (take 8 l) n ≡ false → place n (marks_from (h - i) l) ≡ suc (place n (marks_from (h - suc i) (drop mark_bytes l)))
  unfolding place marks_from
  place_miss h i l lt e = let s : h - i ≡ suc (h - suc i) = omega arith in rw (s, e) refl

  pub kept_found : (h : ℕ) (l : List ℕ) → place n (marks_from h l) < h
      → kept_at n (marks_from h l) ≡ Some (take state_bytes (drop 8 (drop (mark_bytes * place n (marks_from h l)) l)))
  unfolding place kept_at marks_from
  kept_found zero l r = absurd (omega arith)
  kept_found (suc h) l r = go (bytes_eq (take 8 l) n) (kept_found h (drop mark_bytes l)) r
    where
      go : (t : Bool) → (place n (marks_from h (drop mark_bytes l)) < h → kept_at n (marks_from h (drop mark_bytes l)) ≡ Some (take state_bytes (drop 8 (drop (mark_bytes * place n (marks_from h (drop mark_bytes l))) (drop mark_bytes l)))))
          → cond t 0 (suc (place n (marks_from h (drop mark_bytes l)))) < suc h
          → cond t (Some (take state_bytes (drop 8 l))) (kept_at n (marks_from h (drop mark_bytes l)))
          ≡ Some (take state_bytes (drop 8 (drop (mark_bytes * cond t 0 (suc (place n (marks_from h (drop mark_bytes l))))) l)))
      go true ih r = refl
      go false ih r =
          let j = place n (marks_from h (drop mark_bytes l)) in
          let at : mark_bytes + mark_bytes * j ≡ mark_bytes * suc j = omega arith in
          ih (omega arith) ∙ ap (λ (x : List ℕ). Some (take state_bytes (drop 8 x))) (drop-drop (mark_bytes * j) mark_bytes l ∙ ap (λ (k : ℕ). drop k l) at)

module _ (w name : List ℕ) where
  pub place_start : place name (marks_in w) ≡ 0 + place name (marks_from (held_in w - 0) (drop (marks_at + mark_bytes * 0) w))
  unfolding marks_in
  place_start = omega (arith, ap (λ (n : ℕ). place name (marks_from n (drop marks_at w))) (none (held_in w)))
    where
      none : (n : ℕ) → n - 0 ≡ n
      none n = omega arith

  module _ (h i : ℕ) (eh : h ≡ held_in w) (lt : i < h) (so_far : place name (marks_in w) ≡ i + place name (marks_from (held_in w - i) (drop (marks_at + mark_bytes * i) w))) where
    abbrev later : List ℕ
    later = drop (marks_at + mark_bytes * i) w

    pub place_here : bytes_eq (take 8 later) name ≡ true → i ≡ place name (marks_in w)
    place_here e = omega (arith, so_far, place_hit name (held_in w) i later (omega arith) e)

    pub place_later : bytes_eq (take 8 later) name ≡ false → (j : ℕ) → j ≡ i + 1
        → place name (marks_in w) ≡ j + place name (marks_from (held_in w - j) (drop (marks_at + mark_bytes * j) w))
    place_later e j ej =
        let left : held_in w - suc i ≡ held_in w - j = omega arith in
        let at : marks_at + mark_bytes * i + mark_bytes ≡ marks_at + mark_bytes * j = omega arith in
        let next : place name (marks_from (held_in w - suc i) (drop mark_bytes later)) ≡ place name (marks_from (held_in w - j) (drop (marks_at + mark_bytes * j) w)) =
        ap₂ (λ (n : ℕ) (x : List ℕ). place name (marks_from n x)) left (drop-drop mark_bytes (marks_at + mark_bytes * i) w ∙ ap (λ (k : ℕ). drop k w) at) in
        omega (arith, so_far, place_miss name (held_in w) i later (omega arith) e, next)

  pub place_past : (h : ℕ) → h ≡ held_in w → place name (marks_in w) ≡ h + place name (marks_from (held_in w - h) (drop (marks_at + mark_bytes * h) w)) → h ≡ place name (marks_in w)
  unfolding place marks_from
  place_past h e f = let none : held_in w - h ≡ 0 = omega arith in sym (f ∙ rw none (omega arith))
