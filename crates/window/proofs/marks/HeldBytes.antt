-- Bytes of marks that are read back, and what is kept under the names that a history has.
use Rattle.std.proofs.Common.{◌≡◌, ℕ, zero, suc, ◌+◌, ◌*◌, ◌<◌, ◌≤◌, min, max, List, [], ◌∷◌, ◌++◌, map, length, take, drop, get_or, Bool, true, false, Some, None, Option, sym, refl, ap, ap₂, ◌∙◌, subst, arith, append_assoc, length-append, length-drop, length-take-le, take_at, drop_at, drop-drop, take-take, get_or-take}
use Rattle.std.proofs.lemmas.List.{drop-take}
use Rattle.std.specs.Int.{w64, from_le_bytes}
use Rattle.std.specs.Prelude.{cond, bytes_eq}
use Rattle.pauli.specs.Bytes.{u16_at, u32_at}
use Rattle.pauli.specs.Roll.{Sparse, write}
use Rattle.pauli.specs.Support.{All}
use Rattle.pauli.specs.Writing.{put_bytes}
use Rattle.pauli.proofs.write.Puts.{length_put}
use Rattle.window.specs.History.{widest, last_of}
use Rattle.window.specs.Layout.{room_bytes, window_bytes, width_at, front, roll_in, width_in}
use Rattle.window.specs.MarkHistory.{Named, most_marks, kept_at, keep, free, round_of}
use Rattle.window.specs.MarkLayout.{array_bytes, round_at, held_at, marks_at, mark_bytes, state_bytes, round_in, held_in, marks_from, marks_in, mark_list, with_marks, state, restored}
use Rattle.window.proofs.calls.HistoryLaws.{Kept}
use Rattle.window.proofs.layout.LayoutLaws.{behind, first_byte}
use Rattle.window.proofs.marks.MarkBytes.{put_below, put_behind}

-- ---- what is held under names

-- what is kept holds the last w of these checks, and their round
pub record Held (w : ℕ) (s : List ℕ) (ps : List Sparse) : Type 0 where
  pub kept : Kept w ps
  pub size : length s ≡ state_bytes
  pub roll : roll_in s ≡ write (last_of w ps)
  pub round : from_le_bytes w64 (drop width_at s) ≡ round_of ps

module _ (w : ℕ) where
  -- mark by mark
  abbrev pub Alike : List (Named (List ℕ)) → List (Named (List Sparse)) → Type 0
  Alike [] [] = Unit
  Alike [] (k ∷ ks) = ⊥
  Alike (m ∷ ms) [] = ⊥
  Alike (m ∷ ms) (k ∷ ks) = (m.name ≡ k.name) × Held w m.kept k.kept × Alike ms ks

  abbrev pub Match : Option (List ℕ) → Option (List Sparse) → Type 0
  Match None None = Unit
  Match None (Some ps) = ⊥
  Match (Some s) None = ⊥
  Match (Some s) (Some ps) = Held w s ps

  pub alike_length : (ms : List (Named (List ℕ))) (ks : List (Named (List Sparse))) → Alike ms ks → length ms ≡ length ks
  alike_length [] [] a = refl
  alike_length [] (k ∷ ks) a = absurd a
  alike_length (m ∷ ms) [] a = absurd a
  alike_length (m ∷ ms) (k ∷ ks) a = ap suc (alike_length ms ks a.2)

  pub alike_names : (ms : List (Named (List ℕ))) (ks : List (Named (List Sparse))) → Alike ms ks → map (λ m. m.name) ms ≡ map (λ k. k.name) ks
  alike_names [] [] a = refl
  alike_names [] (k ∷ ks) a = absurd a
  alike_names (m ∷ ms) [] a = absurd a
  alike_names (m ∷ ms) (k ∷ ks) a = ap₂ ◌∷◌ a.0 (alike_names ms ks a.2)

  module _ (n : List ℕ) where
    pub alike_kept : (ms : List (Named (List ℕ))) (ks : List (Named (List Sparse))) → Alike ms ks → Match (kept_at n ms) (kept_at n ks)
    unfolding kept_at
    alike_kept [] [] a = tt
    alike_kept [] (k ∷ ks) a = absurd a
    alike_kept (m ∷ ms) [] a = absurd a
    alike_kept (m ∷ ms) (k ∷ ks) a =
        subst (λ (x : List ℕ). Match (cond (bytes_eq x n) (Some m.kept) (kept_at n ms)) (cond (bytes_eq k.name n) (Some k.kept) (kept_at n ks))) (sym a.0) (go (bytes_eq k.name n) (alike_kept ms ks a.2))
      where
        go : (t : Bool) → Match (kept_at n ms) (kept_at n ks) → Match (cond t (Some m.kept) (kept_at n ms)) (cond t (Some k.kept) (kept_at n ks))
        go true ih = a.1
        go false ih = ih

    pub alike_keep : (s : List ℕ) (ps : List Sparse) → Held w s ps → (ms : List (Named (List ℕ))) (ks : List (Named (List Sparse))) → Alike ms ks → Alike (keep n s ms) (keep n ps ks)
    unfolding keep
    alike_keep s ps h [] [] a = (refl, h, tt)
    alike_keep s ps h [] (k ∷ ks) a = absurd a
    alike_keep s ps h (m ∷ ms) [] a = absurd a
    alike_keep s ps h (m ∷ ms) (k ∷ ks) a =
        subst (λ (x : List ℕ). Alike (cond (bytes_eq x n) (record { name = n; kept = s } ∷ ms) (m ∷ keep n s ms)) (cond (bytes_eq k.name n) (record { name = n; kept = ps } ∷ ks) (k ∷ keep n ps ks))) (sym a.0)
        (go (bytes_eq k.name n) (alike_keep s ps h ms ks a.2))
      where
        go : (t : Bool) → Alike (keep n s ms) (keep n ps ks)
            → Alike (cond t (record { name = n; kept = s } ∷ ms) (m ∷ keep n s ms)) (cond t (record { name = n; kept = ps } ∷ ks) (k ∷ keep n ps ks))
        go true ih = (refl, h, a.2)
        go false ih = (a.0, a.1, ih)

    pub alike_free : (ms : List (Named (List ℕ))) (ks : List (Named (List Sparse))) → Alike ms ks → Alike (free n ms) (free n ks)
    unfolding free
    alike_free [] [] a = tt
    alike_free [] (k ∷ ks) a = absurd a
    alike_free (m ∷ ms) [] a = absurd a
    alike_free (m ∷ ms) (k ∷ ks) a =
        subst (λ (x : List ℕ). Alike (cond (bytes_eq x n) ms (m ∷ free n ms)) (cond (bytes_eq k.name n) ks (k ∷ free n ks))) (sym a.0) (go (bytes_eq k.name n) (alike_free ms ks a.2))
      where
        go : (t : Bool) → Alike (free n ms) (free n ks) → Alike (cond t ms (m ∷ free n ms)) (cond t ks (k ∷ free n ks))
        go true ih = a.2
        go false ih = (a.0, a.1, ih)

-- ---- marks that are read back

abbrev pub Sized : Named (List ℕ) → Type 0
Sized m = (length m.name ≡ 8) × (length m.kept ≡ state_bytes)

sized_from : (h : ℕ) (l : List ℕ) → mark_bytes * h ≤ length l → All Sized (marks_from h l)
unfolding marks_from
sized_from zero l r = tt
sized_from (suc h) l r =
    let all : mark_bytes * suc h ≡ mark_bytes + mark_bytes * h = omega arith in
    ((length-take-le 8 l (omega arith), length-take-le state_bytes (drop 8 l) (rw length-drop (omega arith))), sized_from h (drop mark_bytes l) (rw length-drop (omega arith)))

pub sized_in : (v : List ℕ) → length v ≡ array_bytes → All Sized (marks_in v)
unfolding marks_in held_in most_marks
sized_in v size = sized_from (held_in v) (drop marks_at v) (rw length-drop (omega arith))

list_length : (ms : List (Named (List ℕ))) → All Sized ms → length (mark_list ms) ≡ mark_bytes * length ms
unfolding mark_list
list_length [] s = refl
list_length (m ∷ ms) s = omega (arith, length-append m.name (m.kept ++ mark_list ms), length-append m.kept (mark_list ms), s.0, list_length ms s.1)

marks_again : (ms : List (Named (List ℕ))) (r : List ℕ) → All Sized ms → marks_from (length ms) (mark_list ms ++ r) ≡ ms
unfolding marks_from mark_list
marks_again [] r s = refl
marks_again (m ∷ ms) r s =
    let x = (m.name ++ (m.kept ++ mark_list ms)) ++ r in
    let more = mark_list ms ++ r in
    let whole : x ≡ m.name ++ (m.kept ++ more) = append_assoc m.name (m.kept ++ mark_list ms) r ∙ ap (m.name ++◌) (append_assoc m.kept (mark_list ms) r) in
    let pair : List ℕ → List ℕ → Named (List ℕ) = λ a b. record { name = a; kept = b } in
    let name : take 8 x ≡ m.name = ap (take 8) whole ∙ take_at m.name (m.kept ++ more) 8 s.0.0 in
    let past : drop 8 x ≡ m.kept ++ more = ap (drop 8) whole ∙ drop_at m.name (m.kept ++ more) 8 s.0.0 in
    let kept : take state_bytes (drop 8 x) ≡ m.kept = ap (take state_bytes) past ∙ take_at m.kept more state_bytes s.0.1 in
    let rest : drop mark_bytes x ≡ more = sym (drop-drop state_bytes 8 x) ∙ ap (drop state_bytes) past ∙ drop_at m.kept more state_bytes s.0.1 in
    ap₂ ◌∷◌ (ap₂ pair name kept) (ap (marks_from (length ms)) rest ∙ marks_again ms r s.1)

module _ (v : List ℕ) (size : length v ≡ array_bytes) (ms : List (Named (List ℕ))) (few : length ms ≤ 8) (s : All Sized ms) where
  abbrev rest : List ℕ
  rest = drop (mark_bytes * length ms) (drop marks_at v)

  above : length (take held_at v) ≡ held_at
  above = length-take-le held_at v (omega arith)

  top : take held_at (with_marks v ms) ≡ take held_at v
  unfolding with_marks
  top = take_at (take held_at v) (length ms ∷ (mark_list ms ++ rest)) held_at above

  bottom : drop held_at (with_marks v ms) ≡ length ms ∷ (mark_list ms ++ rest)
  unfolding with_marks
  bottom = drop_at (take held_at v) (length ms ∷ (mark_list ms ++ rest)) held_at above

  pub marked_front : front (with_marks v ms) ≡ front v
  unfolding front
  marked_front =
      sym (take-take window_bytes held_at (with_marks v ms) (omega arith)) ∙ ap (take window_bytes) top ∙ take-take window_bytes held_at v (omega arith)

  pub marked_round : round_in (with_marks v ms) ≡ round_in v
  unfolding round_in
  marked_round = ap (from_le_bytes w64) (sym (drop-take round_at 8 (with_marks v ms)) ∙ ap (drop round_at) top ∙ drop-take round_at 8 v)

  pub marked_marks : marks_in (with_marks v ms) ≡ ms
  unfolding marks_in held_in most_marks
  marked_marks =
      let first : get_or (with_marks v ms) held_at 0 ≡ length ms = first_byte (with_marks v ms) held_at ∙ ap (λ (l : List ℕ). get_or l 0 0) bottom in
      let held : min (get_or (with_marks v ms) held_at 0) 8 ≡ length ms = omega (arith, first) in
      let past : drop marks_at (with_marks v ms) ≡ mark_list ms ++ rest = sym (drop-drop 1 held_at (with_marks v ms)) ∙ ap (drop 1) bottom in
      ap₂ marks_from held past ∙ marks_again ms rest s

  pub marked_length : length (with_marks v ms) ≡ array_bytes
  unfolding with_marks
  marked_length =
      omega (arith, above, list_length ms s, length-append (take held_at v) (length ms ∷ (mark_list ms ++ rest)), length-append (mark_list ms) rest, length-drop (mark_bytes * length ms) (drop marks_at v), length-drop marks_at v)

-- ---- bytes that begin alike

module _ (x y : List ℕ) where
  same_byte : (n k : ℕ) → take n x ≡ take n y → k < n → get_or x k 0 ≡ get_or y k 0
  same_byte n k e h = sym (get_or-take n x k 0 h) ∙ ap (λ (l : List ℕ). get_or l k 0) e ∙ get_or-take n y k 0 h

  pub roll_same : take width_at x ≡ take width_at y → roll_in x ≡ roll_in y
  unfolding roll_in u32_at
  roll_same e =
      let b : (k : ℕ) → k < width_at → get_or x k 0 ≡ get_or y k 0 = λ k h. same_byte width_at k e h in
      let size : u32_at x 0 ≡ u32_at y 0 = rw (b 0 (omega arith), b 1 (omega arith), b 2 (omega arith), b 3 (omega arith)) refl in
      let room : take room_bytes (drop 4 x) ≡ take room_bytes (drop 4 y) = sym (drop-take 4 room_bytes x) ∙ ap (drop 4) e ∙ drop-take 4 room_bytes y in
      let n = min (u32_at x 0) room_bytes in
      let m = min (u32_at y 0) room_bytes in
      sym (take-take n room_bytes (drop 4 x) (omega arith)) ∙ ap₂ (λ (k : ℕ) (l : List ℕ). take (min k room_bytes) l) size room ∙ take-take m room_bytes (drop 4 y) (omega arith)

  pub marks_same : drop held_at x ≡ drop held_at y → marks_in x ≡ marks_in y
  unfolding marks_in held_in most_marks
  marks_same e =
      let first : get_or x held_at 0 ≡ get_or y held_at 0 = first_byte x held_at ∙ ap (λ (l : List ℕ). get_or l 0 0) e ∙ sym (first_byte y held_at) in
      ap₂ (λ (n : ℕ) (l : List ℕ). marks_from (min n 8) l) first (sym (drop-drop 1 held_at x) ∙ ap (drop 1) e ∙ drop-drop 1 held_at y)

-- ---- what is saved, and what is restored

module _ (v : List ℕ) (size : length v ≡ array_bytes) where
  kept_front : length (take width_at v) ≡ width_at
  kept_front = length-take-le width_at v (omega arith)

  pub state_roll : roll_in (state v) ≡ roll_in v
  unfolding state
  state_roll = roll_same (state v) v (take_at (take width_at v) (take 8 (drop round_at v)) width_at kept_front)

  pub state_round : from_le_bytes w64 (drop width_at (state v)) ≡ round_in v
  unfolding state round_in
  state_round = ap (from_le_bytes w64) (drop_at (take width_at v) (take 8 (drop round_at v)) width_at kept_front)

  module _ (s : List ℕ) (long : length s ≡ state_bytes) where
    abbrev a : List ℕ
    a = take width_at s

    abbrev b : List ℕ
    b = drop width_at s

    abbrev u : List ℕ
    u = put_bytes v 0 a

    size_a : length a ≡ width_at
    size_a = length-take-le width_at s (omega arith)

    size_b : length b ≡ 8
    size_b = length-drop width_at s ∙ omega arith

    size_u : length u ≡ array_bytes
    size_u = length_put v 0 a (omega (arith, size_a)) ∙ size

    pub restored_length : length (restored v s) ≡ array_bytes
    unfolding restored
    restored_length = length_put u round_at b (omega (arith, size_u, size_b)) ∙ size_u

    pub restored_roll : roll_in (restored v s) ≡ roll_in s
    unfolding restored put_bytes
    restored_roll =
        roll_same (restored v s) s
        (put_below u round_at width_at b (omega arith) (omega (arith, size_u)) ∙ take_at a (drop (0 + length a) v) width_at size_a)

    width_byte : (k : ℕ) → width_at ≤ k → k < round_at → get_or (restored v s) k 0 ≡ get_or v k 0
    unfolding restored
    width_byte k h g =
        same_byte (restored v s) u round_at k (put_below u round_at round_at b (omega arith) (omega (arith, size_u))) g ∙ behind v 0 a (omega (arith, size_a)) k (omega (arith, size_a))

    pub restored_width : width_in (restored v s) ≡ width_in v
    unfolding width_in u16_at
    restored_width =
        ap₂ (λ (x : ℕ) (y : ℕ). max (min (x + 256 * y) widest) 1) (width_byte width_at (omega arith) (omega arith)) (width_byte (width_at + 1) (omega arith) (omega arith))

    pub restored_round : round_in (restored v s) ≡ from_le_bytes w64 b
    unfolding round_in restored put_bytes
    restored_round =
        let front_u : length (take round_at u) ≡ round_at = length-take-le round_at u (omega (arith, size_u)) in
        let rest = drop (round_at + length b) u in
        ap (from_le_bytes w64) (ap (take 8) (drop_at (take round_at u) (b ++ rest) round_at front_u) ∙ take_at b rest 8 size_b)

    pub restored_marks : marks_in (restored v s) ≡ marks_in v
    unfolding restored
    restored_marks =
        marks_same (restored v s) v
        (put_behind u round_at held_at b (omega (arith, size_b)) (omega (arith, size_u, size_b)) ∙ put_behind v 0 held_at a (omega (arith, size_a)) (omega (arith, size_a)))
