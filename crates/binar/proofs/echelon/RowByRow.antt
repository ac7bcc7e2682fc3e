-- A matrix in a slice that is rewritten row by row: the first i rows are those of D, the others still those of M.
use mathlib.Core.Path.{◌≡◌, refl, sym, ap, ap₂, ◌∙◌, subst}
use mathlib.Core.List.{List, ◌++◌, append-nil}
use Prim.Native.Nat.{ℕ, suc, ◌+◌, ◌-◌, ◌*◌, ◌≤◌, ◌<◌}
use native.Mathlib.Numerals.{add-one}
use native.Mathlib.Omega.{arith}
use native.Mathlib.Decide.{dec_lt}
use lib.ListN.{length, get_or, set, take, drop, length-append, length-drop, drop_of_length-le, get_or-append}
use lib.Seq.{drop-cons, take-suc, append_snoc, set_at, set-get_or, get_or_at, length-take-le, take_all, get_or-take, get_or-append-add, get_or-drop}
use Rattle.binar.specs.Row.{bit}
use Rattle.binar.specs.Words.{value, row_at, put_row, matrix, image}
use Rattle.binar.proofs.row.Slice.{AreWords}
use Rattle.binar.proofs.echelon.Matrix.{length_matrix, matrix_lt, image_matrix, row_image, put_image, row_in, bit_row, words_image, words_drop}

-- ---- lists

-- the first i rows of D, then the other rows of M
unfoldable pub mixed : ℕ → List ℕ → List ℕ → List ℕ
mixed i D M = take i D ++ drop i M

pub mixed_none : (D M : List ℕ) → mixed 0 D M ≡ M
unfolding mixed
mixed_none D M = refl

module _ (D M : List ℕ) (same : length D ≡ length M) where
  pub mixed_all : (i : ℕ) → length M ≤ i → mixed i D M ≡ D
  unfolding mixed
  mixed_all i h = rw (take_all i D (omega arith), drop_of_length-le M h) (append-nil D)

  module _ (i : ℕ) (h : i < length M) where
    taken : length (take i D) ≡ i
    taken = length-take-le i D (omega arith)

    pub mixed_here : get_or (mixed i D M) i 0 ≡ get_or M i 0
    unfolding mixed
    mixed_here = rw (drop-cons M i 0 h) (get_or_at (take i D) (get_or M i 0) (drop (suc i) M) 0 i taken)

    pub mixed_set : set (mixed i D M) i (get_or D i 0) ≡ mixed (i + 1) D M
    unfolding mixed
    mixed_set =
        rw (drop-cons M i 0 h, set_at (take i D) (get_or M i 0) (drop (suc i) M) (get_or D i 0) i taken, add-one i, take-suc D i 0 (omega arith))
        (sym (append_snoc (take i D) (get_or D i 0) (drop (suc i) M)))

    -- a row that is not changed
    pub mixed_skip : get_or D i 0 ≡ get_or M i 0 → mixed i D M ≡ mixed (i + 1) D M
    mixed_skip e = sym (set-get_or (mixed i D M) i 0) ∙ ap (set (mixed i D M) i) (mixed_here ∙ sym e) ∙ mixed_set

  module _ (i : ℕ) (l : i ≤ length M) where
    front : length (take i D) ≡ i
    front = length-take-le i D (omega arith)

    before : (r : ℕ) → r < i → get_or (mixed i D M) r 0 ≡ get_or D r 0
    unfolding mixed
    before r h = get_or-append (take i D) (drop i M) 0 r (rw front h) ∙ get_or-take i D r 0 h

    after : (r : ℕ) → i ≤ r → get_or (mixed i D M) r 0 ≡ get_or M r 0
    unfolding mixed
    after r h =
        let k : r ≡ length (take i D) + (r - i) = omega (arith, front) in
        let j : i + (r - i) ≡ r = omega arith in
        ap (λ (q : ℕ). get_or (take i D ++ drop i M) q 0) k ∙ get_or-append-add (take i D) (drop i M) (r - i) 0
        ∙ get_or-drop i M (r - i) 0 ∙ ap (λ (q : ℕ). get_or M q 0) j

    -- a row that is the same in both
    pub mixed_same : (r : ℕ) → get_or D r 0 ≡ get_or M r 0 → get_or (mixed i D M) r 0 ≡ get_or M r 0
    mixed_same r e = go (dec_lt r i)
      where
        go : Dec (r < i) → get_or (mixed i D M) r 0 ≡ get_or M r 0
        go (yes y) = before r y ∙ e
        go (no n) = after r (omega arith)

-- ---- slices

-- the slice l, with the first i of its n rows of s words replaced by those of D
unfoldable pub rewritten : List ℕ → ℕ → ℕ → List ℕ → ℕ → List ℕ
rewritten l s n D i = image s (mixed i D (matrix s n l)) (drop (n * s) l)

module _ (l : List ℕ) (s n : ℕ) (D : List ℕ) (f : AreWords l) (room : n * s ≤ length l) (count : length D ≡ n) where
  abbrev M : List ℕ
  M = matrix s n l

  rows : length M ≡ n
  rows = length_matrix s n l

  size : length D ≡ length M
  size = count ∙ sym rows

  pub rewritten_none : l ≡ rewritten l s n D 0
  unfolding rewritten
  rewritten_none = sym (ap (λ (A : List ℕ). image s A (drop (n * s) l)) (mixed_none D M) ∙ image_matrix s n l f room)

  pub rewritten_all : (i : ℕ) → n ≤ i → rewritten l s n D i ≡ image s D (drop (n * s) l)
  unfolding rewritten
  rewritten_all i h = ap (λ (A : List ℕ). image s A (drop (n * s) l)) (mixed_all D M size i (rw rows h))

  -- a slice w whose first i rows are done
  module _ (i : ℕ) (h : i < n) (w : List ℕ) (e : w ≡ rewritten l s n D i) where
    in_matrix : i < length M
    in_matrix = rw rows h

    width : length (mixed i D M) ≡ n
    unfolding mixed
    width = length-append (take i D) (drop i M) ∙ ap₂ ◌+◌ (length-take-le i D (omega (arith, size, in_matrix))) (length-drop i M) ∙ omega (arith, rows)

    pub rewritten_words : AreWords w
    unfolding rewritten
    rewritten_words = subst AreWords (sym e) (words_image s (mixed i D M) (drop (n * s) l) (words_drop l (n * s) f))

    -- a row that is the same in D, such as row i and those after it
    same_row : (r : ℕ) → r < n → get_or (mixed i D M) r 0 ≡ get_or M r 0 → row_at w (r * s) s ≡ get_or M r 0
    unfolding rewritten
    same_row r hr k =
        ap (λ (m : List ℕ). row_at m (r * s) s) e
        ∙ row_image s (mixed i D M) (drop (n * s) l) r (rw width hr) (rw k (matrix_lt s n l f room r)) ∙ k

    pub row_here : row_at w (i * s) s ≡ get_or M i 0
    row_here = same_row i h (mixed_here D M size i in_matrix)

    pub row_same : (r : ℕ) → r < n → get_or D r 0 ≡ get_or M r 0 → row_at w (r * s) s ≡ get_or M r 0
    row_same r hr k = same_row r hr (mixed_same D M size i (omega (arith, in_matrix)) r k)

    -- the bit that is looked at
    pub bit_here : (c : ℕ) → n * s ≤ length w → c < 64 * s → bit (value (drop (i * s) w)) c ≡ bit (get_or M i 0) c
    bit_here c k wide = sym (bit_row w (i * s) s c rewritten_words (omega (arith, row_in i n s h)) wide) ∙ ap (λ (v : ℕ). bit v c) row_here

    pub rewritten_row : (v : ℕ) → v ≡ get_or D i 0 → put_row w (i * s) s v ≡ rewritten l s n D (i + 1)
    unfolding rewritten
    rewritten_row v k =
        ap₂ (λ (m : List ℕ) (x : ℕ). put_row m (i * s) s x) e k
        ∙ put_image s (mixed i D M) (drop (n * s) l) i (get_or D i 0) (rw width h)
        ∙ ap (λ (A : List ℕ). image s A (drop (n * s) l)) (mixed_set D M size i in_matrix)

    pub rewritten_same : get_or D i 0 ≡ get_or M i 0 → w ≡ rewritten l s n D (i + 1)
    unfolding rewritten
    rewritten_same k = e ∙ ap (λ (A : List ℕ). image s A (drop (n * s) l)) (mixed_skip D M size i in_matrix k)
