-- Laws of the reduction as the code makes it: what is still to be done to a slice in which the first r pivots are placed.
use Rattle.std.proofs.Common.{Some, None}
use mathlib.Core.Path.{◌≡◌, sym, ap, ap₂, ◌∙◌, subst}
use mathlib.Core.List.{List, [], ◌∷◌, ◌++◌}
use Prim.Native.Nat.{ℕ, suc, ◌+◌, ◌-◌, ◌*◌, ◌^◌, ◌≤◌, ◌<◌}
use native.Mathlib.Nat.{add-zero, add_comm, sub-zero, zero-mul, suc-mul, zero-add, add_assoc}
use native.Mathlib.Numerals.{add-one}
use native.Mathlib.Omega.{arith}
use native.Mathlib.Decide.{dec_lt}
use lib.ListN.{length, get_or, set, take, drop, length-set, take-append-drop, length-drop}
use lib.Seq.{take-suc-set, drop-set-lt, drop-drop, append_snoc, get_or-set_same}
use Rattle.binar.specs.declared.echelon.Cell.{Cell}
use Rattle.binar.specs.Words.{row_at, put_row, matrix, image, words}
use Rattle.binar.specs.Echelon.{pivot_of, swap_rows, add_to_others, place_pivot, Reduction, with_pivot, on_found, echelonize_from, echelonize}
use Rattle.binar.specs.Laid.{laid_out}
use Rattle.binar.proofs.row.Slice.{AreWords, exchanged, length_words}
use Rattle.binar.proofs.echelon.Matrix.{Below, below_set, words_image, words_drop, length_matrix, matrix_lt, image_matrix, drop_image, matrix_image, row_image, put_image}
use Rattle.binar.proofs.echelon.Kept.{echelonize_length}
use Rattle.binar.proofs.echelon.Others.{added_below, length_added}

-- ---- stores to a list of words or rows

words_set : (l : List ℕ) (k x : ℕ) → AreWords l → x < 2 ^ 64 → AreWords (set l k x)
words_set l k x f h = below_set 64 l k x f h

-- ---- what is left to do

-- the reduction from row r and column c on
unfoldable pub left : List ℕ → ℕ → ℕ → ℕ → ℕ → ℕ → Reduction
left l s n cols r c = echelonize_from cols (n - r) r c (matrix s n l)

-- the slice at its end; r pivots stand behind the rows already
unfoldable pub final : List ℕ → ℕ → ℕ → ℕ → ℕ → ℕ → List ℕ
final l s n cols r c =
    let f = left l s n cols r c in
    let behind = drop (n * s) l in
    image s f.rows (take r behind ++ (f.pivots ++ drop (r + length f.pivots) behind))

-- the number of pivots at its end
unfoldable pub total : List ℕ → ℕ → ℕ → ℕ → ℕ → ℕ → ℕ
total l s n cols r c = r + length (left l s n cols r c).pivots

module _ (l : List ℕ) (s n cols : ℕ) where
  left_start : left l s n cols 0 0 ≡ echelonize cols (matrix s n l)
  unfolding left echelonize
  left_start = ap (λ (k : ℕ). echelonize_from cols k 0 0 (matrix s n l)) (sub-zero n ∙ sym (length_matrix s n l))

  pub final_start : final l s n cols 0 0 ≡ laid_out s (echelonize cols (matrix s n l)) l
  unfolding final laid_out
  final_start =
      let f = echelonize cols (matrix s n l) in
      ap (λ (g : Reduction). image s g.rows (g.pivots ++ drop (0 + length g.pivots) (drop (n * s) l))) left_start
      ∙ ap (λ (t : List ℕ). image s f.rows (f.pivots ++ t))
      (ap (λ (k : ℕ). drop k (drop (n * s) l)) (zero-add (length f.pivots)) ∙ drop-drop (length f.pivots) (n * s) l
      ∙ ap (λ (k : ℕ). drop (k * s + length f.pivots) l) (sym (echelonize_length cols (matrix s n l) ∙ length_matrix s n l)))

  pub total_start : total l s n cols 0 0 ≡ length (echelonize cols (matrix s n l)).pivots
  unfolding total
  total_start = zero-add _ ∙ ap (λ (g : Reduction). length g.pivots) left_start

-- ---- no pivot is left

module _ (l : List ℕ) (s n cols r c : ℕ) where
  abbrev Stops : Type 0
  Stops = left l s n cols r c ≡ record { rows = matrix s n l; pivots = [] }

  pub stops_end : n ≤ r → Stops
  unfolding left echelonize_from
  stops_end h = let e : n - r ≡ 0 = omega arith in rw e

  stops_none : r < n → pivot_of cols r c (matrix s n l) ≡ None → Stops
  unfolding left echelonize_from on_found
  stops_none h e = let k : n - r ≡ suc (n - (r + 1)) = omega arith in rw (k, e)

  pub stops : pivot_of cols r c (matrix s n l) ≡ None → Stops
  stops e = elim (dec_lt r n) [ yes h ↦ stops_none h e | no h ↦ stops_end (omega arith) ]

  pub final_stop : AreWords l → n * s ≤ length l → Stops → final l s n cols r c ≡ l
  unfolding final
  final_stop f h e =
      ap (λ (g : Reduction). image s g.rows (take r (drop (n * s) l) ++ (g.pivots ++ drop (r + length g.pivots) (drop (n * s) l)))) e
      ∙ ap (image s (matrix s n l)) (ap (λ (k : ℕ). take r (drop (n * s) l) ++ drop k (drop (n * s) l)) (add-zero r) ∙ take-append-drop r (drop (n * s) l))
      ∙ image_matrix s n l f h

  pub total_stop : Stops → total l s n cols r c ≡ r
  unfolding total
  total_stop e = ap (λ (g : Reduction). r + length g.pivots) e ∙ add-zero r

-- ---- a pivot is placed

set_after : (xs l : List ℕ) (k x : ℕ) → set (xs ++ l) (length xs + k) x ≡ xs ++ set l k x
set_after [] l k x = ap (λ (j : ℕ). set l j x) (zero-add k)
set_after (y ∷ xs) l k x = let e : suc (length xs) + k ≡ suc (length xs + k) = omega arith in rw e (ap (y ∷◌) (set_after xs l k x))

-- a store behind the rows
set_behind : (s : ℕ) (M rest : List ℕ) (k x : ℕ) → set (image s M rest) (length M * s + k) x ≡ image s M (set rest k x)
unfolding image
set_behind s [] rest k x = ap (λ (j : ℕ). set rest j x) (ap (◌+ k) (zero-mul s) ∙ zero-add k)
set_behind s (v ∷ M) rest k x =
    ap (λ (j : ℕ). set (words s v ++ image s M rest) j x)
    (ap (◌+ k) (suc-mul (length M) s ∙ add_comm (length M * s) s) ∙ add_assoc s (length M * s) k ∙ ap (◌+ (length M * s + k)) (sym (length_words s v)))
    ∙ set_after (words s v) (image s M rest) (length M * s + k) x ∙ ap (words s v ++◌) (set_behind s M rest k x)

module _ (l : List ℕ) (s n cols r c : ℕ) (cell : Cell) (f : AreWords l) (room : n * s + n ≤ length l) (hr : r < n) (hi : cell.row < n) where
  abbrev M : List ℕ
  M = matrix s n l

  abbrev behind : List ℕ
  behind = drop (n * s) l

  abbrev i : ℕ
  i = cell.row

  abbrev j : ℕ
  j = cell.col

  -- the slice after the swap, after the additions, and with the pivot written
  abbrev swapped : List ℕ
  swapped = exchanged l (i * s) (r * s) s

  abbrev cleared : List ℕ
  cleared = image s (add_to_others j (row_at swapped (r * s) s) r 0 (matrix s n swapped)) (drop (n * s) swapped)

  abbrev placed : List ℕ
  placed = set cleared (n * s + r) j

  rows : length M ≡ n
  rows = length_matrix s n l

  bound : Below (64 * s) M
  bound = matrix_lt s n l f (omega arith)

  whole : l ≡ image s M behind
  whole = sym (image_matrix s n l f (omega arith))

  swap_rows_is : swapped ≡ image s (swap_rows i r M) behind
  unfolding exchanged swap_rows
  swap_rows_is =
      let ri = row_image s M behind i (rw rows hi) (bound i) in
      let rr = row_image s M behind r (rw rows hr) (bound r) in
      ap (λ (m : List ℕ). exchanged m (i * s) (r * s) s) whole
      ∙ ap₂ (λ (x : ℕ) (y : ℕ). put_row (put_row (image s M behind) (i * s) s y) (r * s) s x) ri rr
      ∙ ap (λ (m : List ℕ). put_row m (r * s) s (get_or M i 0)) (put_image s M behind i (get_or M r 0) (rw rows hi))
      ∙ put_image s (set M i (get_or M r 0)) behind r (get_or M i 0) (rw length-set (rw rows hr))

  swap_length : length (swap_rows i r M) ≡ n
  unfolding swap_rows
  swap_length = simp length-set rows

  swap_bound : Below (64 * s) (swap_rows i r M)
  unfolding swap_rows
  swap_bound = below_set (64 * s) (set M i (get_or M r 0)) r (get_or M i 0) (below_set (64 * s) M i (get_or M r 0) bound (bound r)) (bound i)

  swap_matrix : matrix s n swapped ≡ swap_rows i r M
  swap_matrix =
      ap (matrix s n) swap_rows_is ∙ ap (λ (k : ℕ). matrix s k (image s (swap_rows i r M) behind)) (sym swap_length) ∙ matrix_image s (swap_rows i r M) behind swap_bound

  swap_pivot : row_at swapped (r * s) s ≡ get_or M i 0
  unfolding swap_rows
  swap_pivot =
      ap (λ (m : List ℕ). row_at m (r * s) s) swap_rows_is ∙ row_image s (swap_rows i r M) behind r (rw swap_length hr) (swap_bound r)
      ∙ get_or-set_same (set M i (get_or M r 0)) r (get_or M i 0) 0 (rw length-set (rw rows hr))

  behind_image : (A : List ℕ) → length A ≡ n → (t : List ℕ) → drop (n * s) (image s A t) ≡ t
  behind_image A e t = ap (λ (k : ℕ). drop (k * s) (image s A t)) (sym e) ∙ drop_image s A t

  clear_is : cleared ≡ image s (place_pivot r i j M) behind
  unfolding place_pivot
  clear_is =
      ap₂ (image s) (ap₂ (λ (p : ℕ) (A : List ℕ). add_to_others j p r 0 A) swap_pivot swap_matrix)
      (ap (drop (n * s)) swap_rows_is ∙ behind_image (swap_rows i r M) swap_length behind)

  place_length : length (place_pivot r i j M) ≡ n
  unfolding place_pivot
  place_length = length_added j (get_or M i 0) r 0 (swap_rows i r M) ∙ swap_length

  place_bound : Below (64 * s) (place_pivot r i j M)
  unfolding place_pivot
  place_bound = added_below (64 * s) j (get_or M i 0) r 0 (swap_rows i r M) (bound i) swap_bound

  placed_is : placed ≡ image s (place_pivot r i j M) (set behind r j)
  placed_is =
      ap (λ (m : List ℕ). set m (n * s + r) j) clear_is
      ∙ ap (λ (k : ℕ). set (image s (place_pivot r i j M) behind) (k * s + r) j) (sym place_length) ∙ set_behind s (place_pivot r i j M) behind r j

  placed_matrix : matrix s n placed ≡ place_pivot r i j M
  placed_matrix =
      ap (matrix s n) placed_is ∙ ap (λ (k : ℕ). matrix s k (image s (place_pivot r i j M) (set behind r j))) (sym place_length)
      ∙ matrix_image s (place_pivot r i j M) (set behind r j) place_bound

  placed_behind : drop (n * s) placed ≡ set behind r j
  placed_behind = ap (drop (n * s)) placed_is ∙ behind_image (place_pivot r i j M) place_length (set behind r j)

  module _ (e : pivot_of cols r c M ≡ Some cell) where
    left_next : left l s n cols r c ≡ with_pivot j (left placed s n cols (r + 1) (j + 1))
    unfolding left echelonize_from on_found
    left_next =
        let k : n - r ≡ suc (n - (r + 1)) = omega arith in
        rw (k, e, add-one r, add-one j, placed_matrix)

    total_next : total l s n cols r c ≡ total placed s n cols (r + 1) (j + 1)
    unfolding total with_pivot
    total_next = ap (λ (g : Reduction). r + length g.pivots) left_next ∙ omega arith

    final_next : final l s n cols r c ≡ final placed s n cols (r + 1) (j + 1)
    unfolding final with_pivot
    final_next =
        let g = left placed s n cols (r + 1) (j + 1) in
        let k = length g.pivots in
        let in-behind : r < length behind = rw length-drop (omega arith) in
        let past : r + suc k ≡ r + 1 + k = omega arith in
        ap (λ (h : Reduction). image s h.rows (take r behind ++ (h.pivots ++ drop (r + length h.pivots) behind))) left_next
        ∙ ap (image s g.rows)
        (sym (append_snoc (take r behind) j (g.pivots ++ drop (r + suc k) behind))
        ∙ ap₂ (λ (a : List ℕ) (b : List ℕ). a ++ (g.pivots ++ b))
        (sym (ap (λ (q : ℕ). take q (set behind r j)) (add-one r) ∙ take-suc-set behind r j in-behind))
        (ap (λ (q : ℕ). drop q behind) past ∙ sym (drop-set-lt (r + 1 + k) behind r j (omega arith))))
        ∙ sym (ap (λ (t : List ℕ). image s g.rows (take (r + 1) t ++ (g.pivots ++ drop (r + 1 + k) t))) placed_behind)

  -- the same, for slices that are equal to these
  module _ (a b : List ℕ) (ea : a ≡ swapped) (eb : b ≡ image s (add_to_others j (row_at a (r * s) s) r 0 (matrix s n a)) (drop (n * s) a)) (e : pivot_of cols r c M ≡ Some cell) where
    same : placed ≡ set b (n * s + r) j
    same = sym (ap (λ (m : List ℕ). set m (n * s + r) j) (eb ∙ ap (λ (m : List ℕ). image s (add_to_others j (row_at m (r * s) s) r 0 (matrix s n m)) (drop (n * s) m)) ea))

    pub turn_words : j < 2 ^ 64 → AreWords (set b (n * s + r) j)
    turn_words h = subst AreWords (sym placed_is ∙ same) (words_image s (place_pivot r i j M) (set behind r j) (words_set behind r j (words_drop l (n * s) f) h))

    pub final_turn : final l s n cols r c ≡ final (set b (n * s + r) j) s n cols (r + 1) (j + 1)
    final_turn = final_next e ∙ ap (λ (m : List ℕ). final m s n cols (r + 1) (j + 1)) same

    pub total_turn : total l s n cols r c ≡ total (set b (n * s + r) j) s n cols (r + 1) (j + 1)
    total_turn = total_next e ∙ ap (λ (m : List ℕ). total m s n cols (r + 1) (j + 1)) same
