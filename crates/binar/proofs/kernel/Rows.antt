-- Rows written one after the other into a slice.
use Rattle.std.proofs.Common.{◌≡◌, refl, ap, ap₂, ◌∙◌, List, [], ◌∷◌, ◌++◌, length, get_or, drop, drop-drop, ℕ, suc, ◌+◌, ◌*◌, ◌≤◌, ◌<◌, arith}
use Rattle.binar.specs.Words.{row_at, put_row, put_rows, matrix}
use Rattle.binar.proofs.row.Slice.{AreWords, length_put}
use Rattle.binar.proofs.echelon.Matrix.{Below}
use Rattle.binar.proofs.matrix_form.Sweep.{row_put, get_put_before, row_put_before, words_put}

-- the last of them
pub put_last : (l M : List ℕ) (i n v : ℕ) → put_rows l i n (M ++ v ∷ []) ≡ put_row (put_rows l i n M) (i + length M * n) n v
unfolding put_rows
put_last l [] i n v = ap (λ (j : ℕ). put_row l j n v) (omega arith)
put_last l (u ∷ M) i n v = put_last (put_row l i n u) M (i + n) n v ∙ ap (λ (j : ℕ). put_row (put_rows (put_row l i n u) (i + n) n M) j n v) (omega arith)

pub words_puts : (l M : List ℕ) (i n : ℕ) → AreWords l → AreWords (put_rows l i n M)
unfolding put_rows
words_puts l [] i n f = f
words_puts l (v ∷ M) i n f = words_puts (put_row l i n v) M (i + n) n (words_put l i n v f)

pub length_puts : (l M : List ℕ) (i n : ℕ) → i + length M * n ≤ length l → length (put_rows l i n M) ≡ length l
unfolding put_rows
length_puts l [] i n h = refl
length_puts l (v ∷ M) i n h =
    let e = length_put l i n v (omega arith) in
    length_puts (put_row l i n v) M (i + n) n (omega (arith, e)) ∙ e

-- what stands before them stays
pub get_puts_before : (l M : List ℕ) (i n j : ℕ) → i + length M * n ≤ length l → j < i → get_or (put_rows l i n M) j 0 ≡ get_or l j 0
unfolding put_rows
get_puts_before l [] i n j h k = refl
get_puts_before l (v ∷ M) i n j h k =
    get_puts_before (put_row l i n v) M (i + n) n j (omega (arith, length_put l i n v (omega arith))) (omega arith) ∙ get_put_before l i n v (omega arith) j k

row_puts_before : (l M : List ℕ) (i n j m : ℕ) → i + length M * n ≤ length l → j + m ≤ i → row_at (put_rows l i n M) j m ≡ row_at l j m
unfolding put_rows
row_puts_before l [] i n j m h k = refl
row_puts_before l (v ∷ M) i n j m h k =
    row_puts_before (put_row l i n v) M (i + n) n j m (omega (arith, length_put l i n v (omega arith))) (omega arith) ∙ row_put_before l i n v j m (omega arith) k

-- they are read back
pub rows_puts : (l M : List ℕ) (i n : ℕ) → i + length M * n ≤ length l → Below (64 * n) M → matrix n (length M) (drop i (put_rows l i n M)) ≡ M
unfolding put_rows matrix row_at
rows_puts l [] i n h b = refl
rows_puts l (v ∷ M) i n h b =
    let w = put_row l i n v in
    let room : i + n + length M * n ≤ length w = omega (arith, length_put l i n v (omega arith)) in
    ap₂ ◌∷◌ (row_puts_before w M (i + n) n i n room (omega arith) ∙ row_put l i n v (omega arith) (b 0))
    (ap (matrix n (length M)) (drop-drop n i (put_rows w (i + n) n M)) ∙ rows_puts w M (i + n) n room (λ k. b (suc k)))
