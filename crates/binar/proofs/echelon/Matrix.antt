-- Laws of a matrix in a slice: rows read and written by their number.
use mathlib.Core.Path.{◌≡◌, refl, sym, ap, ap₂, ◌∙◌, subst}
use mathlib.Core.Logic.{◌⊎◌, inl, inr}
use mathlib.Core.List.{List, [], ◌∷◌, ◌++◌, append_assoc}
use Prim.Native.Nat.{ℕ, zero, suc, ◌+◌, ◌-◌, ◌*◌, ◌/◌, ◌^◌, ◌≤◌, ◌<◌}
use native.Mathlib.Nat.{zero-add, add_assoc, add_comm, zero-mul, suc-mul, mul-le-mul_right}
use native.Mathlib.Omega.{arith}
use native.Mathlib.Decide.{dec_lt}
use lib.Arith.{digits_lt}
use lib.ListN.{length, get_or, set, take, drop, length-append, length-drop, take-append-drop, get_or-eq_default}
use lib.Pow.{high, low, split, shr_lt, pow_pos, pow-add}
use lib.Seq.{take_at, drop_at, drop-append-add, length-take-le, take-append-add, drop-drop, get_or-drop}
use Rattle.binar.specs.Row.{bit}
use Rattle.binar.specs.Words.{value, words, row_at, put_row, matrix, image, TwoRows}
use Rattle.binar.proofs.row.Slice.{AreWords, length_words}
use Rattle.binar.proofs.row.Scan.{bit_low, bit_high}

-- ---- words and the number that they write

pub value_lt : (l : List ℕ) → AreWords l → value l < 2 ^ (64 * length l)
unfolding value
value_lt [] f = omega arith
value_lt (w ∷ ws) f =
    let e : 64 * suc (length ws) ≡ 64 * length ws + 64 = omega arith in
    rw (e, pow-add 2 (64 * length ws) 64) (digits_lt (value_lt ws (λ k. f (suc k))) (f 0))

pub words_value : (l : List ℕ) → AreWords l → words (length l) (value l) ≡ l
unfolding value words
words_value [] f = refl
words_value (w ∷ ws) f = ap₂ ◌∷◌ (low (value ws) 64 (f 0)) (ap (words (length ws)) (high (value ws) 64 (f 0)) ∙ words_value ws (λ k. f (suc k)))

pub value_words : (n v : ℕ) → v < 2 ^ (64 * n) → value (words n v) ≡ v
unfolding value words
value_words zero v h = omega arith
value_words (suc n) v h = rw (value_words n (v / 2 ^ 64) fits) (split v 64)
  where
    e : 64 * suc n ≡ 64 * n + 64
    e = omega arith

    fits : v / 2 ^ 64 < 2 ^ (64 * n)
    fits = shr_lt (64 * n) 64 (rw e at h)

-- a row of n words, of a longer stretch
pub bit_take : (l : List ℕ) (n c : ℕ) → AreWords l → n ≤ length l → c < 64 * n → bit (value (take n l)) c ≡ bit (value l) c
unfolding value
bit_take l zero c f h g = absurd (omega arith)
bit_take [] (suc n) c f h g = absurd (omega arith)
bit_take (w ∷ ws) (suc n) c f h g = go (λ d. bit_take ws n d (λ k. f (suc k)) (omega arith)) (dec_lt c 64)
  where
    go : ((d : ℕ) → d < 64 * n → bit (value (take n ws)) d ≡ bit (value ws) d) → Dec (c < 64) → bit (value (take n ws) * 2 ^ 64 + w) c ≡ bit (value ws * 2 ^ 64 + w) c
    go rec (yes y) = bit_low 64 (value (take n ws)) w c y (f 0) ∙ sym (bit_low 64 (value ws) w c y (f 0))
    go rec (no y) =
        ap (bit (value (take n ws) * 2 ^ 64 + w)) here ∙ bit_high 64 (value (take n ws)) w (c - 64) (f 0) ∙ rec (c - 64) (omega arith)
        ∙ sym (bit_high 64 (value ws) w (c - 64) (f 0)) ∙ ap (bit (value ws * 2 ^ 64 + w)) (sym here)
      where
        here : c ≡ 64 + (c - 64)
        here = omega arith

pub words_drop : (l : List ℕ) (i : ℕ) → AreWords l → AreWords (drop i l)
words_drop l i f k = subst (λ (n : ℕ). n < 2 ^ 64) (sym (get_or-drop i l k 0)) (f (i + k))

pub words_take : (l : List ℕ) (n : ℕ) → AreWords l → AreWords (take n l)
words_take l zero f k = omega arith
words_take [] (suc n) f k = omega arith
words_take (w ∷ ws) (suc n) f zero = f 0
words_take (w ∷ ws) (suc n) f (suc k) = words_take ws n (λ j. f (suc j)) k

pub row_lt : (l : List ℕ) (i n : ℕ) → AreWords l → i + n ≤ length l → row_at l i n < 2 ^ (64 * n)
unfolding row_at
row_lt l i n f h =
    subst (λ (m : ℕ). value (take n (drop i l)) < 2 ^ (64 * m)) (length-take-le n (drop i l) (rw length-drop (omega arith)))
    (value_lt (take n (drop i l)) (words_take (drop i l) n (words_drop l i f)))

pub bit_row : (l : List ℕ) (i n c : ℕ) → AreWords l → i + n ≤ length l → c < 64 * n → bit (row_at l i n) c ≡ bit (value (drop i l)) c
unfolding row_at
bit_row l i n c f h g = bit_take (drop i l) n c (words_drop l i f) (rw length-drop (omega arith)) g

-- ---- a matrix read

-- each row is below 2^k
abbrev pub Below : ℕ → List ℕ → Type 0
Below k M = (i : ℕ) → get_or M i 0 < 2 ^ k

pub below_set : (k : ℕ) (M : List ℕ) (i v : ℕ) → Below k M → v < 2 ^ k → Below k (set M i v)
below_set k [] i v b h j = b j
below_set k (u ∷ M) zero v b h zero = h
below_set k (u ∷ M) zero v b h (suc j) = b (suc j)
below_set k (u ∷ M) (suc i) v b h zero = b 0
below_set k (u ∷ M) (suc i) v b h (suc j) = below_set k M i v (λ q. b (suc q)) h j

pub length_matrix : (s n : ℕ) (l : List ℕ) → length (matrix s n l) ≡ n
unfolding matrix
length_matrix s zero l = refl
length_matrix s (suc n) l = ap suc (length_matrix s n (drop s l))

pub matrix_row : (s n : ℕ) (l : List ℕ) (i : ℕ) → i < n → get_or (matrix s n l) i 0 ≡ row_at l (i * s) s
unfolding matrix row_at
matrix_row s zero l i h = absurd (omega arith)
matrix_row s (suc n) l zero h = rw zero-mul
matrix_row s (suc n) l (suc i) h =
    matrix_row s n (drop s l) i (omega arith) ∙ ap (λ (t : List ℕ). value (take s t)) (drop-drop (i * s) s l ∙ ap (λ (k : ℕ). drop k l) (add_comm s (i * s) ∙ sym (suc-mul i s)))

-- a row with its number lies within the rows
pub row_in : (i n s : ℕ) → i < n → i * s + s ≤ n * s
row_in i n s h = subst (λ (k : ℕ). k ≤ n * s) (suc-mul i s) (mul-le-mul_right s h)

-- the bit of a cell
pub cell_bit : (s n : ℕ) (l : List ℕ) (i c : ℕ) → AreWords l → n * s ≤ length l → i < n → c < 64 * s → bit (value (drop (i * s) l)) c ≡ bit (get_or (matrix s n l) i 0) c
cell_bit s n l i c f h hi hc = sym (bit_row l (i * s) s c f (omega (arith, row_in i n s hi)) hc) ∙ ap (λ (v : ℕ). bit v c) (sym (matrix_row s n l i hi))

pub matrix_lt : (s n : ℕ) (l : List ℕ) → AreWords l → n * s ≤ length l → Below (64 * s) (matrix s n l)
matrix_lt s n l f h i = go (dec_lt i n)
  where
    go : Dec (i < n) → get_or (matrix s n l) i 0 < 2 ^ (64 * s)
    go (yes y) = rw (matrix_row s n l i y) (row_lt l (i * s) s f (omega (arith, row_in i n s y)))
    go (no y) = rw (get_or-eq_default (matrix s n l) 0 {n = i} (rw (length_matrix s n l) (omega arith))) (pow_pos (64 * s))

pub image_matrix : (s n : ℕ) (l : List ℕ) → AreWords l → n * s ≤ length l → image s (matrix s n l) (drop (n * s) l) ≡ l
unfolding image matrix
image_matrix s zero l f h = rw zero-mul
image_matrix s (suc n) l f h =
    let b : s + n * s ≤ length l = omega (arith, suc-mul n s, add_comm s (n * s)) in
    let t : length (take s l) ≡ s = length-take-le s l (omega arith) in
    ap₂ (λ (x : List ℕ) (y : List ℕ). x ++ y)
    (ap (λ (m : ℕ). words m (value (take s l))) (sym t) ∙ words_value (take s l) (words_take l s f))
    (ap (image s (matrix s n (drop s l))) (ap (λ (k : ℕ). drop k l) (suc-mul n s ∙ add_comm (n * s) s) ∙ sym (drop-drop (n * s) s l))
    ∙ image_matrix s n (drop s l) (words_drop l s f) (rw length-drop (omega arith)))
    ∙ take-append-drop s l

-- ---- a matrix written

pub length_image : (s : ℕ) (M rest : List ℕ) → length (image s M rest) ≡ length M * s + length rest
unfolding image
length_image s [] rest = rw zero-mul (sym (zero-add (length rest)))
length_image s (v ∷ M) rest =
    length-append (words s v) (image s M rest) ∙ ap₂ ◌+◌ (length_words s v) (length_image s M rest)
    ∙ sym (add_assoc s (length M * s) (length rest)) ∙ ap (λ (k : ℕ). k + length rest) (add_comm s (length M * s) ∙ sym (suc-mul (length M) s))

pub words_words : (n v : ℕ) → AreWords (words n v)
unfolding words
words_words zero v k = omega arith
words_words (suc n) v zero = omega arith
words_words (suc n) v (suc k) = words_words n (v / 2 ^ 64) k

pub words_append : (l m : List ℕ) → AreWords l → AreWords m → AreWords (l ++ m)
words_append [] m f g k = g k
words_append (w ∷ l) m f g zero = f 0
words_append (w ∷ l) m f g (suc k) = words_append l m (λ j. f (suc j)) g k

pub words_image : (s : ℕ) (M rest : List ℕ) → AreWords rest → AreWords (image s M rest)
unfolding image
words_image s [] rest g = g
words_image s (v ∷ M) rest g = words_append (words s v) (image s M rest) (words_words s v) (words_image s M rest g)

pub drop_image : (s : ℕ) (M rest : List ℕ) → drop (length M * s) (image s M rest) ≡ rest
unfolding image
drop_image s [] rest = rw zero-mul
drop_image s (v ∷ M) rest =
    ap (λ (k : ℕ). drop k (words s v ++ image s M rest)) (suc-mul (length M) s ∙ add_comm (length M * s) s ∙ ap (◌+ length M * s) (sym (length_words s v)))
    ∙ drop-append-add (words s v) (image s M rest) (length M * s) ∙ drop_image s M rest

pub matrix_image : (s : ℕ) (M rest : List ℕ) → Below (64 * s) M → matrix s (length M) (image s M rest) ≡ M
unfolding image matrix
matrix_image s [] rest b = refl
matrix_image s (v ∷ M) rest b =
    ap₂ ◌∷◌ (ap value (take_at (words s v) (image s M rest) s (length_words s v)) ∙ value_words s v (b 0))
    (ap (matrix s (length M)) (drop_at (words s v) (image s M rest) s (length_words s v)) ∙ matrix_image s M rest (λ i. b (suc i)))

-- the row with number i, in a slice that holds the matrix M
pub row_image : (s : ℕ) (M rest : List ℕ) (i : ℕ) → i < length M → get_or M i 0 < 2 ^ (64 * s) → row_at (image s M rest) (i * s) s ≡ get_or M i 0
unfolding image row_at
row_image s [] rest i h b = absurd (omega arith)
row_image s (v ∷ M) rest zero h b = rw zero-mul (ap value (take_at (words s v) (image s M rest) s (length_words s v)) ∙ value_words s v b)
row_image s (v ∷ M) rest (suc i) h b =
    ap (λ (t : List ℕ). value (take s t))
    (ap (λ (k : ℕ). drop k (words s v ++ image s M rest)) (suc-mul i s ∙ add_comm (i * s) s ∙ ap (◌+ i * s) (sym (length_words s v)))
    ∙ drop-append-add (words s v) (image s M rest) (i * s))
    ∙ row_image s M rest i (omega arith) b

put_after : (xs l : List ℕ) (i n v : ℕ) → put_row (xs ++ l) (length xs + i) n v ≡ xs ++ put_row l i n v
unfolding put_row
put_after xs l i n v =
    ap₂ (λ (a : List ℕ) (b : List ℕ). a ++ (words n v ++ b)) (take-append-add xs l i) (ap (λ (k : ℕ). drop k (xs ++ l)) (add_assoc (length xs) i n) ∙ drop-append-add xs l (i + n))
    ∙ append_assoc xs (take i l) (words n v ++ drop (i + n) l)

pub put_image : (s : ℕ) (M rest : List ℕ) (i v : ℕ) → i < length M → put_row (image s M rest) (i * s) s v ≡ image s (set M i v) rest
unfolding image put_row
put_image s [] rest i v h = absurd (omega arith)
put_image s (u ∷ M) rest zero v h = rw zero-mul (ap (words s v ++◌) (ap (λ (k : ℕ). drop k (words s u ++ image s M rest)) (zero-add s) ∙ drop_at (words s u) (image s M rest) s (length_words s u)))
put_image s (u ∷ M) rest (suc i) v h =
    ap (λ (k : ℕ). put_row (words s u ++ image s M rest) k s v) (suc-mul i s ∙ add_comm (i * s) s ∙ ap (◌+ i * s) (sym (length_words s u)))
    ∙ put_after (words s u) (image s M rest) (i * s) s v ∙ ap (words s u ++◌) (put_image s M rest i v (omega arith))

-- rows of one matrix are the same or apart
pub rows_apart : (s i j : ℕ) → (i * s ≡ j * s) ⊎ ((i * s + s ≤ j * s) ⊎ (j * s + s ≤ i * s))
rows_apart s i j = go (dec_lt i j) (dec_lt j i)
  where
    go : Dec (i < j) → Dec (j < i) → (i * s ≡ j * s) ⊎ ((i * s + s ≤ j * s) ⊎ (j * s + s ≤ i * s))
    go (yes y) d = inr (inl (row_in i j s y))
    go (no n) (yes y) = inr (inr (row_in j i s y))
    go (no n) (no m) = let e : i ≡ j = omega arith in inl (ap (◌* s) e)

pub two_rows : (s n : ℕ) (l : List ℕ) (i j : ℕ) → n * s ≤ length l → i < n → j < n → TwoRows l (i * s) (j * s) s
two_rows s n l i j h hi hj = record { first = omega (arith, row_in i n s hi); second = omega (arith, row_in j n s hj); apart = rows_apart s i j }
