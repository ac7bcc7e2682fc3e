-- Rows and matrices in a slice of 64-bit words.
use Rattle.std.specs.Prelude.{◌≡◌, ◌⊎◌, List, [], ◌∷◌, ◌++◌, ℕ, zero, suc, ◌+◌, ◌*◌, ◌/◌, ◌%◌, ◌^◌, ◌≤◌, length, take, drop}

-- the number that words write, the lowest word first
unfoldable pub value : List ℕ → ℕ
value [] = 0
value (w ∷ ws) = value ws * 2 ^ 64 + w

-- the lowest n words of a number
unfoldable pub words : ℕ → ℕ → List ℕ
words zero v = []
words (suc n) v = v % 2 ^ 64 ∷ words n (v / 2 ^ 64)

-- the row of n words that starts at word i of a slice
unfoldable pub row_at : List ℕ → ℕ → ℕ → ℕ
row_at l i n = value (take n (drop i l))

-- a slice with the row v in the n words from word i on
unfoldable pub put_row : List ℕ → ℕ → ℕ → ℕ → List ℕ
put_row l i n v = take i l ++ (words n v ++ drop (i + n) l)

-- a slice with the rows of a matrix, n words each, one after the other from word i on
unfoldable pub put_rows : List ℕ → ℕ → ℕ → List ℕ → List ℕ
put_rows l i n [] = l
put_rows l i n (v ∷ M) = put_rows (put_row l i n v) (i + n) n M

-- the rows of n words at words i and j: both lie in the slice, and they are the same or have no word in common
pub record TwoRows (l : List ℕ) (i j n : ℕ) : Type 0 where
  pub first : i + n ≤ length l
  pub second : j + n ≤ length l
  pub apart : (i ≡ j) ⊎ ((i + n ≤ j) ⊎ (j + n ≤ i))

-- the matrix of n rows of s words each at the front of a slice: row i starts at word i * s
unfoldable pub matrix : ℕ → ℕ → List ℕ → List ℕ
matrix s zero l = []
matrix s (suc n) l = value (take s l) ∷ matrix s n (drop s l)

-- the slice that has the matrix M, s words a row, at the front, and then rest
unfoldable pub image : ℕ → List ℕ → List ℕ → List ℕ
image s [] rest = rest
image s (v ∷ M) rest = words s v ++ image s M rest
