-- Bit rows. A row is a natural number, read by its binary digits: the bit of column k is the digit of weight 2^k. So a row
-- carries no length, and what is said of rows holds for rows of any length. A matrix is the list of its rows.
use Rattle.std.specs.Prelude.{List, [], ◌∷◌, map, ℕ, zero, suc, ◌/◌, ◌%◌, ◌^◌}
use Rattle.std.specs.Int.Bits.{bit_and, bit_xor}
use Rattle.std.specs.Int.Count.{ones}

infixl 68 ◌⊕◌
-- the sum of two rows over GF(2): the columns in which they differ
unfoldable pub ◌⊕◌ : ℕ → ℕ → ℕ
a ⊕ b = bit_xor a b

-- the bit of row v in column k
unfoldable pub bit : ℕ → ℕ → ℕ
bit v k = v / 2 ^ k % 2

-- how many ones row v has
unfoldable pub weight : ℕ → ℕ
weight v = ones v

-- 1 if the rows a and b share an odd number of ones, else 0
unfoldable pub dot : ℕ → ℕ → ℕ
dot a b = ones (bit_and a b) % 2

-- the first c columns of a matrix
unfoldable pub columns : ℕ → List ℕ → List ℕ
columns c A = map (λ v. v % 2 ^ c) A

-- x if the bit is 1, y if it is 0
unfoldable pub if_bit {ℓ} : {X : Type ℓ} → ℕ → X → X → X
if_bit zero x y = y
if_bit (suc b) x y = x

-- the sum of the rows of A whose numbers are the ones of the row s
unfoldable pub row_sum : ℕ → List ℕ → ℕ
row_sum s [] = 0
row_sum s (v ∷ A) = if_bit (s % 2) v 0 ⊕ row_sum (s / 2) A

-- the n rows with a single one, in columns k, k + 1, ..; from k = 0 on it is the identity matrix
unfoldable pub units : ℕ → ℕ → List ℕ
units k zero = []
units k (suc n) = 2 ^ k ∷ units (suc k) n
