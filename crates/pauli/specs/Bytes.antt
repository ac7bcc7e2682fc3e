-- Numbers in bytes, all little-endian.
use Rattle.std.specs.Prelude.{ℕ, zero, suc, ◌+◌, ◌*◌, ◌/◌, ◌%◌, ◌^◌, List, [], ◌∷◌, ◌++◌, map, slice_index}

-- the number that the two bytes from byte i on write
unfoldable pub u16_at : List ℕ → ℕ → ℕ
u16_at b i = slice_index b i + 256 * slice_index b (i + 1)

-- the number that the four bytes from byte i on write: a number of 32 bits; of bytes the sum is below 2 ^ 32 already
unfoldable pub u32_at : List ℕ → ℕ → ℕ
u32_at b i = (slice_index b i + 256 * slice_index b (i + 1) + 65536 * slice_index b (i + 2) + 16777216 * slice_index b (i + 3)) % 2 ^ 32

-- n as two bytes
unfoldable pub le16 : ℕ → List ℕ
le16 n = n % 256 ∷ n / 256 % 256 ∷ []

-- n as four bytes
unfoldable pub le32 : ℕ → List ℕ
le32 n = n % 256 ∷ n / 256 % 256 ∷ n / 65536 % 256 ∷ n / 16777216 % 256 ∷ []

-- n numbers of four bytes each, from byte i on
unfoldable pub numbers_at : List ℕ → ℕ → ℕ → List ℕ
numbers_at b i zero = []
numbers_at b i (suc n) = u32_at b i ∷ numbers_at b (i + 4) n

-- the numbers of a list of fours of bytes
unfoldable pub u32s_in : List (List ℕ) → List ℕ
u32s_in ls = map (λ l. u32_at l 0) ls

-- numbers as four bytes each
unfoldable pub le32s : List ℕ → List ℕ
le32s [] = []
le32s (q ∷ qs) = le32 q ++ le32s qs
