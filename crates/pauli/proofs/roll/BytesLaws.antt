-- Numbers in bytes: what is written is read back, and what is read is written back. A place in b is named by what stands from
-- it on: `drop i b ≡ le16 n ++ rest` says that n stands at byte i, in two bytes.
use Rattle.std.proofs.Common.{◌≡◌, ℕ, zero, suc, ◌+◌, ◌*◌, ◌/◌, ◌%◌, ◌^◌, ◌<◌, ◌≤◌, List, [], ◌∷◌, ◌++◌, length, get_or, drop, take, map, refl, sym, ap, ◌∙◌, append_assoc, add-zero, add_assoc, arith}
use Rattle.std.specs.Prelude.{slice_index}
use Rattle.std.specs.Simd.{first_chunks}
use Rattle.std.specs.Int.{w32, from_le_bytes}
use native.Mathlib.Nat.{div-div-eq-div-mul}
use Rattle.pauli.specs.Bytes.{u16_at, u32_at, le16, le32, numbers_at, u32s_in, le32s}
use Rattle.pauli.specs.Support.{All}
use Rattle.pauli.proofs.roll.Items.{items_at, items_bytes, length_items_at, get_or_items_at, length_items_bytes, all_bytes_items, items_read, items_written, chunk_items}
use Rattle.pauli.proofs.support.Lists.{AllBytes, byte_at, drop_past, get_d_front, drop_one}

-- n as k bytes
unfoldable pub bytes : ℕ → ℕ → List ℕ
bytes zero n = []
bytes (suc k) n = n % 256 ∷ bytes k (n / 256)

-- the number that the k bytes from byte i on write
unfoldable pub value_at : ℕ → List ℕ → ℕ → ℕ
value_at zero b i = 0
value_at (suc k) b i = get_or b i 0 + 256 * value_at k b (i + 1)

pub length_bytes : (k n : ℕ) → length (bytes k n) ≡ k
unfolding bytes
length_bytes zero n = refl
length_bytes (suc k) n = ap suc (length_bytes k (n / 256))

pub all_bytes_bytes : (k n : ℕ) → AllBytes (bytes k n)
unfolding bytes
all_bytes_bytes zero n = tt
all_bytes_bytes (suc k) n = (omega arith, all_bytes_bytes k (n / 256))

module _ (b : List ℕ) where
  pub value_read : (k n i : ℕ) (rest : List ℕ) → n < 256 ^ k → drop i b ≡ bytes k n ++ rest → value_at k b i ≡ n
  unfolding bytes value_at
  value_read zero n i rest l h = omega arith
  value_read (suc k) n i rest l h =
      let front : get_or b i 0 ≡ n % 256 = get_d_front b i 0 _ _ h in
      let more : value_at k b (i + 1) ≡ n / 256 = value_read k (n / 256) (i + 1) rest (omega arith) (drop_past b i (n % 256 ∷ []) _ h refl) in
      omega arith

  pub value_written : AllBytes b → (k i : ℕ) → i + k ≤ length b → bytes k (value_at k b i) ++ drop (i + k) b ≡ drop i b
  unfolding bytes value_at
  value_written low zero i l = ap (λ (j : ℕ). drop j b) (add-zero i)
  value_written low (suc k) i l =
      let x : ℕ = get_or b i 0 in
      let v : ℕ = value_at k b (i + 1) in
      let byte : x < 256 = byte_at b i low in
      let front : (x + 256 * v) % 256 ≡ x = omega arith in
      let more : (x + 256 * v) / 256 ≡ v = omega arith in
      let past : i + suc k ≡ i + 1 + k = omega arith in
      rw (front, more, past, value_written low k (i + 1) (omega arith), drop_one b i 0 (omega arith))

-- ---- two and four bytes

pub le16_bytes : (n : ℕ) → le16 n ≡ bytes 2 n
unfolding le16 bytes
le16_bytes n = refl

pub le32_bytes : (n : ℕ) → le32 n ≡ bytes 4 n
unfolding le32 bytes
le32_bytes n = simp div-div-eq-div-mul

pub u16_value : (b : List ℕ) (i : ℕ) → u16_at b i ≡ value_at 2 b i
unfolding u16_at value_at
u16_value b i = omega arith

pub u32_value : (b : List ℕ) (i : ℕ) → u32_at b i ≡ value_at 4 b i % 2 ^ 32
unfolding u32_at value_at
u32_value b i = ap (λ n. n % 2 ^ 32) (simp add_assoc (omega arith))

-- of bytes, the four are below 2 ^ 32
pub value_low : (b : List ℕ) → AllBytes b → (i : ℕ) → value_at 4 b i < 2 ^ 32
unfolding value_at
value_low b low i =
    omega (arith, byte_at b i low, byte_at b (i + 1) low, byte_at b (i + 1 + 1) low, byte_at b (i + 1 + 1 + 1) low)

pub u32_low : (b : List ℕ) (i : ℕ) → u32_at b i < 2 ^ 32
unfolding u32_at
u32_low b i = omega arith

pub length_le16 : (n : ℕ) → length (le16 n) ≡ 2
length_le16 n = rw (le16_bytes, length_bytes)

pub length_le32 : (n : ℕ) → length (le32 n) ≡ 4
length_le32 n = rw (le32_bytes, length_bytes)

module _ (b : List ℕ) where
  pub u16_read : (n i : ℕ) (rest : List ℕ) → n < 2 ^ 16 → drop i b ≡ le16 n ++ rest → u16_at b i ≡ n
  u16_read n i rest l h = rw u16_value (value_read b 2 n i rest l (rw le16_bytes at h))

  pub u32_read : (n i : ℕ) (rest : List ℕ) → n < 2 ^ 32 → drop i b ≡ le32 n ++ rest → u32_at b i ≡ n
  u32_read n i rest l h = let value = value_read b 4 n i rest l (rw le32_bytes at h) in rw (u32_value, value) (omega arith)

  module _ (low : AllBytes b) where
    pub u16_written : (i : ℕ) → i + 2 ≤ length b → le16 (u16_at b i) ++ drop (i + 2) b ≡ drop i b
    u16_written i l = rw (le16_bytes, u16_value) (value_written b low 2 i l)

    pub u32_written : (i : ℕ) → i + 4 ≤ length b → le32 (u32_at b i) ++ drop (i + 4) b ≡ drop i b
    u32_written i l =
        let value : value_at 4 b i % 2 ^ 32 ≡ value_at 4 b i = omega (arith, value_low b low i) in
        rw (le32_bytes, u32_value, value) (value_written b low 4 i l)

pub all_bytes_le16 : (n : ℕ) → AllBytes (le16 n)
all_bytes_le16 n = rw le16_bytes (all_bytes_bytes 2 n)

pub all_bytes_le32 : (n : ℕ) → AllBytes (le32 n)
all_bytes_le32 n = rw le32_bytes (all_bytes_bytes 4 n)

-- ---- numbers of four bytes each

numbers_items : (b : List ℕ) (i n : ℕ) → numbers_at b i n ≡ items_at 4 (u32_at b) i n
unfolding numbers_at items_at
numbers_items b i zero = refl
numbers_items b i (suc n) = ap (λ l. u32_at b i ∷ l) (numbers_items b (i + 4) n)

le32s_items : (qs : List ℕ) → le32s qs ≡ items_bytes le32 qs
unfolding le32s items_bytes
le32s_items [] = refl
le32s_items (q ∷ qs) = ap (λ l. le32 q ++ l) (le32s_items qs)

pub le32s_append : (qs rs : List ℕ) → le32s (qs ++ rs) ≡ le32s qs ++ le32s rs
unfolding le32s
le32s_append [] rs = refl
le32s_append (q ∷ qs) rs = rw (le32s_append qs rs, append_assoc)

pub length_numbers : (b : List ℕ) (i n : ℕ) → length (numbers_at b i n) ≡ n
length_numbers b i n = rw (numbers_items, length_items_at)

pub get_or_numbers : (b : List ℕ) (i n m d : ℕ) → m < n → get_or (numbers_at b i n) m d ≡ u32_at b (i + 4 * m)
get_or_numbers b i n m d l = rw numbers_items (get_or_items_at 4 (u32_at b) i n m d l)

pub numbers_low : (b : List ℕ) (i n : ℕ) → All (λ q. q < 2 ^ 32) (numbers_at b i n)
unfolding numbers_at
numbers_low b i zero = tt
numbers_low b i (suc n) = (u32_low b i, numbers_low b (i + 4) n)

pub length_le32s : (qs : List ℕ) → length (le32s qs) ≡ 4 * length qs
length_le32s qs = rw (le32s_items, length_items_bytes 4 le32 length_le32)

pub all_bytes_le32s : (qs : List ℕ) → AllBytes (le32s qs)
all_bytes_le32s qs = rw le32s_items (all_bytes_items le32 all_bytes_le32 qs)

pub numbers_read : (b qs : List ℕ) (i : ℕ) (rest : List ℕ) → All (λ q. q < 2 ^ 32) qs → drop i b ≡ le32s qs ++ rest
    → numbers_at b i (length qs) ≡ qs
numbers_read b qs i rest l h =
    rw numbers_items (items_read 4 le32 length_le32 b (u32_at b) (λ q. q < 2 ^ 32) (u32_read b) qs i rest l (rw le32s_items at h))

pub numbers_written : (b : List ℕ) → AllBytes b → (n i : ℕ) → i + 4 * n ≤ length b
    → le32s (numbers_at b i n) ++ drop (i + 4 * n) b ≡ drop i b
numbers_written b low n i l = rw (numbers_items, le32s_items) (items_written 4 le32 length_le32 b (u32_at b) (u32_written b low) n i l)

-- ---- numbers as fours of bytes

-- a number of 32 bits that four bytes write
pub u32_bytes : (n : ℕ) (l : List ℕ) → n < 2 ^ 32 → n ≡ from_le_bytes w32 l → n ≡ u32_at l 0
unfolding u32_at
u32_bytes n l h e = omega arith

u32_shifted : (b : List ℕ) (i : ℕ) (l : List ℕ) → ((j : ℕ) → j < 4 → slice_index l j ≡ slice_index b (i + j)) → u32_at l 0 ≡ u32_at b i
unfolding u32_at
u32_shifted b i l same =
    let e : slice_index l 0 ≡ slice_index b i = same 0 (omega arith) ∙ ap (slice_index b) (add-zero i) in
    rw (e, same 1 (omega arith), same 2 (omega arith), same 3 (omega arith)) refl

pub chunk_numbers : (b : List ℕ) (i n m k : ℕ) → m ≡ 4 * n → k ≡ n → u32s_in (first_chunks 4 k (take m (drop i b))) ≡ numbers_at b i n
unfolding u32s_in
chunk_numbers b i n m k e f =
    ap (λ (j : ℕ). map (λ (l : List ℕ). u32_at l 0) (first_chunks 4 j (take m (drop i b)))) f
    ∙ chunk_items 4 (λ l. u32_at l 0) (u32_at b) b (u32_shifted b) i n m e ∙ sym (numbers_items b i n)
