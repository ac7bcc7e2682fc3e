-- Laws of the sum of two rows, of their bits, and of the parity of what they share.
use mathlib.Core.Path.{◌≡◌, refl, sym, ap, ◌∙◌}
use Prim.Native.Nat.{ℕ, zero, suc, ◌+◌, ◌-◌, ◌*◌, ◌/◌, ◌%◌, ◌^◌, ◌≤◌, ◌<◌, min}
use native.Mathlib.Nat.{mod-lt, mod-eq_of_lt, zero-mul, one-mul, zero-lt-suc, div-eq_of_lt, lt_of_lt_of_le, add-mul-mod_self_left, mod-add-div}
use native.Mathlib.Omega.{arith}
use native.Mathlib.Decide.{dec_lt}
use lib.Arith.{bin_ind}
use lib.Bits.{bit_and, differ, and_step, xor_step, and_shr, and_comm, and_zero_l, and_mask, xor_shr as shr-of-xor, xor_mod as mod-of-xor, xor_lt as lt-of-xor, xor_block, xor_comm as comm-of-xor, xor_self as self-of-xor, xor_zero_r as zero-of-xor}
use lib.Count.{ones, ones_step}
use lib.Pow.{shr-shr, pow_mono, field, mod-mod-pow, low, high}
use Rattle.binar.specs.Row.{◌⊕◌, bit, dot}

-- ---- bits
pub bit_zero : (a : ℕ) → bit a 0 ≡ a % 2
unfolding bit
bit_zero a = omega arith

pub bit_suc : (a k : ℕ) → bit a (suc k) ≡ bit (a / 2) k
unfolding bit
bit_suc a k = ap (λ (x : ℕ). a / 2 ^ x % 2) (omega arith) ∙ ap (λ (x : ℕ). x % 2) (sym (shr-shr a 1 k))

pub bit_lt : (a k : ℕ) → bit a k < 2
unfolding bit
bit_lt a k = omega arith

pub bit_of_zero : (k : ℕ) → bit 0 k ≡ 0
bit_of_zero zero = bit_zero 0
bit_of_zero (suc k) = bit_suc 0 k ∙ bit_of_zero k

-- a row with no one is zero
pub no_bits : (b : ℕ) → ((k : ℕ) → bit b k ≡ 0) → b ≡ 0
no_bits =
    bin_ind (λ (n : ℕ). ((k : ℕ) → bit n k ≡ 0) → n ≡ 0) (λ h. refl)
    (λ n ih h. omega (arith, ih (λ k. sym (bit_suc n k) ∙ h (suc k)), bit_zero n, h 0))

-- rows with equal bits are equal
pub ext : (a b : ℕ) → ((k : ℕ) → bit a k ≡ bit b k) → a ≡ b
ext a =
    bin_ind (λ (n : ℕ). (b : ℕ) → ((k : ℕ) → bit n k ≡ bit b k) → n ≡ b)
    (λ b h. sym (no_bits b λ k. sym (h k) ∙ bit_of_zero k))
    (λ n ih b h. omega (arith, ih (b / 2) (λ k. sym (bit_suc n k) ∙ h (suc k) ∙ bit_suc b k), bit_zero n, bit_zero b, h 0)) a

-- ---- the sum of two rows
differ_mod : (x y : ℕ) → x < 2 → y < 2 → differ x y ≡ (x + y) % 2
differ_mod zero y hx hy = omega arith
differ_mod (suc x) zero hx hy = omega arith
differ_mod (suc zero) (suc zero) hx hy = refl
differ_mod (suc zero) (suc (suc y)) hx hy = omega arith
differ_mod (suc (suc x)) (suc y) hx hy = omega arith

pub xor_low : (a b : ℕ) → (a ⊕ b) % 2 ≡ (a + b) % 2
unfolding ◌⊕◌
xor_low a b = omega (arith, xor_step a b, differ_mod (a % 2) (b % 2) (omega arith) (omega arith))

pub xor_half : (a b : ℕ) → (a ⊕ b) / 2 ≡ (a / 2) ⊕ (b / 2)
unfolding ◌⊕◌
xor_half a b = omega (arith, xor_step a b, differ_mod (a % 2) (b % 2) (omega arith) (omega arith))

pub bit_xor : (a b k : ℕ) → bit (a ⊕ b) k ≡ (bit a k + bit b k) % 2
unfolding bit ◌⊕◌
bit_xor a b k = rw shr-of-xor (xor_low (a / 2 ^ k) (b / 2 ^ k) ∙ omega arith)

pub xor_comm : (a b : ℕ) → a ⊕ b ≡ b ⊕ a
unfolding ◌⊕◌
xor_comm a b = comm-of-xor a b

pub xor_self : (a : ℕ) → a ⊕ a ≡ 0
unfolding ◌⊕◌
xor_self a = self-of-xor a

pub xor_zero_r : (a : ℕ) → a ⊕ 0 ≡ a
unfolding ◌⊕◌
xor_zero_r a = zero-of-xor a

pub xor_zero_l : (a : ℕ) → 0 ⊕ a ≡ a
xor_zero_l a = xor_comm 0 a ∙ xor_zero_r a

pub xor_assoc : (a b c : ℕ) → (a ⊕ b) ⊕ c ≡ a ⊕ (b ⊕ c)
xor_assoc a b c = ext ((a ⊕ b) ⊕ c) (a ⊕ (b ⊕ c)) λ k. simp bit_xor (omega arith)

pub xor_left_comm : (a b c : ℕ) → a ⊕ (b ⊕ c) ≡ b ⊕ (a ⊕ c)
xor_left_comm a b c = sym (xor_assoc a b c) ∙ ap (◌⊕ c) (xor_comm a b) ∙ xor_assoc b a c

pub xor_cancel : (a b : ℕ) → a ⊕ (a ⊕ b) ≡ b
xor_cancel a b = sym (xor_assoc a a b) ∙ ap (◌⊕ b) (xor_self a) ∙ xor_zero_l b

-- simp with these decides equations between sums of rows
pub ruleset xors = (xor_assoc, xor_comm, xor_left_comm, xor_self, xor_cancel, xor_zero_r, xor_zero_l)

pub xor_swap : (a b c d : ℕ) → (a ⊕ b) ⊕ (c ⊕ d) ≡ (a ⊕ c) ⊕ (b ⊕ d)
xor_swap a b c d = simp xors

pub xor_eq_zero : (a b : ℕ) → a ⊕ b ≡ 0 → a ≡ b
xor_eq_zero a b h = sym (xor_zero_r a) ∙ ap (a ⊕◌) (sym h) ∙ xor_cancel a b

-- ---- the first c columns of a row, and those past them
pub xor_lt : (c a b : ℕ) → a < 2 ^ c → b < 2 ^ c → a ⊕ b < 2 ^ c
unfolding ◌⊕◌
xor_lt c a b ha hb = lt-of-xor c a b ha hb

pub xor_mod : (c a b : ℕ) → (a ⊕ b) % 2 ^ c ≡ (a % 2 ^ c) ⊕ (b % 2 ^ c)
unfolding ◌⊕◌
xor_mod c a b = mod-of-xor a b c

pub xor_shr : (c a b : ℕ) → (a ⊕ b) / 2 ^ c ≡ (a / 2 ^ c) ⊕ (b / 2 ^ c)
unfolding ◌⊕◌
xor_shr c a b = shr-of-xor a b c

pub bit_past : (c v k : ℕ) → v < 2 ^ c → c ≤ k → bit v k ≡ 0
unfolding bit
bit_past c v k h l = ap (λ (x : ℕ). x % 2) (div-eq_of_lt (lt_of_lt_of_le h (pow_mono l)))

pub bit_mod : (c v k : ℕ) → k < c → bit (v % 2 ^ c) k ≡ bit v k
unfolding bit
bit_mod c v k h =
    ap (λ (x : ℕ). v % 2 ^ x / 2 ^ k % 2) split ∙ ap (λ (x : ℕ). x % 2) (field v ((c - suc k) + 1) k) ∙ mod-mod-pow (v / 2 ^ k) (c - suc k) 1
  where
    split : c ≡ (c - suc k) + 1 + k
    split = omega arith

-- the row with r in the first c columns and t past them
module _ (c r t : ℕ) where
  pub bit_beside : (k : ℕ) → k < c → bit (r + 2 ^ c * t) k ≡ bit r k
  bit_beside k h = sym (bit_mod c (r + 2 ^ c * t) k h) ∙ ap (λ (x : ℕ). bit x k) (add-mul-mod_self_left r (2 ^ c) t) ∙ bit_mod c r k h

  beside_comm : r + 2 ^ c * t ≡ t * 2 ^ c + r
  beside_comm = omega arith

  pub beside_mod : r < 2 ^ c → (r + 2 ^ c * t) % 2 ^ c ≡ r
  beside_mod h = rw beside_comm (low t c h)

  pub beside_shr : r < 2 ^ c → (r + 2 ^ c * t) / 2 ^ c ≡ t
  beside_shr h = rw beside_comm (high t c h)

  pub bit_beside_past : r < 2 ^ c → (k : ℕ) → bit (r + 2 ^ c * t) (c + k) ≡ bit t k
  unfolding bit
  bit_beside_past h k = rw (← shr-shr (r + 2 ^ c * t) c k, beside_shr h)

pub beside_parts : (c v : ℕ) → v % 2 ^ c + 2 ^ c * (v / 2 ^ c) ≡ v
beside_parts c v = mod-add-div v (2 ^ c)

pub xor_beside : (c r s t u : ℕ) → r < 2 ^ c → s < 2 ^ c → (r + 2 ^ c * t) ⊕ (s + 2 ^ c * u) ≡ (r ⊕ s) + 2 ^ c * (t ⊕ u)
unfolding ◌⊕◌
xor_beside c r s t u hr hs = rw (beside_comm c r t, beside_comm c s u, xor_block c t u r s hr hs) (sym (beside_comm c (r ⊕ s) (t ⊕ u)))

-- no one in the columns from c up to d
abbrev pub Blank : ℕ → ℕ → ℕ → Type 0
Blank c d v = (k : ℕ) → c ≤ k → k < d → bit v k ≡ 0

pub blank_zero : (c v : ℕ) → v < 2 ^ c → Blank 0 c v → v ≡ 0
blank_zero c v h b = no_bits v λ k. go k (dec_lt k c)
  where
    go : (k : ℕ) → Dec (k < c) → bit v k ≡ 0
    go k (yes y) = b k (omega arith) y
    go k (no n) = bit_past c v k h (omega arith)

pub blank_one : (c v : ℕ) → bit v c ≡ 0 → Blank c (suc c) v
blank_one c v z k l u = ap (bit v) (omega arith) ∙ z

pub blank_join : (c d e v : ℕ) → Blank c d v → Blank d e v → Blank c e v
blank_join c d e v h g k l u = go (dec_lt k d)
  where
    go : Dec (k < d) → bit v k ≡ 0
    go (yes y) = h k l y
    go (no n) = g k (omega arith) u

-- ---- the parity of what two rows share
min_mul : (x y : ℕ) → x < 2 → y < 2 → min x y ≡ x * y
min_mul zero y hx hy = omega arith
min_mul (suc zero) y hx hy = omega arith
min_mul (suc (suc x)) y hx hy = omega arith

bit_product : (x y : ℕ) → x < 2 → y < 2 → x * y < 2
bit_product zero y hx hy = omega arith
bit_product (suc zero) y hx hy = omega arith
bit_product (suc (suc x)) y hx hy = omega arith

and_low : (a b : ℕ) → bit_and a b % 2 ≡ (a % 2) * (b % 2)
and_low a b =
    omega (
      arith,
      and_step a b,
      min_mul (a % 2) (b % 2) (omega arith) (omega arith),
      bit_product (a % 2) (b % 2) (omega arith) (omega arith),
      mod-lt a (zero-lt-suc 1),
    )

pub bit_and_lem : (a b k : ℕ) → bit (bit_and a b) k ≡ bit a k * bit b k
unfolding bit
bit_and_lem a b k = rw and_shr (and_low (a / 2 ^ k) (b / 2 ^ k))

mul_mod : (x y : ℕ) → x < 2 → x * (y % 2) ≡ (x * y) % 2
mul_mod zero y h = omega arith
mul_mod (suc zero) y h = omega arith
mul_mod (suc (suc x)) y h = omega arith

pub and_xor : (a b c : ℕ) → bit_and a (b ⊕ c) ≡ bit_and a b ⊕ bit_and a c
and_xor a b c =
    ext (bit_and a (b ⊕ c)) (bit_and a b ⊕ bit_and a c)
    λ k. simp (bit_xor, bit_and_lem) (mul_mod (bit a k) (bit b k + bit c k) (bit_lt a k) ∙ ap (λ (x : ℕ). x % 2) (omega arith))

pub ones_zero : ones 0 ≡ 0
unfolding ones
ones_zero = refl

add_digits : (n b y u v : ℕ) → y % 2 ≡ (u + v) % 2 → ((n + b) % 2 + y) % 2 ≡ (n % 2 + u + (b % 2 + v)) % 2
add_digits n b y u v h = first ∙ second
  where
    first : ((n + b) % 2 + y) % 2 ≡ (n + b + (u + v)) % 2
    first = omega arith

    second : (n + b + (u + v)) % 2 ≡ (n % 2 + u + (b % 2 + v)) % 2
    second = omega arith

pub ones_xor : (a b : ℕ) → ones (a ⊕ b) % 2 ≡ (ones a + ones b) % 2
ones_xor a =
    bin_ind (λ (n : ℕ). (b : ℕ) → ones (n ⊕ b) % 2 ≡ (ones n + ones b) % 2)
    (λ b. rw xor_zero_l (omega (arith, ones_zero)))
    (λ n ih b. rw (ones_step (n ⊕ b), xor_low, xor_half, ones_step n, ones_step b) (add_digits n b _ _ _ (ih (b / 2)))) a

pub dot_xor_r : (a b c : ℕ) → dot a (b ⊕ c) ≡ (dot a b + dot a c) % 2
unfolding dot
dot_xor_r a b c = rw and_xor (ones_xor (bit_and a b) (bit_and a c) ∙ omega arith)

pub dot_comm : (a b : ℕ) → dot a b ≡ dot b a
unfolding dot
dot_comm a b = ap (λ (x : ℕ). ones x % 2) (and_comm a b)

pub dot_xor_l : (a b c : ℕ) → dot (a ⊕ b) c ≡ (dot a c + dot b c) % 2
dot_xor_l a b c = rw (dot_comm (a ⊕ b) c, dot_xor_r, dot_comm c a, dot_comm c b)

pub dot_lt : (a b : ℕ) → dot a b < 2
unfolding dot
dot_lt a b = omega arith

pub dot_zero_l : (b : ℕ) → dot 0 b ≡ 0
unfolding dot
dot_zero_l b = rw ones_zero

pub dot_zero_r : (b : ℕ) → dot b 0 ≡ 0
dot_zero_r b = dot_comm b 0 ∙ dot_zero_l b

-- a word under a mask of 64 ones, or of none
pub masked : (b y : ℕ) → b ≤ 1 → y < 2 ^ 64 → bit_and (b * 18446744073709551615) y ≡ b * y
masked zero y hb hy = rw (zero-mul y) (and_zero_l y)
masked (suc zero) y hb hy = and_comm 18446744073709551615 y ∙ and_mask y 64 ∙ mod-eq_of_lt hy ∙ sym (one-mul y)
masked (suc (suc b)) y hb hy = absurd (omega arith)
