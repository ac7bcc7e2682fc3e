-- More laws of bits: unions, sums and common parts, and equality by ones.
use Rattle.std.proofs.Common.{◌≡◌, ℕ, zero, suc, ◌+◌, ◌*◌, ◌/◌, ◌%◌, ◌^◌, ◌<◌, max, ◌⊎◌, sym, refl, ◌∙◌, inl, inr, arith}
use native.Mathlib.Decide.{dec_lt}
use lib.Bits.{bit_and, bit_or, or_step, or_shr}
use Rattle.binar.specs.Row.{◌⊕◌, bit}
use Rattle.binar.proofs.row.Bits.{bit_lt, ext, bit_xor, bit_past, bit_and_lem}
pub use Rattle.binar.proofs.row.Units.{bit_unit, bit_unit_other, dot_step, dot_unit}

-- ---- unions, sums and common parts
pub bit_or_lem : (a b k : ℕ) → bit (bit_or a b) k ≡ max (bit a k) (bit b k)
unfolding bit
bit_or_lem a b k = rw or_shr (omega (arith, or_step (a / 2 ^ k) (b / 2 ^ k)))

digit_or : (c d : ℕ) → c < 2 → max c d ≡ 1 → (c ≡ 1) ⊎ (d ≡ 1)
digit_or zero d h e = inr (omega arith)
digit_or (suc c) d h e = inl (omega arith)

pub in_or : (a b k : ℕ) → bit (bit_or a b) k ≡ 1 → (bit a k ≡ 1) ⊎ (bit b k ≡ 1)
in_or a b k h = digit_or (bit a k) (bit b k) (bit_lt a k) (sym (bit_or_lem a b k) ∙ h)

digit_xor : (c d : ℕ) → c < 2 → d < 2 → (c + d) % 2 ≡ 1 → (c ≡ 1) ⊎ (d ≡ 1)
digit_xor zero d hc hd e = inr (omega arith)
digit_xor (suc c) d hc hd e = inl (omega arith)

pub in_xor : (a b k : ℕ) → bit (a ⊕ b) k ≡ 1 → (bit a k ≡ 1) ⊎ (bit b k ≡ 1)
in_xor a b k h = digit_xor (bit a k) (bit b k) (bit_lt a k) (bit_lt b k) (sym (bit_xor a b k) ∙ h)

digit_and : (c d : ℕ) → c < 2 → c * d ≡ 1 → c ≡ 1
digit_and zero d h e = omega arith
digit_and (suc c) d h e = omega arith

pub in_and : (a b k : ℕ) → bit (bit_and a b) k ≡ 1 → bit a k ≡ 1
in_and a b k h = digit_and (bit a k) (bit b k) (bit_lt a k) (sym (bit_and_lem a b k) ∙ h)

-- ---- equality by ones
same_digit : (c d : ℕ) → c < 2 → d < 2 → (c ≡ 1 → d ≡ 1) → (d ≡ 1 → c ≡ 1) → c ≡ d
same_digit zero zero hc hd f g = refl
same_digit zero (suc d) hc hd f g = g (omega arith) ∙ omega arith
same_digit (suc c) d hc hd f g = omega (arith, f (omega arith))

pub same_bit : (a j b k : ℕ) → (bit a j ≡ 1 → bit b k ≡ 1) → (bit b k ≡ 1 → bit a j ≡ 1) → bit a j ≡ bit b k
same_bit a j b k f g = same_digit (bit a j) (bit b k) (bit_lt a j) (bit_lt b k) f g

pub ext_ones : (a b : ℕ) → ((k : ℕ) → bit a k ≡ 1 → bit b k ≡ 1) → ((k : ℕ) → bit b k ≡ 1 → bit a k ≡ 1) → a ≡ b
ext_ones a b f g = ext a b λ k. same_bit a k b k (f k) (g k)

pub ext_below : (n a b : ℕ) → a < 2 ^ n → b < 2 ^ n → ((k : ℕ) → k < n → bit a k ≡ bit b k) → a ≡ b
ext_below n a b ha hb h = ext a b λ k. elim (dec_lt k n) [ yes l ↦ h k l | no l ↦ bit_past n a k ha (omega arith) ∙ sym (bit_past n b k hb (omega arith)) ]
