-- Rows with a single one: their bits, and what they share with other rows.
use Rattle.std.proofs.Common.{◌≡◌, refl, sym, ap, ap₂, ◌∙◌, ℕ, zero, suc, ◌+◌, ◌*◌, ◌/◌, ◌%◌, ◌^◌, ◌<◌, bit_and, zero-mul, one-mul, pow_pos, arith}
use native.Mathlib.Decide.{ℕ_discrete}
use lib.Bits.{and_shr}
use lib.Count.{ones, ones_step}
use lib.Pow.{pow-lt}
use Rattle.binar.specs.Row.{bit, dot}
use Rattle.binar.proofs.row.Bits.{bit_zero, bit_suc, bit_lt, bit_of_zero, ext, bit_and_lem, dot_comm, dot_zero_l, dot_zero_r}

pow_half : (q : ℕ) → 2 ^ suc q / 2 ≡ 2 ^ q
pow_half q = omega arith

pub bit_unit : (q : ℕ) → bit (2 ^ q) q ≡ 1
bit_unit zero = bit_zero 1
bit_unit (suc q) = rw (bit_suc, pow_half) (bit_unit q)

pub bit_unit_other : (q k : ℕ) → (k ≡ q → ⊥) → bit (2 ^ q) k ≡ 0
bit_unit_other zero zero h = absurd (h refl)
bit_unit_other zero (suc k) h = bit_suc 1 k ∙ bit_of_zero k
bit_unit_other (suc q) zero h = bit_zero (2 ^ suc q) ∙ omega arith
bit_unit_other (suc q) (suc k) h = rw (bit_suc, pow_half) (bit_unit_other q k (λ e. h (ap suc e)))

-- ---- overlaps
pub dot_step : (a b : ℕ) → dot a b ≡ (bit a 0 * bit b 0 + dot (a / 2) (b / 2)) % 2
unfolding dot
dot_step a b =
    ap (λ (n : ℕ). n % 2) (ones_step (bit_and a b) ∙ ap₂ (λ (c d : ℕ). c + ones d) (sym (bit_zero (bit_and a b)) ∙ bit_and_lem a b 0) (and_shr a b 1))
    ∙ omega arith

pub dot_unit : (v q : ℕ) → dot v (2 ^ q) ≡ bit v q
dot_unit v zero = dot_step v 1 ∙ rw (bit_unit 0, dot_zero_r) (omega (arith, bit_lt v 0))
dot_unit v (suc q) =
    dot_step v (2 ^ suc q)
    ∙ rw (bit_unit_other (suc q) 0 (λ e. omega arith), pow_half, dot_unit (v / 2) q, bit_suc) (omega (arith, bit_lt (v / 2) q))

-- a row with the digit d in column q, and no one elsewhere
pub bit_digit : (d q : ℕ) → d < 2 → bit (d * 2 ^ q) q ≡ d
bit_digit zero q h = rw (zero-mul (2 ^ q)) (bit_of_zero q)
bit_digit (suc zero) q h = rw (one-mul (2 ^ q)) (bit_unit q)
bit_digit (suc (suc d)) q h = absurd (omega arith)

pub bit_digit_other : (d q k : ℕ) → d < 2 → (k ≡ q → ⊥) → bit (d * 2 ^ q) k ≡ 0
bit_digit_other zero q k h n = rw (zero-mul (2 ^ q)) (bit_of_zero k)
bit_digit_other (suc zero) q k h n = rw (one-mul (2 ^ q)) (bit_unit_other q k n)
bit_digit_other (suc (suc d)) q k h n = absurd (omega arith)

pub dot_digit : (d q v : ℕ) → d < 2 → dot (d * 2 ^ q) v ≡ d * bit v q
dot_digit zero q v h = rw (zero-mul (2 ^ q), zero-mul (bit v q)) (dot_zero_l v)
dot_digit (suc zero) q v h = rw (one-mul (2 ^ q), one-mul (bit v q)) (dot_comm (2 ^ q) v ∙ dot_unit v q)
dot_digit (suc (suc d)) q v h = absurd (omega arith)

pub digit_lt : (d q c : ℕ) → d < 2 → q < c → d * 2 ^ q < 2 ^ c
digit_lt zero q c h l = rw (zero-mul (2 ^ q)) (pow_pos c)
digit_lt (suc zero) q c h l = rw (one-mul (2 ^ q)) (pow-lt l)
digit_lt (suc (suc d)) q c h l = absurd (omega arith)

-- rows that have at most column q in common
pub dot_single : (a b q : ℕ) → ((k : ℕ) → (k ≡ q → ⊥) → bit a k * bit b k ≡ 0) → dot a b ≡ bit a q * bit b q
unfolding dot
dot_single a b q h =
    ap (λ (v : ℕ). ones v % 2) same ∙ dot_unit (bit_and a b) q ∙ bit_and_lem a b q
  where
    same : bit_and a b ≡ bit_and (bit_and a b) (2 ^ q)
    same = ext (bit_and a b) (bit_and (bit_and a b) (2 ^ q)) λ k. bit_and_lem a b k ∙ sym (bit_and_lem (bit_and a b) (2 ^ q) k ∙ ap (◌* bit (2 ^ q) k) (bit_and_lem a b k) ∙ only k (ℕ_discrete k q))
      where
        only : (k : ℕ) → Dec (k ≡ q) → bit a k * bit b k * bit (2 ^ q) k ≡ bit a k * bit b k
        only k (yes e) = ap (bit a k * bit b k *◌) (ap (bit (2 ^ q)) e ∙ bit_unit q) ∙ omega arith
        only k (no n) = ap (◌* bit (2 ^ q) k) (h k n) ∙ omega (arith, h k n)
