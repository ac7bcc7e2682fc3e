-- Laws of a set of places held in two words.
use Rattle.std.proofs.Common.{◌≡◌, ℕ, ◌+◌, ◌-◌, ◌*◌, ◌%◌, ◌^◌, ◌<◌, ◌≤◌, eqb, sym, ap, ◌∙◌, add_comm, arith, eq-eqb, ne_eqb}
use native.Mathlib.Decide.{dec_lt}
use lib.Arith.{digits_lt}
use lib.Bits.{bit_and, bit_or, bit_xor, and_block, or_block, xor_block, and_lt, and_le_l, and_le_r, or_add_and}
use lib.Count.{ones, ones_cat}
use Rattle.binar.specs.Row.{◌⊕◌, bit, dot, weight}
use Rattle.binar.proofs.row.Bits.{ones_xor}
use Rattle.binar.proofs.row.Scan.{bit_low, bit_high}
use Rattle.pauli.specs.declared.places.Places.{Places}
use Rattle.pauli.specs.PlaceSet.{set_in}

-- both words are words
pub record Words (s : Places) : Type 0 where
  pub low : s.low < 2 ^ 64
  pub high : s.high < 2 ^ 64

module _ (s : Places) (f : Words s) where
  pub two_words : set_in s < 2 ^ 128
  unfolding set_in
  two_words = digits_lt {m = 2 ^ 64} f.high f.low

  pub index_low : (p : ℕ) → p < 64 → bit (set_in s) p ≡ bit s.low p
  unfolding set_in
  index_low p h = bit_low 64 s.high s.low p h f.low

  pub index_high : (p : ℕ) → 64 ≤ p → bit (set_in s) p ≡ bit s.high (p - 64)
  unfolding set_in
  index_high p h = let e : p ≡ 64 + (p - 64) = omega arith in ap (bit (s.high * 2 ^ 64 + s.low)) e ∙ bit_high 64 s.high s.low (p - 64) f.low

  pub weight_halves : weight (set_in s) ≡ ones s.low + ones s.high
  unfolding set_in weight
  weight_halves = ones_cat 64 s.high s.low f.low ∙ add_comm (ones s.high) (ones s.low)

  pub zero_halves : eqb (bit_or s.low s.high) 0 ≡ eqb (set_in s) 0
  unfolding set_in
  zero_halves = go (dec_lt 0 (s.high * 2 ^ 64 + s.low))
    where
      go : Dec (0 < s.high * 2 ^ 64 + s.low) → eqb (bit_or s.low s.high) 0 ≡ eqb (s.high * 2 ^ 64 + s.low) 0
      go (yes y) =
          ne_eqb (bit_or s.low s.high) 0 (λ e. omega (arith, or_add_and s.low s.high, and_le_l s.low s.high, and_le_r s.low s.high))
          ∙ sym (ne_eqb (s.high * 2 ^ 64 + s.low) 0 (λ e. omega arith))
      go (no n) = eq-eqb (bit_or s.low s.high) 0 (omega (arith, or_add_and s.low s.high)) ∙ sym (eq-eqb (s.high * 2 ^ 64 + s.low) 0 (omega arith))

module _ (s t : Places) (f : Words s) (g : Words t) where
  pub xor_halves : bit_xor s.high t.high * 2 ^ 64 + bit_xor s.low t.low ≡ set_in s ⊕ set_in t
  unfolding set_in ◌⊕◌
  xor_halves = sym (xor_block 64 s.high t.high s.low t.low f.low g.low)

  pub or_halves : bit_or s.high t.high * 2 ^ 64 + bit_or s.low t.low ≡ bit_or (set_in s) (set_in t)
  unfolding set_in
  or_halves = sym (or_block 64 s.high t.high s.low t.low f.low g.low)

  pub dot_halves : ones (bit_xor (bit_and s.low t.low) (bit_and s.high t.high)) % 2 ≡ dot (set_in s) (set_in t)
  unfolding set_in dot ◌⊕◌
  dot_halves =
      ones_xor (bit_and s.low t.low) (bit_and s.high t.high)
      ∙ ap (λ (n : ℕ). n % 2)
      (add_comm (ones (bit_and s.low t.low)) (ones (bit_and s.high t.high))
      ∙ sym (ap ones (and_block 64 s.high t.high s.low t.low f.low g.low)
      ∙ ones_cat 64 (bit_and s.high t.high) (bit_and s.low t.low) (and_lt 64 s.low t.low f.low g.low)))
