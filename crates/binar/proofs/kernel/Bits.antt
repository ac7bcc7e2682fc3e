-- A bit added to a row in a slice changes one word of it.
use Rattle.std.proofs.Common.{◌≡◌, sym, ap, ap₂, ◌∙◌, inl, List, length, get_or, set, length-set, ℕ, zero, suc, ◌+◌, ◌*◌, ◌/◌, ◌%◌, ◌^◌, ◌≤◌, ◌<◌, bit_xor, add-zero, mul_assoc, mod-eq_of_lt, pow-add, arith}
use lib.Bits.{xor_block, xor_lt}
use lib.Seq.{set-get_or}
use Rattle.binar.specs.Row.{◌⊕◌}
use Rattle.binar.specs.Words.{row_at, put_row}
use Rattle.binar.proofs.row.Bits.{xor_zero_r}
use Rattle.binar.proofs.row.Units.{digit_lt}
use Rattle.binar.proofs.row.Slice.{AreWords, Outside, words_set, row_next, row_kept, put_next}
use Rattle.binar.proofs.matrix_form.Identity.{put_same}

module _ (e b : ℕ) (le : e < 64) (lb : b < 2) where
  small : b * 2 ^ e < 2 ^ 64
  small = digit_lt b e 64 lb le

  -- in word d of the row, at its digit e
  added_at : (l : List ℕ) (i n d : ℕ) → AreWords l → i + n ≤ length l → d < n
      → set l (i + d) (bit_xor (get_or l (i + d) 0) (b * 2 ^ e)) ≡ put_row l i n (row_at l i n ⊕ b * 2 ^ (64 * d + e))
  unfolding ◌⊕◌ Outside
  added_at l i zero d f h k = absurd (omega arith)
  added_at l i (suc n) zero f h k =
      let x = get_or l i 0 in
      let y = b * 2 ^ e in
      let z = bit_xor x y in
      let A = row_at l (i + 1) n in
      let fits : z < 2 ^ 64 = xor_lt 64 x y (f i) small in
      let none : 64 * 0 + e ≡ e = omega arith in
      let first : b * 2 ^ (64 * 0 + e) ≡ 0 * 2 ^ 64 + y = ap (λ (j : ℕ). b * 2 ^ j) none ∙ omega arith in
      let kept : row_at (set l i z) (i + 1) n ≡ A = row_kept l i (i + 1) n z (inl (omega arith)) in
      ap (λ (j : ℕ). set l j (bit_xor (get_or l j 0) y)) (add-zero i)
      ∙ sym (ap₂ (λ (v w : ℕ). put_row l i (suc n) (bit_xor v w)) (row_next l i n (omega arith)) first
      ∙ ap (put_row l i (suc n)) (xor_block 64 A 0 x y (f i) small ∙ ap (λ (v : ℕ). v * 2 ^ 64 + z) (xor_zero_r A))
      ∙ put_next l i n A z (omega arith) fits
      ∙ ap (put_row (set l i z) (i + 1) n) (sym kept)
      ∙ put_same (set l i z) (i + 1) n (words_set l i z (omega arith) fits f) (rw length-set (omega arith)))
  added_at l i (suc n) (suc d) f h k =
      let x = get_or l i 0 in
      let A = row_at l (i + 1) n in
      let B = b * 2 ^ (64 * d + e) in
      let shift : 64 * suc d + e ≡ 64 * d + e + 64 = omega arith in
      let first : b * 2 ^ (64 * suc d + e) ≡ B * 2 ^ 64 + 0 =
      ap (λ (j : ℕ). b * 2 ^ j) shift ∙ ap (b *◌) (pow-add 2 (64 * d + e) 64) ∙ sym (mul_assoc b (2 ^ (64 * d + e)) (2 ^ 64)) ∙ sym (add-zero (B * 2 ^ 64)) in
      let next : i + suc d ≡ i + 1 + d = omega arith in
      ap (λ (j : ℕ). set l j (bit_xor (get_or l j 0) (b * 2 ^ e))) next
      ∙ added_at l (i + 1) n d f (omega arith) (omega arith)
      ∙ sym (ap₂ (λ (v w : ℕ). put_row l i (suc n) (bit_xor v w)) (row_next l i n (omega arith)) first
      ∙ ap (put_row l i (suc n)) (xor_block 64 A B x 0 (f i) (omega arith) ∙ ap (bit_xor A B * 2 ^ 64 +◌) (xor_zero_r x))
      ∙ put_next l i n (bit_xor A B) x (omega arith) (f i)
      ∙ ap (λ (m : List ℕ). put_row m (i + 1) n (bit_xor A B)) (set-get_or l i 0))

-- by the column
pub bit_added : (l : List ℕ) (i n k b : ℕ) → AreWords l → i + n ≤ length l → k < 64 * n → b ≤ 1
    → set l (i + k / 64) (bit_xor (get_or l (i + k / 64) 0) (b * 2 ^ (k % 64) % 2 ^ 64)) ≡ put_row l i n (row_at l i n ⊕ b * 2 ^ k)
bit_added l i n k b f h u v =
    let e : 64 * (k / 64) + k % 64 ≡ k = omega arith in
    ap (λ (y : ℕ). set l (i + k / 64) (bit_xor (get_or l (i + k / 64) 0) y)) (mod-eq_of_lt (small (k % 64) b (omega arith) (omega arith)))
    ∙ added_at (k % 64) b (omega arith) (omega arith) l i n (k / 64) f h (omega arith)
    ∙ ap (λ (j : ℕ). put_row l i n (row_at l i n ⊕ b * 2 ^ j)) e
