-- Laws of the clearing of a column, row by row.
use mathlib.Core.Path.{◌≡◌, refl, sym, ap, ap₂, ◌∙◌}
use mathlib.Core.Bool.{Bool, true, false}
use mathlib.Core.List.{List, [], ◌∷◌}
use Prim.Native.Nat.{ℕ, zero, suc, ◌+◌, ◌*◌, ◌^◌, ◌≤◌, ◌<◌}
use native.Mathlib.Nat.{add-zero, zero-add, zero-mul, one-mul}
use native.Mathlib.Omega.{arith}
use borrow.Author.Tests.{eq-eqb, ne_eqb}
use lib.Dec.{eqb}
use lib.ListN.{length, get_or}
use lib.Pow.{pow_pos}
use Rattle.binar.specs.Row.{◌⊕◌, bit, if_bit}
use Rattle.binar.specs.Words.{row_at, put_row, matrix}
use Rattle.binar.specs.Echelon.{clear, unless, add_to_others}
use Rattle.binar.proofs.row.Bits.{bit_lt, xor_lt, xor_zero_r}
use Rattle.binar.proofs.row.Slice.{AreWords}
use Rattle.binar.proofs.echelon.Matrix.{Below, length_matrix, matrix_row}
use Rattle.binar.proofs.echelon.RowByRow.{rewritten, row_here, row_same, rewritten_row, rewritten_same}

times_bit : (b p v : ℕ) → b < 2 → if_bit b (v ⊕ p) v ≡ v ⊕ b * p
unfolding if_bit
times_bit zero p v h = sym (ap (v ⊕◌) (zero-mul p) ∙ xor_zero_r v)
times_bit (suc zero) p v h = ap (v ⊕◌) (sym (one-mul p))
times_bit (suc (suc b)) p v h = absurd (omega arith)

clear_times : (c p v : ℕ) → clear c p v ≡ v ⊕ bit v c * p
unfolding clear
clear_times c p v = times_bit (bit v c) p v (bit_lt v c)

module _ (c p r : ℕ) where
  pub length_added : (i : ℕ) (M : List ℕ) → length (add_to_others c p r i M) ≡ length M
  unfolding add_to_others
  length_added i [] = refl
  length_added i (v ∷ M) = ap suc (length_added (suc i) M)

  at_row : (i : ℕ) (M : List ℕ) (k : ℕ) → k < length M → get_or (add_to_others c p r i M) k 0 ≡ unless (eqb (i + k) r) (get_or M k 0) (clear c p (get_or M k 0))
  unfolding add_to_others
  at_row i [] k h = absurd (omega arith)
  at_row i (v ∷ M) zero h = rw (add-zero i)
  at_row i (v ∷ M) (suc k) h =
      let e : suc i + k ≡ i + suc k = omega arith in
      at_row (suc i) M k (omega arith) ∙ ap (λ (j : ℕ). unless (eqb j r) (get_or M k 0) (clear c p (get_or M k 0))) e

  module _ (M : List ℕ) (k : ℕ) (h : k < length M) where
    -- the pivot's row stays
    pub added_pivot : k ≡ r → get_or (add_to_others c p r 0 M) k 0 ≡ get_or M k 0
    unfolding unless
    added_pivot e = at_row 0 M k h ∙ rw (zero-add k, eq-eqb k r e)

    -- and is added to every other row as often as the bit in the column says
    pub added_other : (k ≡ r → ⊥) → get_or (add_to_others c p r 0 M) k 0 ≡ get_or M k 0 ⊕ bit (get_or M k 0) c * p
    unfolding unless
    added_other n = at_row 0 M k h ∙ rw (zero-add k, ne_eqb k r n) (clear_times c p (get_or M k 0))

-- rows below 2^k stay so
if_below_lem : (k b x y : ℕ) → x < 2 ^ k → y < 2 ^ k → if_bit b x y < 2 ^ k
unfolding if_bit
if_below_lem k zero x y hx hy = hy
if_below_lem k (suc b) x y hx hy = hx

unless_below : (k : ℕ) (b : Bool) (v w : ℕ) → v < 2 ^ k → w < 2 ^ k → unless b v w < 2 ^ k
unfolding unless
unless_below k true v w hv hw = hv
unless_below k false v w hv hw = hw

pub clear_below : (k c p v : ℕ) → p < 2 ^ k → v < 2 ^ k → clear c p v < 2 ^ k
unfolding clear
clear_below k c p v hp hv = if_below_lem k (bit v c) (v ⊕ p) v (xor_lt k v p hv hp) hv

pub added_below : (k c p r i : ℕ) (M : List ℕ) → p < 2 ^ k → Below k M → Below k (add_to_others c p r i M)
unfolding add_to_others
added_below k c p r i [] hp h j = pow_pos k
added_below k c p r i (v ∷ M) hp h zero = unless_below k (eqb i r) v (clear c p v) (h 0) (clear_below k c p v hp (h 0))
added_below k c p r i (v ∷ M) hp h (suc j) = added_below k c p r (suc i) M hp (λ q. h (suc q)) j

-- ---- the slice of which the first i rows are cleared by row r in column c

unfoldable pub cleared : List ℕ → ℕ → ℕ → ℕ → ℕ → List ℕ
cleared l s n r c = add_to_others c (row_at l (r * s) s) r 0 (matrix s n l)

pub length_cleared : (l : List ℕ) (s n r c : ℕ) → length (cleared l s n r c) ≡ n
unfolding cleared
length_cleared l s n r c = length_added c (row_at l (r * s) s) r 0 (matrix s n l) ∙ length_matrix s n l

module _ (l : List ℕ) (s n r c : ℕ) (f : AreWords l) (room : n * s ≤ length l) (hr : r < n) where
  abbrev M : List ℕ
  M = matrix s n l

  abbrev p : ℕ
  p = row_at l (r * s) s

  abbrev D : List ℕ
  D = cleared l s n r c

  count : length D ≡ n
  count = length_cleared l s n r c

  module _ (i : ℕ) (h : i < n) (w : List ℕ) (e : w ≡ rewritten l s n D i) where
    inside : i < length M
    inside = rw (length_matrix s n l) h

    pivot_row : row_at w (r * s) s ≡ p
    unfolding cleared
    pivot_row = row_same l s n D f room count i h w e r hr (added_pivot c p r M r (rw (length_matrix s n l) hr) refl) ∙ matrix_row s n l r hr

    pub clear_add : (i ≡ r → ⊥) → put_row w (i * s) s (row_at w (i * s) s ⊕ bit (get_or M i 0) c * row_at w (r * s) s) ≡ rewritten l s n D (i + 1)
    unfolding cleared
    clear_add ne =
        rewritten_row l s n D f room count i h w e _
        (ap₂ (λ (v : ℕ) (q : ℕ). v ⊕ bit (get_or M i 0) c * q) (row_here l s n D f room count i h w e) pivot_row ∙ sym (added_other c p r M i inside ne))

    pub clear_pivot : i ≡ r → w ≡ rewritten l s n D (i + 1)
    unfolding cleared
    clear_pivot k = rewritten_same l s n D f room count i h w e (added_pivot c p r M i inside k)
