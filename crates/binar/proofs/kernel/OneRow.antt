-- A row of a kernel as the code writes it: pivot by pivot.
use Rattle.std.proofs.Common.{◌≡◌, refl, sym, ap, ap₂, ◌∙◌, subst, List, [], ◌∷◌, map, length, length-drop, length-take, length-take-le, get_or, get_or-take, get_or-drop, take, take_all, drop, ℕ, zero, suc, ◌+◌, ◌*◌, ◌%◌, ◌^◌, ◌≤◌, ◌<◌, arith}
use lib.Pow.{pow-lt}
use Rattle.binar.specs.Row.{◌⊕◌, bit}
use Rattle.binar.specs.Words.{value, row_at, put_row, matrix}
use Rattle.binar.specs.Kernel.{pivot_part, kernel_row}
use Rattle.binar.specs.Layout.{KernelRoom}
use Rattle.binar.proofs.Lists.{all_by}
use Rattle.binar.proofs.row.Bits.{xor_zero_l, xor_zero_r, xor_assoc, xor_lt, bit_mod}
use Rattle.binar.proofs.row.Slice.{AreWords}
use Rattle.binar.proofs.echelon.Matrix.{cell_bit, length_matrix}
use Rattle.binar.proofs.echelon.Kernel.{part_lt}
use Rattle.binar.proofs.matrix_form.Alike.{Alike, matrix_alike}
use Rattle.binar.proofs.matrix_form.Sweep.{row_put, get_put_before, put_put, words_put}

-- ---- the ones at the pivots
part_next : (k c : ℕ) (ps M : List ℕ) → k < length ps → k < length M
    → pivot_part (take (k + 1) ps) M c ≡ pivot_part (take k ps) M c ⊕ bit (get_or M k 0) c * 2 ^ get_or ps k 0
unfolding pivot_part
part_next k c [] M h g = absurd (omega arith)
part_next k c (p ∷ ps) [] h g = absurd (omega arith)
part_next zero c (p ∷ ps) (v ∷ M) h g = xor_zero_r (bit v c * 2 ^ p) ∙ sym (xor_zero_l (bit v c * 2 ^ p))
part_next (suc k) c (p ∷ ps) (v ∷ M) h g =
    let e : suc k + 1 ≡ suc (k + 1) = omega arith in
    ap (λ (j : ℕ). pivot_part (take j (p ∷ ps)) (v ∷ M) c) e
    ∙ ap (bit v c * 2 ^ p ⊕◌) (part_next k c ps M (omega arith) (omega arith))
    ∙ sym (xor_assoc (bit v c * 2 ^ p) (pivot_part (take k ps) M c) (bit (get_or M k 0) c * 2 ^ get_or ps k 0))

-- of a row they look at column k alone
part_columns : (c k : ℕ) → k < c → (ps M : List ℕ) → pivot_part ps (map (λ v. v % 2 ^ c) M) k ≡ pivot_part ps M k
unfolding pivot_part
part_columns c k h [] M = refl
part_columns c k h (p ∷ ps) [] = refl
part_columns c k h (p ∷ ps) (v ∷ M) = ap₂ (λ (d x : ℕ). d * 2 ^ p ⊕ x) (bit_mod c v k h) (part_columns c k h ps M)

pub kernel_columns : (c k : ℕ) → k < c → (ps M : List ℕ) → kernel_row ps (map (λ v. v % 2 ^ c) M) k ≡ kernel_row ps M k
unfolding kernel_row
kernel_columns c k h ps M = ap (2 ^ k ⊕◌) (part_columns c k h ps M)

-- ---- one row
-- that of column col, once the first k pivots are done
unfoldable pub row_so_far : List ℕ → ℕ → ℕ → ℕ → ℕ → ℕ → ℕ
row_so_far l s n rank col k = 2 ^ col ⊕ pivot_part (take k (take rank (drop (n * s) l))) (matrix s n l) col

module _ (l : List ℕ) (s n cols rank place width col : ℕ) where
  abbrev ps : List ℕ
  ps = take rank (drop (n * s) l)

  abbrev M : List ℕ
  M = matrix s n l

  abbrev so_far : ℕ → ℕ
  so_far = row_so_far l s n rank col

  module _ (f : AreWords l) (S : KernelRoom l s n cols rank place width 1) (inside : col < cols) where
    room : place + width ≤ length l
    room = omega (arith, S.room)

    count : length ps ≡ rank
    count = length-take-le rank (drop (n * s) l) (rw length-drop (omega (arith, S.pivots, room)))

    pivot_at : (k : ℕ) → k < rank → get_or ps k 0 ≡ get_or l (n * s + k) 0
    pivot_at k h = get_or-take rank (drop (n * s) l) k 0 h ∙ get_or-drop (n * s) l k 0

    small : (k : ℕ) → so_far k < 2 ^ (64 * width)
    unfolding row_so_far
    small k =
        xor_lt (64 * width) (2 ^ col) (pivot_part (take k ps) M col) (pow-lt (omega (arith, S.narrow)))
        (part_lt (64 * width) (take k ps) M col
        (all_by (λ p. p < 64 * width) (take k ps) 0 λ j h. rw (get_or-take k ps j 0 (omega (arith, length-take k ps)), pivot_at j (omega (arith, length-take k ps, count)))
        (omega (arith, S.narrow, S.inside j (omega (arith, length-take k ps, count))))))

    pub row_start : (w : List ℕ) → w ≡ put_row l place width (row_at l place width % 2 ^ (64 * 0) + 2 ^ (64 * 0) * 2 ^ col) → w ≡ put_row l place width (so_far 0)
    unfolding row_so_far pivot_part
    row_start w e = e ∙ ap (put_row l place width) (alone (row_at l place width) (2 ^ col) ∙ sym (xor_zero_r (2 ^ col)))
      where
        alone : (u v : ℕ) → u % 2 ^ (64 * 0) + 2 ^ (64 * 0) * v ≡ v
        alone u v = omega arith

    pub row_end : (k : ℕ) → rank ≤ k → so_far k ≡ kernel_row ps M col
    unfolding row_so_far kernel_row
    row_end k h = ap (λ (qs : List ℕ). 2 ^ col ⊕ pivot_part qs M col) (take_all k ps (omega (arith, count)))

    -- a slice w with the row so far
    module _ (k : ℕ) (h : k < rank) (w : List ℕ) (size : length w ≡ length l) (e : w ≡ put_row l place width (so_far k)) where
      same : Alike 0 (n * s + rank) l w
      same j a b = ap (λ (t : List ℕ). get_or t j 0) e ∙ get_put_before l place width (so_far k) room j (omega (arith, S.pivots))

      pub pivot_is : get_or w (n * s + k) 0 ≡ get_or ps k 0
      pivot_is = same (n * s + k) (omega arith) (omega arith) ∙ sym (pivot_at k h)

      pub pivot_narrow : get_or w (n * s + k) 0 < 64 * width
      pivot_narrow = rw (same (n * s + k) (omega arith) (omega arith)) (omega (arith, S.inside k h, S.narrow))

      are_words : AreWords w
      are_words = subst AreWords (sym e) (words_put l place width (so_far k) f)

      pub bit_is : bit (value (drop (k * s) w)) col ≡ bit (get_or M k 0) col
      bit_is =
          cell_bit s n w k col are_words (omega (arith, size, S.pivots, room)) (omega (arith, S.rows)) (omega (arith, S.wide))
          ∙ ap (λ (A : List ℕ). bit (get_or A k 0) col) (matrix_alike s n l w size (omega (arith, S.pivots, room)) (λ j a b. same j a (omega arith)))

      -- the bit added
      pub row_next : (u : List ℕ) (b : ℕ) → b ≡ bit (value (drop (k * s) w)) col → u ≡ put_row w place width (row_at w place width ⊕ b * 2 ^ get_or w (n * s + k) 0)
          → u ≡ put_row l place width (so_far (k + 1))
      unfolding row_so_far
      row_next u b d g =
          let x : row_at w place width ⊕ b * 2 ^ get_or w (n * s + k) 0 ≡ so_far (k + 1) =
          ap₂ (λ (r y : ℕ). r ⊕ y) (ap (λ (t : List ℕ). row_at t place width) e ∙ row_put l place width (so_far k) room (small k))
          (ap₂ (λ (c p : ℕ). c * 2 ^ p) (d ∙ bit_is) pivot_is)
          ∙ xor_assoc (2 ^ col) (pivot_part (take k ps) M col) (bit (get_or M k 0) col * 2 ^ get_or ps k 0)
          ∙ ap (2 ^ col ⊕◌) (sym (part_next k col ps M (omega (arith, count)) (omega (arith, S.rows, length_matrix s n l)))) in
          g ∙ ap (put_row w place width) x ∙ ap (λ (t : List ℕ). put_row t place width (so_far (k + 1))) e ∙ put_put l place width (so_far k) room (so_far (k + 1))
