-- Laws of the sweep as the code makes it: the target's row changes, and all else in the slice stays.
use mathlib.Core.Path.{◌≡◌, refl, sym, ap, ap₂, ◌∙◌, subst}
use mathlib.Core.Bool.{Bool}
use mathlib.Core.Logic.{inr}
use mathlib.Core.List.{List, ◌++◌}
use Prim.Native.Nat.{ℕ, zero, suc, ◌+◌, ◌-◌, ◌*◌, ◌/◌, ◌%◌, ◌^◌, ◌≤◌, ◌<◌}
use native.Mathlib.Numerals.{add-one}
use native.Mathlib.Omega.{arith}
use lib.ListN.{length, get_or, set, take, drop, length-set, length-drop, drop_of_length-le, get_or-append}
use lib.Dec.{eqb}
use lib.Pow.{mod-mod-pow}
use lib.Seq.{drop-cons, take_at, drop_at, drop-append-add, length-take-le, get_or-take, get_or-drop}
use Rattle.binar.specs.Row.{◌⊕◌, bit}
use Rattle.binar.specs.Words.{value, words, row_at, put_row, matrix}
use Rattle.binar.specs.Echelon.{clear}
use Rattle.binar.specs.Solve.{sweep}
use Rattle.binar.specs.Layout.{FormLeft, swept, SolutionIs}
use Rattle.binar.proofs.row.Bits.{bit_lt, xor_lt}
use Rattle.binar.proofs.row.Slice.{AreWords, Outside, length_words, row_kept, put_none, put_first}
use Rattle.binar.proofs.echelon.Matrix.{value_words, words_words, words_append, words_take, words_drop, row_lt, bit_row, length_matrix, matrix_row, matrix_lt, row_in}
use Rattle.binar.proofs.matrix_form.Identity.{value_mod, put_same}
use Rattle.binar.proofs.echelon.Search.{if_one, if_zero_lem}

-- ---- a slice in which one row is written

module _ (l : List ℕ) (i n v : ℕ) (room : i + n ≤ length l) where
  front : length (take i l) ≡ i
  front = length-take-le i l (omega arith)

  pub row_put : v < 2 ^ (64 * n) → row_at (put_row l i n v) i n ≡ v
  unfolding row_at put_row
  row_put b =
      ap (λ (t : List ℕ). value (take n t)) (drop_at (take i l) (words n v ++ drop (i + n) l) i front)
      ∙ ap value (take_at (words n v) (drop (i + n) l) n (length_words n v)) ∙ value_words n v b

  pub get_put_before : (j : ℕ) → j < i → get_or (put_row l i n v) j 0 ≡ get_or l j 0
  unfolding put_row
  get_put_before j h = get_or-append (take i l) (words n v ++ drop (i + n) l) 0 j (rw front h) ∙ get_or-take i l j 0 h

  pub put_put : (u : ℕ) → put_row (put_row l i n v) i n u ≡ put_row l i n u
  unfolding put_row
  put_put u =
      ap₂ (λ (a : List ℕ) (b : List ℕ). a ++ (words n u ++ b)) (take_at (take i l) (words n v ++ drop (i + n) l) i front)
      (ap (λ (k : ℕ). drop (k + n) (take i l ++ (words n v ++ drop (i + n) l))) (sym front)
      ∙ drop-append-add (take i l) (words n v ++ drop (i + n) l) n ∙ drop_at (words n v) (drop (i + n) l) n (length_words n v))

pub row_put_before : (l : List ℕ) (i n v j m : ℕ) → i + n ≤ length l → j + m ≤ i → row_at (put_row l i n v) j m ≡ row_at l j m
unfolding Outside
row_put_before l i zero v j m r h = ap (λ (t : List ℕ). row_at t j m) (put_none l i v)
row_put_before l i (suc n) v j m r h =
    ap (λ (t : List ℕ). row_at t j m) (put_first l i n v (omega arith))
    ∙ row_put_before (set l i (v % 2 ^ 64)) (i + 1) n (v / 2 ^ 64) j m (rw length-set (omega arith)) (omega arith)
    ∙ row_kept l i j m (v % 2 ^ 64) (inr h)

pub words_put : (l : List ℕ) (i n v : ℕ) → AreWords l → AreWords (put_row l i n v)
unfolding put_row
words_put l i n v f = words_append (take i l) (words n v ++ drop (i + n) l) (words_take l i f) (words_append (words n v) (drop (i + n) l) (words_words n v) (words_drop l (i + n) f))

-- ---- the sweep

-- what the pivot rows from number k on leave of v
unfoldable pub swept_from : List ℕ → ℕ → ℕ → ℕ → ℕ → ℕ → ℕ
swept_from l s n rank k v = sweep (drop k (take rank (drop (n * s) l))) (drop k (matrix s n l)) v

module _ (l : List ℕ) (s n cols rank place : ℕ) (f : AreWords l) (S : FormLeft l s n cols rank place) where
  abbrev ps : List ℕ
  ps = take rank (drop (n * s) l)

  abbrev M : List ℕ
  M = matrix s n l

  abbrev from : ℕ → ℕ → ℕ
  from = swept_from l s n rank

  count : length ps ≡ rank
  count = length-take-le rank (drop (n * s) l) (rw length-drop (omega (arith, S.pivots, S.target)))

  pub from_start : swept s n rank place l ≡ from 0 (row_at l place s)
  unfolding swept swept_from
  from_start = refl

  pub from_end : (k v : ℕ) → rank ≤ k → from k v ≡ v
  unfolding swept_from sweep
  from_end k v h = rw (drop_of_length-le ps {i = k} (rw count h))

  module _ (k : ℕ) (h : k < rank) where
    abbrev p : ℕ
    p = get_or l (n * s + k) 0

    next : (v : ℕ) → from k v ≡ from (k + 1) (clear p (get_or M k 0) v)
    unfolding swept_from sweep
    next v =
        rw (drop-cons ps k 0 (rw count h), drop-cons M k 0 (rw (length_matrix s n l) (omega (arith, S.rows))), add-one k)
        (ap (λ (q : ℕ). sweep (drop (suc k) ps) (drop (suc k) M) (clear q (get_or M k 0) v)) (get_or-take rank (drop (n * s) l) k 0 h ∙ get_or-drop (n * s) l k 0))

    -- a slice w that differs from l in the target's row at most
    module _ (w : List ℕ) (size : length w ≡ length l) (e : w ≡ put_row l place s (row_at w place s)) where
      abbrev v : ℕ
      v = row_at w place s

      are_words : AreWords w
      are_words = subst AreWords (sym e) (words_put l place s v f)

      pub pivot_kept : get_or w (n * s + k) 0 ≡ p
      pivot_kept = ap (λ (t : List ℕ). get_or t (n * s + k) 0) e ∙ get_put_before l place s v S.target (n * s + k) (omega (arith, S.pivots))

      pub pivot_inside : get_or w (n * s + k) 0 < cols
      pivot_inside = rw pivot_kept (S.inside k h)

      pub target_bit : bit (value (drop place w)) (get_or w (n * s + k) 0) ≡ bit v p
      target_bit =
          ap (bit (value (drop place w))) pivot_kept
          ∙ sym (bit_row w place s p are_words (omega (arith, S.target)) (omega (arith, S.inside k h, S.wide)))

      before_target : k * s + s ≤ place
      before_target = omega (arith, row_in k n s (omega (arith, S.rows)), S.pivots)

      pivot_row : row_at w (k * s) s ≡ get_or M k 0
      pivot_row =
          ap (λ (t : List ℕ). row_at t (k * s) s) e ∙ row_put_before l place s v (k * s) s S.target before_target
          ∙ sym (matrix_row s n l k (omega (arith, S.rows)))

      small : v < 2 ^ (64 * s)
      small = row_lt w place s are_words (omega (arith, S.target))

      sum_small : v ⊕ get_or M k 0 < 2 ^ (64 * s)
      sum_small = xor_lt (64 * s) v (get_or M k 0) small (matrix_lt s n l f (omega (arith, S.pivots, S.target)) k)

      pub skip : (bit v p ≡ 1 → ⊥) → from k v ≡ from (k + 1) v
      unfolding clear
      skip z = next v ∙ ap (from (k + 1)) (if_zero_lem _ _ _ (bit_lt v p) z)

      -- the slice with the pivot row added
      module _ (u : List ℕ) (d : u ≡ put_row w place s (row_at w place s ⊕ row_at w (k * s) s)) where
        written : u ≡ put_row l place s (v ⊕ get_or M k 0)
        written =
            d ∙ ap (λ (x : ℕ). put_row w place s (v ⊕ x)) pivot_row ∙ ap (λ (t : List ℕ). put_row t place s (v ⊕ get_or M k 0)) e
            ∙ put_put l place s v S.target (v ⊕ get_or M k 0)

        row_now : row_at u place s ≡ v ⊕ get_or M k 0
        row_now = ap (λ (t : List ℕ). row_at t place s) written ∙ row_put l place s (v ⊕ get_or M k 0) S.target sum_small

        pub added_row : u ≡ put_row l place s (row_at u place s)
        added_row = written ∙ ap (put_row l place s) (sym row_now)

        pub added_from : bit v p ≡ 1 → from k v ≡ from (k + 1) (row_at u place s)
        unfolding clear
        added_from o = next v ∙ ap (from (k + 1)) (if_one _ _ _ o ∙ sym row_now)

  -- the target's first columns at the end
  rest_zero : (w : List ℕ) → length w ≡ length l → w ≡ put_row l place s (row_at w place s) → value (drop place w) % 2 ^ cols ≡ row_at w place s % 2 ^ cols
  unfolding row_at
  rest_zero w size e =
      let k : 64 * s ≡ (64 * s - cols) + cols = omega (arith, S.wide) in
      let v = value (drop place w) in
      sym (mod-mod-pow v (64 * s - cols) cols) ∙ ap (λ (q : ℕ). v % 2 ^ q % 2 ^ cols) (sym k)
      ∙ ap (λ (x : ℕ). x % 2 ^ cols) (value_mod (drop place w) s (words_drop w place words_w) (rw length-drop (omega (arith, S.target))))
    where
      words_w : AreWords w
      words_w = subst AreWords (sym e) (words_put l place s (row_at w place s) f)

  pub start_row : l ≡ put_row l place s (row_at l place s)
  start_row = sym (put_same l place s f S.target)

  -- the answer and the slice at the end
  pub ends : (w : List ℕ) (b : Bool) → length w ≡ length l → w ≡ put_row l place s (row_at w place s) → swept s n rank place l ≡ row_at w place s
      → eqb (value (drop place w) % 2 ^ cols) 0 ≡ b
      → SolutionIs l s n cols rank place b w
  ends w b size e d t = record {
    told = sym t ∙ ap (λ (x : ℕ). eqb x 0) (rest_zero w size e ∙ ap (λ (x : ℕ). x % 2 ^ cols) (sym d));
    left = e ∙ ap (put_row l place s) (sym d);
  }
