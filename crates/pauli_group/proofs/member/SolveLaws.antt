-- Laws of a target written behind a form, and of the set that solving for it leaves in the target's row.
use Rattle.std.proofs.Common.{◌≡◌, ℕ, ◌+◌, ◌-◌, ◌*◌, ◌/◌, ◌%◌, ◌^◌, ◌<◌, ◌≤◌, eqb, List, length, take, drop, true, false, sym, refl, ap, ◌∙◌, subst, ap₂, lt_of_lt_of_le, arith, pow_mono}
use mathlib.Core.Option.{some, none}
use Rattle.binar.specs.Layout.{form_stride, form_in, FormLeft, swept}
use Rattle.binar.specs.Solve.{solved, transpose_solve}
use Rattle.binar.specs.Words.{row_at, put_row, matrix}
use Rattle.binar.proofs.echelon.Bounds.{sweep_lt}
use Rattle.binar.proofs.Lists.{all_by}
use Rattle.binar.proofs.echelon.Matrix.{matrix_lt}
use Rattle.binar.proofs.row.Slice.{AreWords}
use Rattle.binar.proofs.matrix_form.Alike.{form_alike, left_alike}
use Rattle.binar.proofs.matrix_form.Solving.{solved_set, solved_none}
use Rattle.binar.proofs.matrix_form.Sweep.{row_put, put_put, words_put}
use Rattle.binar.proofs.matrix_form.Theorems.{solution_law}
use Rattle.pauli.specs.declared.signed.Pauli.{Pauli as Held}
use Rattle.pauli.specs.Signed.{held}
use Rattle.pauli_group.specs.Inner.Area.{target_at, row_words, stride_of, Outside}
use Rattle.pauli_group.specs.Inner.Lists.{row_over}
use Rattle.pauli_group.proofs.list.ListLaws.{put_outside}
use Rattle.pauli_group.proofs.rows.RowLaws.{put_join, row_lt}

-- ---- a form before words that change

module _ {i m : ℕ} {l x : List ℕ} (o : Outside i m l x) (s n cols rank place : ℕ)
    (S : FormLeft l s n cols rank place) (h : place ≤ i) where
  pub solvable_kept : FormLeft x s n cols rank place
  solvable_kept = left_alike s n cols rank place l x o.size (λ k a b. o.before k (omega (arith, S.pivots))) S

  pub form_kept : (width : ℕ) → form_in s n width cols rank x ≡ form_in s n width cols rank l
  form_kept width =
      form_alike s n width cols rank l x o.size (omega (arith, S.pivots, S.target))
      (λ k a b. o.before k (omega (arith, S.pivots)))

-- ---- a target of `width` words, solved for

module _ (l : List ℕ) (f : AreWords l) (s n width cols rank place : ℕ)
    (S : FormLeft l s n cols rank place) (wide : cols ≤ 64 * width) (inside : width ≤ s) (v : ℕ) (small : v < 2 ^ (64 * width)) where
  abbrev x : List ℕ
  x = put_row l place s v

  abbrev left : ℕ
  left = swept s n rank place x

  written : Outside place s l x
  written = put_outside l place s v S.target

  fits : v < 2 ^ (64 * s)
  fits = let k : 64 * width ≤ 64 * s = omega arith in lt_of_lt_of_le small (pow_mono k)

  row : row_at x place s ≡ v
  row = row_put l place s v S.target fits

  pub target_solvable : FormLeft x s n cols rank place
  target_solvable = solvable_kept written s n cols rank place S (omega arith)

  pub target_solved : solved (left % 2 ^ cols) (left / 2 ^ (64 * width)) ≡ transpose_solve cols (form_in s n width cols rank l) v
  target_solved =
      solution_law x s n width cols rank place target_solvable wide (rw row small)
      ∙ ap₂ (transpose_solve cols) (form_kept written s n cols rank place S (omega arith) width) row

  left_lt : left < 2 ^ (64 * s)
  unfolding swept
  left_lt =
      let room : n * s ≤ length x = omega (arith, S.pivots, S.target, written.size) in
      sweep_lt (64 * s) (take rank (drop (n * s) x)) (matrix s n x) (row_at x place s)
      (all_by (λ w. w < 2 ^ (64 * s)) (matrix s n x) 0 (λ i h. matrix_lt s n x (words_put l place s v f) room i)) (rw row fits)

  module _ (y : List ℕ) (e : y ≡ put_row x place s left) where
    again : y ≡ put_row l place s left
    again = e ∙ put_put l place s v S.target left

    pub solved_row : row_at y place s ≡ left
    solved_row = ap (λ (w : List ℕ). row_at w place s) again ∙ row_put l place s left S.target left_lt

    pub solved_outside : Outside place s l y
    solved_outside = subst (Outside place s l) (sym again) (put_outside l place s left S.target)

-- ---- a Pauli's row as the target

module _ (l : List ℕ) (f : AreWords l) (n s rank : ℕ) (p : Held) (few : s ≤ 128) (bx : (held p).x < 2 ^ s) (bz : (held p).z < 2 ^ s)
    (S : FormLeft l (stride_of n) n (2 * s) rank target_at) (k : ℕ) (e : k ≡ stride_of n) (a b : List ℕ)
    (ea : a ≡ put_row l (target_at + row_words) (k - row_words) 0) (eb : b ≡ put_row a target_at 4 (row_over s (held p))) where
  abbrev v : ℕ
  v = row_over s (held p)

  v_lt : v < 2 ^ (64 * 4)
  v_lt = row_lt s (held p) few bx bz

  four : 4 ≤ stride_of n
  unfolding stride_of form_stride
  four = omega arith

  target : b ≡ put_row l target_at (stride_of n) v
  target =
      let j : 4 + (stride_of n - 4) ≡ stride_of n = omega (arith, four) in
      let room : 1040 + 4 + (stride_of n - 4) ≤ length l = omega (arith, four, S.target) in
      eb ∙ ap (λ (w : List ℕ). put_row w 1040 4 v) (ea ∙ ap (λ (m : ℕ). put_row l 1044 (m - 4) 0) e)
      ∙ put_join l 1040 4 (stride_of n - 4) v room v_lt ∙ ap (λ (m : ℕ). put_row l 1040 m v) j

  pub pauli_solvable : FormLeft b k n (2 * s) rank target_at
  pauli_solvable =
      rw (e, target) (target_solvable l f (stride_of n) n 4 (2 * s) rank target_at S (omega arith) four v v_lt)

  module _ (y : List ℕ) (ey : y ≡ put_row b target_at k (swept k n rank target_at b)) where
    left_in_lem : y ≡ put_row (put_row l target_at (stride_of n) v) target_at (stride_of n)
        (swept (stride_of n) n rank target_at (put_row l target_at (stride_of n) v))
    left_in_lem = rw (e, target) at ey

    pub pauli_words : AreWords y
    pauli_words = subst AreWords (sym left_in_lem) (words_put _ _ _ _ (words_put l target_at (stride_of n) v f))

    pub pauli_rest : Outside target_at (stride_of n) l y
    pauli_rest = solved_outside l f (stride_of n) n 4 (2 * s) rank target_at S (omega arith) four v v_lt y left_in_lem

    module _ (set : ℕ) (named : set ≡ row_at y target_at (stride_of n) / 2 ^ (64 * row_words)) where
      abbrev left' : ℕ
      left' = swept (stride_of n) n rank target_at (put_row l target_at (stride_of n) v)

      answer : solved (left' % 2 ^ (2 * s)) set ≡ transpose_solve (2 * s) (form_in (stride_of n) n row_words (2 * s) rank l) v
      answer =
          ap (solved (left' % 2 ^ (2 * s)))
          (named ∙ ap (◌/ 2 ^ (64 * 4)) (solved_row l f (stride_of n) n 4 (2 * s) rank target_at S (omega arith) four v v_lt y left_in_lem))
          ∙ target_solved l f (stride_of n) n 4 (2 * s) rank target_at S (omega arith) four v v_lt

      pub pauli_set : true ≡ eqb (swept k n rank target_at b % 2 ^ (2 * s)) 0
          → some set ≡ transpose_solve (2 * s) (form_in (stride_of n) n row_words (2 * s) rank l) v
      pauli_set t = solved_set (left' % 2 ^ (2 * s)) set (rw (e, target) at t) ∙ answer

    pub pauli_none : false ≡ eqb (swept k n rank target_at b % 2 ^ (2 * s)) 0
        → none ≡ transpose_solve (2 * s) (form_in (stride_of n) n row_words (2 * s) rank l) v
    pauli_none t =
        let set = row_at y target_at (stride_of n) / 2 ^ (64 * row_words) in
        solved_none (left' set refl % 2 ^ (2 * s)) set (rw (e, target) at t) ∙ answer set refl
