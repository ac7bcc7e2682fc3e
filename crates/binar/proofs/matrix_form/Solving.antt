-- Solving with the form that `echelon_form` left: what `transpose_solve` answers, of the matrix that was there.
use mathlib.Core.Path.{◌≡◌, refl, sym, ap, ap₂, ◌∙◌, subst}
use mathlib.Core.Bool.{Bool, true, false}
use mathlib.Core.List.{List}
use mathlib.Core.Option.{some, none}
use Prim.Native.Nat.{ℕ, zero, suc, ◌+◌, ◌*◌, ◌/◌, ◌%◌, ◌^◌, ◌≤◌, ◌<◌}
use native.Mathlib.Nat.{lt_of_lt_of_le}
use native.Mathlib.Omega.{arith}
use lib.Dec.{eqb, eqb-suc-zero}
use lib.ListN.{length, get_or, take, drop}
use lib.Pow.{pow_mono}
use lib.Seq.{get_or-take, get_or-drop}
use Rattle.std.proofs.Common.{Some}
use Rattle.binar.specs.Row.{columns, row_sum}
use Rattle.binar.specs.Words.{row_at, matrix}
use Rattle.binar.specs.Echelon.{EchelonForm, echelon, rank}
use Rattle.binar.specs.Solve.{solved, transpose_solve}
use Rattle.binar.specs.Space.{RowSpace}
use Rattle.binar.specs.Layout.{form_stride, fits, FormIs, form_in, FormLeft, swept, SolutionIs}
use Rattle.binar.specs.Theorems.{Targeted, CallsLaw}
use Rattle.binar.proofs.Lists.{all_by}
use Rattle.binar.proofs.echelon.Bounds.{rank_rows, sweep_lt}
use Rattle.binar.proofs.echelon.Matrix.{Below, length_matrix}
use Rattle.binar.proofs.echelon.Solve.{solve_sound, solve_none, none_solves}
use Rattle.binar.proofs.echelon.Space.{R-reduced, R-narrow}
use Rattle.binar.proofs.matrix_form.Alike.{Alike, matrix_alike, form_alike, left_alike}
use Rattle.binar.proofs.matrix_form.Form.{to_form}
use Rattle.binar.proofs.matrix_form.Formed.{fits_true, form_below}
use Rattle.binar.proofs.matrix_form.Reading.{form_law, rows_back, solution_law}
use Rattle.binar.proofs.matrix_form.Sweep.{row_put}

-- ---- what the answer says of a target and a set

pub solved_set : (rest set : ℕ) → true ≡ eqb rest 0 → some set ≡ solved rest set
unfolding solved
solved_set zero set e = refl
solved_set (suc rest) set e =
    let same : true ≡ false = e ∙ eqb-suc-zero rest in
    let z : ◌≡◌ {A = ℕ} 0 1 = cc in
    absurd (omega arith)

pub solved_none : (rest set : ℕ) → false ≡ eqb rest 0 → none ≡ solved rest set
unfolding solved
solved_none zero set e = let z : ◌≡◌ {A = ℕ} 0 1 = cc in absurd (omega arith)
solved_none (suc rest) set e = refl

told_none : (rest set : ℕ) → solved rest set ≡ none → eqb rest 0 ≡ false
unfolding solved
told_none zero set e = let z : ◌≡◌ {A = ℕ} 0 1 = cc in absurd (omega arith)
told_none (suc rest) set e = eqb-suc-zero rest

-- ---- after `echelon_form` has told a rank

module _ (l x : List ℕ) (width n cols r : ℕ) (F : FormIs l width n cols (Some r) x) where
  abbrev s : ℕ
  s = form_stride width n

  abbrev A : List ℕ
  A = matrix s n l

  abbrev E : EchelonForm
  E = echelon cols A

  pub told_fits : fits width n cols (length l) ≡ true
  told_fits = go (fits width n cols (length l)) refl
    where
      go : (b : Bool) → fits width n cols (length l) ≡ b → fits width n cols (length l) ≡ true
      go true e = e
      go false e = let t = ((form_law l width n cols (Some r) x F).other e).0 in let z : ◌≡◌ {A = ℕ} 0 1 = cc in absurd (omega arith)

  told_rank_lem : r ≡ rank E
  told_rank_lem = let t = ((form_law l width n cols (Some r) x F).fitting told_fits).0 in cc

  pub told_rows : r ≤ n
  told_rows = omega (arith, told_rank_lem, rank_rows cols A, length_matrix s n l)

  pub form_here : form_in s n width cols r x ≡ E
  form_here = ap (λ (k : ℕ). form_in s n width cols k x) told_rank_lem ∙ ((form_law l width n cols (Some r) x F).fitting told_fits).1

  -- the pivots are columns
  pub told_inside : (k : ℕ) → k < r → get_or x (n * s + k) 0 < cols
  unfolding form_in rank
  told_inside k b =
      subst (λ (p : ℕ). p < cols)
      (ap (λ (f : EchelonForm). get_or f.pivots k 0) (sym form_here) ∙ get_or-take r (drop (n * s) x) k 0 b ∙ get_or-drop (n * s) x k 0)
      ((to_form (R-reduced cols A) (R-narrow cols A)).inside k (subst (λ (m : ℕ). k < m) told_rank_lem b))

  -- it requires no more than a target behind them
  pub form_left : (place : ℕ) → n * s + r ≤ place → place + s ≤ length x → FormLeft x s n cols r place
  unfolding form_stride
  form_left place behind room = record {
    rows = told_rows;
    pivots = behind;
    target = room;
    wide = omega (arith, (fits_true width n cols (length l) told_fits).0);
    inside = told_inside;
  }

  rows_below : Below (64 * s) (matrix s n x)
  rows_below =
      let left = rw told_fits at F.left in
      subst (Below (64 * s)) (sym (ap (matrix s n) left ∙ rows_back l width n cols told_fits)) (form_below l width n cols told_fits)

  -- ---- and a target stands behind the form

  module _ (w : List ℕ) (place v : ℕ) (t : Targeted x w width n r place v) where
    same : Alike 0 (n * s + r) x w
    same k a b = t.kept k (omega arith)

    required : FormLeft w s n cols r place
    required = left_alike s n cols r place x w t.size same (form_left place t.behind (omega (arith, t.room, t.size)))

    abbrev left : ℕ
    left = swept s n r place w

    answered : solved (left % 2 ^ cols) (left / 2 ^ (64 * width)) ≡ transpose_solve cols E v
    answered =
        solution_law w s n width cols r place required (fits_true width n cols (length l) told_fits).0 (rw t.target t.narrow)
        ∙ ap₂ (transpose_solve cols)
        (form_alike s n width cols r x w t.size (omega (arith, t.behind, t.room, t.size)) same ∙ form_here) t.target

    left_lt : left < 2 ^ (64 * s)
    unfolding swept form_stride
    left_lt =
        let M : matrix s n w ≡ matrix s n x = matrix_alike s n x w t.size (omega (arith, t.behind, t.room, t.size)) (λ k a b. same k a (omega arith)) in
        let k : 64 * width ≤ 64 * s = omega arith in
        sweep_lt (64 * s) (take r (drop (n * s) w)) (matrix s n w) (row_at w place s)
        (all_by (λ u. u < 2 ^ (64 * s)) (matrix s n w) 0 (λ i h. rw M (rows_below i))) (rw t.target (lt_of_lt_of_le t.narrow (pow_mono k)))

    module _ (answer : Bool) (w' : List ℕ) (S : SolutionIs w s n cols r place answer w') where
      set_sums : answer ≡ true
          → let set = row_at w' place s / 2 ^ (64 * width) in (set < 2 ^ n) × (row_sum set (columns cols A) ≡ v % 2 ^ cols)
      set_sums e =
          let set = row_at w' place s / 2 ^ (64 * width) in
          let row : row_at w' place s ≡ left = ap (λ (u : List ℕ). row_at u place s) S.left ∙ row_put w place s left required.target left_lt in
          let found : some set ≡ transpose_solve cols E v =
          solved_set (left % 2 ^ cols) set (sym e ∙ S.told) ∙ ap (λ (u : ℕ). solved (left % 2 ^ cols) (u / 2 ^ (64 * width))) row ∙ answered in
          let sound = solve_sound cols A v set (sym found) in
          (rw (length_matrix s n l) at sound.0, sound.1)

      none_right : answer ≡ false → RowSpace (columns cols A) (v % 2 ^ cols) → ⊥
      none_right e =
          solve_none cols A v (sym (solved_none (left % 2 ^ cols) (left / 2 ^ (64 * width)) (sym e ∙ S.told) ∙ answered))

      none_only : (RowSpace (columns cols A) (v % 2 ^ cols) → ⊥) → answer ≡ false
      none_only h = S.told ∙ told_none (left % 2 ^ cols) (left / 2 ^ (64 * width)) (answered ∙ none_solves cols A v h)

pub calls_law : CallsLaw
calls_law l x w width n cols r place v F t = record {
  required = required l x width n cols r F w place v t;
  set_sums = set_sums l x width n cols r F w place v t;
  none_right = none_right l x width n cols r F w place v t;
  none_only = none_only l x width n cols r F w place v t;
}
