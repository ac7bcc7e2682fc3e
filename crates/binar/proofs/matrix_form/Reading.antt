-- The form in a slice, read back: what the functions leave is the echelon form, and a solution by it.
use mathlib.Core.Path.{◌≡◌, refl, sym, ap, ap₂, ◌∙◌}
use mathlib.Core.Bool.{true}
use mathlib.Core.List.{List, ◌++◌, map, map-map}
use Prim.Native.Nat.{ℕ, ◌+◌, ◌*◌, ◌/◌, ◌%◌, ◌^◌, ◌<◌}
use native.Mathlib.Nat.{div-eq_of_lt}
use native.Mathlib.Omega.{arith}
use lib.ListN.{length, take, drop, length-drop}
use lib.Seq.{take_at, length-take-le, get_or-take, get_or-drop}
use Rattle.std.proofs.Common.{Option, Some}
use Rattle.binar.specs.Words.{row_at, matrix, image}
use Rattle.binar.specs.Echelon.{Reduction, EchelonForm, echelon, rank}
use Rattle.binar.specs.Solve.{sweep, solved, transpose_solve}
use Rattle.binar.specs.Layout.{form_stride, fits, formed, FormIs, form_in, swept}
use Rattle.binar.specs.Laid.{laid_out}
use Rattle.binar.specs.Theorems.{FormLaw, SolutionLaw}
use Rattle.binar.proofs.Lists.{All, all_by}
use Rattle.binar.proofs.echelon.Span.{additive_zero}
use Rattle.binar.proofs.matrix_form.Linear.{narrowed, narrowed_additive, narrowed_same, narrowed_mod, narrowed_shr, sweep_map, beside_law}
use Rattle.binar.proofs.echelon.Matrix.{matrix_image, drop_image}
use Rattle.binar.proofs.matrix_form.Formed.{fits_true, form_count, form_below}

-- ---- the form

module _ (l : List ℕ) (width n cols : ℕ) (fit : fits width n cols (length l) ≡ true) where
  abbrev s : ℕ
  s = form_stride width n

  abbrev f : Reduction
  f = formed width n cols l

  abbrev x : List ℕ
  x = laid_out s f l

  abbrev E : EchelonForm
  E = echelon cols (matrix s n l)

  law : (f.pivots ≡ E.pivots) × (map (λ v. record { r = v % 2 ^ cols; t = v / 2 ^ (64 * width) }) f.rows ≡ E.rows)
  unfolding formed
  law = beside_law cols (64 * width) (fits_true width n cols (length l) fit).0 (matrix s n l)

  pub rows_back : matrix s n x ≡ f.rows
  unfolding laid_out
  rows_back =
      ap (λ (k : ℕ). matrix s k (image s f.rows (f.pivots ++ drop (length f.rows * s + length f.pivots) l))) (sym (form_count l width n cols fit))
      ∙ matrix_image s f.rows (f.pivots ++ drop (length f.rows * s + length f.pivots) l) (form_below l width n cols fit)

  pivots_back : take (length f.pivots) (drop (n * s) x) ≡ f.pivots
  unfolding laid_out
  pivots_back =
      let rest = drop (length f.rows * s + length f.pivots) l in
      ap (take (length f.pivots))
      (ap (λ (k : ℕ). drop (k * s) (image s f.rows (f.pivots ++ rest))) (sym (form_count l width n cols fit)) ∙ drop_image s f.rows (f.pivots ++ rest))
      ∙ take_at f.pivots rest (length f.pivots) refl

  pub form_back : form_in s n width cols (rank E) x ≡ E
  unfolding form_in rank
  form_back = λ i. record {
    rows = (ap (map (λ v. record { r = v % 2 ^ cols; t = v / 2 ^ (64 * width) })) rows_back ∙ law.1) i;
    pivots = (ap (λ (ps : List ℕ). take (length ps) (drop (n * s) x)) (sym law.0) ∙ pivots_back ∙ law.0) i;
  }

  pub rank_back : length f.pivots ≡ rank E
  unfolding rank
  rank_back = ap length law.0

pub form_law : (l : List ℕ) (width n cols : ℕ) (answer : Option ℕ) (exit : List ℕ) → FormIs l width n cols answer exit → FormLaw l width n cols answer exit
form_law l width n cols answer exit c = record {
  fitting = λ fit. (
    rw fit at c.told ∙ ap Some (rank_back l width n cols fit),
    ap (form_in (form_stride width n) n width cols (rank (echelon cols (matrix (form_stride width n) n l)))) (rw fit at c.left) ∙ form_back l width n cols fit,
  );
  other = λ fit. (rw fit at c.told, rw fit at c.left);
}

-- ---- the solution

pub solution_law : (l : List ℕ) (s n width cols rank place : ℕ) → SolutionLaw l s n width cols rank place
unfolding transpose_solve swept form_in narrowed
solution_law l s n width cols rank place S wide small =
    let w = 64 * width in
    let g = narrowed cols w wide in
    let v = row_at l place s in
    let ps = take rank (drop (n * s) l) in
    let M = matrix s n l in
    let count : length ps ≡ rank = length-take-le rank (drop (n * s) l) (rw length-drop (omega (arith, S.pivots, S.target))) in
    let inside : All (λ p. p < cols) ps = all_by (λ p. p < cols) ps 0 (λ k h. rw (get_or-take rank (drop (n * s) l) k 0 (rw count at h), get_or-drop (n * s) l k 0) (S.inside k (rw count at h))) in
    let target : g v ≡ v % 2 ^ cols = ap (λ (y : ℕ). v % 2 ^ cols + 2 ^ cols * y) (div-eq_of_lt small) ∙ omega arith in
    let same : sweep ps (map g M) (v % 2 ^ cols) ≡ g (sweep ps M v) =
    ap (sweep ps (map g M)) (sym target) ∙ sweep_map cols g (narrowed_additive cols w wide) (additive_zero g (narrowed_additive cols w wide)) (narrowed_same cols w wide) ps M v inside in
    sym (ap (λ (A : List ℕ). solved (sweep ps A (v % 2 ^ cols) % 2 ^ cols) (sweep ps A (v % 2 ^ cols) / 2 ^ cols)) (map-map (λ q. q.r + 2 ^ cols * q.t) (λ u. record { r = u % 2 ^ cols; t = u / 2 ^ w }) M)
    ∙ ap₂ solved (ap (λ (y : ℕ). y % 2 ^ cols) same ∙ narrowed_mod cols w wide (sweep ps M v)) (ap (λ (y : ℕ). y / 2 ^ cols) same ∙ narrowed_shr cols w wide (sweep ps M v)))
