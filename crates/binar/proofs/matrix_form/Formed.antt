-- Laws of the echelon form of a matrix of any shape: what the test for its shape tells, and what is left in the slice.
use mathlib.Core.Path.{◌≡◌, refl, sym, ap, ◌∙◌, subst}
use mathlib.Core.Bool.{Bool, true, false}
use mathlib.Core.List.{List, [], ◌∷◌, ◌++◌}
use Prim.Native.Nat.{ℕ, zero, suc, ◌+◌, ◌-◌, ◌*◌, ◌/◌, ◌%◌, ◌^◌, ◌≤◌, ◌<◌}
use native.Mathlib.Nat.{mod-lt, suc-mul, add_comm, mul_comm}
use native.Mathlib.Omega.{arith}
use borrow.Author.Tests.{leb-true}
use lib.Arith.{digits_lt}
use lib.Dec.{leb}
use lib.ListN.{length, drop}
use lib.Pow.{pow_pos, pow-add, pow-lt}
use lib.Seq.{drop-drop}
use Rattle.std.proofs.Common.{Some, ◌&&◌}
use Rattle.binar.specs.Words.{matrix, image}
use Rattle.binar.specs.Echelon.{echelonize, beside_identity}
use Rattle.binar.specs.Layout.{form_stride, fits, formed, FormIs}
use Rattle.binar.specs.Laid.{laid_out}
use Rattle.binar.proofs.echelon.Matrix.{Below, length_matrix, matrix_image, drop_image}
use Rattle.binar.proofs.Lists.{all_get_d, all_by}
use Rattle.binar.proofs.echelon.Kept.{echelonize_length}
use Rattle.binar.proofs.echelon.Bounds.{echelonize_lt}
use Rattle.binar.proofs.echelon.Transform.{beside_length}

-- ---- the shape

and_true_lem : (a b : Bool) → (a && b) ≡ true → (a ≡ true) × (b ≡ true)
and_true_lem true b e = (refl, e)
and_true_lem false b e = let z : ◌≡◌ {A = ℕ} 0 1 = cc in absurd (omega arith)

pub fits_true : (width n cols m : ℕ) → fits width n cols m ≡ true → (cols ≤ 64 * width) × (n * form_stride width n + n ≤ m)
unfolding fits
fits_true width n cols m e =
    let h = and_true_lem (leb cols (64 * width)) (leb (n * form_stride width n + n) m) e in
    (leb-true cols (64 * width) h.0, leb-true (n * form_stride width n + n) m h.1)

-- a row's words are not too many to count
pub stride_counts : (width n m : ℕ) → n * form_stride width n + n ≤ m → m < 2 ^ 60 → width < 2 ^ 64 → width + (n + 63) / 64 < 2 ^ 64
unfolding form_stride
stride_counts width zero m h k w = omega arith
stride_counts width (suc n) m h k w = omega (arith, suc-mul n (form_stride width (suc n)))

-- ---- the identity's rows fit theirs

beside_below : (p k i : ℕ) (A : List ℕ) → p + (i + length A) ≤ k → Below k (beside_identity p i A)
unfolding beside_identity
beside_below p k i [] h j = pow_pos k
beside_below p k i (v ∷ A) h zero =
    let e : (k - p) + p ≡ k = omega arith in
    let d : 2 ^ i * 2 ^ p + v % 2 ^ p < 2 ^ (k - p) * 2 ^ p = digits_lt (pow-lt {i = i} {j = k - p} (omega arith)) (mod-lt v (pow_pos p)) in
    subst (λ (x : ℕ). x < 2 ^ k) (add_comm (2 ^ i * 2 ^ p) (v % 2 ^ p) ∙ ap (v % 2 ^ p +◌) (mul_comm (2 ^ i) (2 ^ p)))
    (subst (λ (x : ℕ). 2 ^ i * 2 ^ p + v % 2 ^ p < x) (sym (pow-add 2 (k - p) p) ∙ ap (2 ^◌) e) d)
beside_below p k i (v ∷ A) h (suc j) = beside_below p k (suc i) A (omega arith) j

-- ---- the slice at the end

module _ (l : List ℕ) (width n cols : ℕ) (fit : fits width n cols (length l) ≡ true) where
  abbrev s : ℕ
  s = form_stride width n

  abbrev B : List ℕ
  B = beside_identity (64 * width) 0 (matrix s n l)

  count : length B ≡ n
  count = beside_length (64 * width) 0 (matrix s n l) ∙ length_matrix s n l

  bound : Below (64 * s) B
  unfolding form_stride
  bound = beside_below (64 * width) (64 * s) 0 (matrix s n l) (rw (length_matrix s n l) (omega arith))

  pub form_count : length (formed width n cols l).rows ≡ n
  unfolding formed
  form_count = echelonize_length cols B ∙ count

  pub form_below : Below (64 * s) (formed width n cols l).rows
  unfolding formed
  form_below = all_get_d (λ v. v < 2 ^ (64 * s)) (echelonize cols B).rows 0 (pow_pos (64 * s))
      (echelonize_lt cols (64 * s) B (all_by (λ v. v < 2 ^ (64 * s)) B 0 (λ i h. bound i)))

  -- w is the slice with the identity, x the slice after its reduction
  module _ (w x : List ℕ) (r : ℕ) (e : w ≡ image s B (drop (n * s) l)) where
    rows : matrix s n w ≡ B
    rows = ap (matrix s n) e ∙ ap (λ (k : ℕ). matrix s k (image s B (drop (n * s) l))) (sym count) ∙ matrix_image s B (drop (n * s) l) bound

    behind : (k : ℕ) → drop (n * s + k) w ≡ drop (n * s + k) l
    behind k =
        sym (drop-drop k (n * s) w) ∙ ap (drop k) (ap (drop (n * s)) e ∙ ap (λ (j : ℕ). drop (j * s) (image s B (drop (n * s) l))) (sym count) ∙ drop_image s B (drop (n * s) l))
        ∙ drop-drop k (n * s) l

    left_is : laid_out s (echelonize cols (matrix s n w)) w ≡ laid_out s (formed width n cols l) l
    unfolding laid_out formed
    left_is =
        let f = echelonize cols B in
        let size : length f.rows ≡ n = echelonize_length cols B ∙ count in
        ap (λ (A : List ℕ). laid_out s (echelonize cols A) w) rows
        ∙ ap (λ (t : List ℕ). image s f.rows (f.pivots ++ t)) (ap (λ (k : ℕ). drop (k * s + length f.pivots) w) size ∙ behind (length f.pivots) ∙ ap (λ (k : ℕ). drop (k * s + length f.pivots) l) (sym size))

    pub form_is : r ≡ length (echelonize cols (matrix s n w)).pivots → x ≡ laid_out s (echelonize cols (matrix s n w)) w → FormIs l width n cols (Some r) x
    unfolding formed
    form_is k h = record {
      told = rw fit (ap Some (k ∙ ap (λ (A : List ℕ). length (echelonize cols A).pivots) rows));
      left = rw fit (h ∙ left_is);
    }
