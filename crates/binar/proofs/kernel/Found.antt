-- What `kernel_basis_matrix` leaves: a basis of the kernel of the matrix that was in the slice.
use Rattle.std.proofs.Common.{◌≡◌, refl, sym, ap, ap₂, ◌∙◌, subst, Bool, true, false, Option, Some, IsSome, List, ◌++◌, length, length-append, length-drop, drop, ℕ, ◌+◌, ◌*◌, ◌^◌, ◌≤◌, ◌<◌, lt_of_lt_of_le, mul-le-mul_right, pow_mono, arith}
use Rattle.binar.specs.Words.{put_rows, matrix}
use Rattle.binar.specs.Echelon.{rank}
use Rattle.binar.specs.Kernel.{kernel_of, kernel_basis}
use Rattle.binar.specs.Laid.{laid_out}
use Rattle.binar.specs.Layout.{form_stride, fits, formed, FormIs, form_in, KernelRoom, kernel_place, kernel_fits, KernelIs}
use Rattle.binar.specs.Space.{RowSpace, Independent}
use Rattle.binar.specs.Theorems.{KernelLaw, KernelFound, KernelCallLaw}
use Rattle.binar.proofs.Lists.{all_by}
use Rattle.binar.proofs.echelon.Kernel.{kernel_law}
use Rattle.binar.proofs.echelon.Bounds.{rank_rows}
use Rattle.binar.proofs.echelon.Matrix.{length_matrix, length_image}
use Rattle.binar.proofs.echelon.Space.{rank_dimension}
use Rattle.binar.proofs.echelon.Span.{below_subspace, space_in}
use Rattle.binar.proofs.kernel.Rows.{rows_puts}
use Rattle.binar.proofs.kernel.Shape.{kernel_true}
use Rattle.binar.proofs.matrix_form.Formed.{fits_true, form_count}
use Rattle.binar.proofs.matrix_form.Reading.{rank_back, form_law}
use Rattle.binar.proofs.matrix_form.Solving.{told_rows, told_inside as told_pivots, form_here}

-- ---- the form that `echelon_form` left in x

module _ (l : List ℕ) (width n cols : ℕ) (room : kernel_fits width n cols (length l) ≡ true) (x : List ℕ) where
  abbrev s : ℕ
  s = form_stride width n

  fit : fits width n cols (length l) ≡ true
  fit = (kernel_true width n cols (length l) room).0

  pub form_told : (answer : Option ℕ) → FormIs l width n cols answer x → IsSome answer
  form_told answer F = rw ((form_law l width n cols answer x F).fitting fit).0

  module _ (r : ℕ) (F : FormIs l width n cols (Some r) x) (size : length x ≡ length l) where
    pub kernel_room : KernelRoom x s n cols r (n * s + n) width cols
    unfolding kernel_place form_stride
    kernel_room = record {
      rows = told_rows l x width n cols r F;
      pivots = omega (arith, told_rows l x width n cols r F);
      room = omega (arith, size, (kernel_true width n cols (length l) room).1);
      wide = omega (arith, (fits_true width n cols (length l) fit).0);
      narrow = (fits_true width n cols (length l) fit).0;
      inside = told_pivots l x width n cols r F;
    }

    rows_are : kernel_of cols (form_in s n width cols r x) ≡ kernel_basis cols (matrix s n l)
    unfolding kernel_basis
    rows_are = ap (kernel_of cols) (form_here l x width n cols r F)

    -- and the rows written behind it
    pub kernel_is : (count : ℕ) (exit : List ℕ) → count ≡ length (kernel_of cols (form_in s n width cols r x))
        → exit ≡ put_rows x (n * s + n) width (kernel_of cols (form_in s n width cols r x)) → KernelIs l width n cols (Some count) exit
    unfolding kernel_place
    kernel_is count exit a b = record {
      told = rw room (ap Some (a ∙ ap length rows_are));
      left = rw room (b ∙ ap₂ (λ (t : List ℕ) (K : List ℕ). put_rows t (n * s + n) width K) (rw fit at F.left) rows_are);
    }

-- ---- the rows read back

module _ (l : List ℕ) (width n cols : ℕ) (fit : fits width n cols (length l) ≡ true) where
  laid_length : length (laid_out (form_stride width n) (formed width n cols l) l) ≡ length l
  unfolding laid_out rank
  laid_length =
      let s = form_stride width n in
      let f = formed width n cols l in
      let few : length f.pivots ≤ n = omega (arith, rank_back l width n cols fit, rank_rows cols (matrix s n l), length_matrix s n l) in
      let front : length f.rows * s ≡ n * s = ap (◌* s) (form_count l width n cols fit) in
      omega (
        arith,
        length_image s f.rows (f.pivots ++ drop (length f.rows * s + length f.pivots) l),
        length-append f.pivots (drop (length f.rows * s + length f.pivots) l),
        length-drop (length f.rows * s + length f.pivots) l,
        (fits_true width n cols (length l) fit).1,
      )

module _ (l x : List ℕ) (width n cols r : ℕ) (C : KernelIs l width n cols (Some r) x) where
  abbrev A : List ℕ
  A = matrix (form_stride width n) n l

  abbrev K : List ℕ
  K = kernel_basis cols A

  L : KernelLaw cols A
  L = kernel_law cols A

  told_room : kernel_fits width n cols (length l) ≡ true
  told_room = go (kernel_fits width n cols (length l)) refl
    where
      go : (b : Bool) → kernel_fits width n cols (length l) ≡ b → kernel_fits width n cols (length l) ≡ true
      go true e = e
      go false e = let t = rw e at C.told in let z : ◌≡◌ {A = ℕ} 0 1 = cc in absurd (omega arith)

  told_count : r ≡ length K
  told_count = let t = rw told_room at C.told in cc

  -- they lie in the slice
  pub told_inside : (kernel_place width n + r * width ≤ length l) × (cols ≤ 64 * width)
  told_inside =
      let k = kernel_true width n cols (length l) told_room in
      let few : r * width ≤ cols * width = mul-le-mul_right width (omega (arith, told_count, L.count _ (rank_dimension cols A))) in
      (omega (arith, k.1), (fits_true width n cols (length l) k.0).0)

  rows_read : matrix width r (drop (kernel_place width n) x) ≡ K
  rows_read =
      let k = kernel_true width n cols (length l) told_room in
      let w = laid_out (form_stride width n) (formed width n cols l) l in
      let wide : cols ≤ 64 * width = told_inside.1 in
      ap₂ (λ (m : ℕ) (t : List ℕ). matrix width m (drop (kernel_place width n) t)) told_count (rw told_room at C.left)
      ∙ rows_puts w K (kernel_place width n) width (omega (arith, ap (◌* width) told_count, told_inside.0, laid_length l width n cols k.0)) (λ i. lt_of_lt_of_le (L.narrow i) (pow_mono wide))

  kernel_found : KernelFound l x width n cols r
  kernel_found = record {
    sound = λ v h. let s = subst (λ M. RowSpace M v) rows_read h in
        (space_in (below_subspace cols) (all_by (λ u. u < 2 ^ cols) K 0 (λ i b. L.narrow i)) v s, L.sound v s);
    complete = λ v b h. subst (λ M. RowSpace M v) (sym rows_read) (L.complete v b h);
    independent = subst Independent (sym rows_read) L.independent;
    count = λ d h. omega (arith, told_count, L.count d h);
  }

pub kernel_call_law : KernelCallLaw
kernel_call_law = kernel_found
