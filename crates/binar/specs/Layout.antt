-- What the functions of the module matrix_form answer and leave in the slice lent.
use Rattle.std.specs.Prelude.{◌≡◌, Bool, cond, ◌&&◌, List, map, ℕ, ◌+◌, ◌*◌, ◌/◌, ◌%◌, ◌^◌, ◌≤◌, ◌<◌, leb, eqb, length, get_or, take, drop, Option, Some, None}
use Rattle.binar.specs.Words.{row_at, put_row, put_rows, matrix}
use Rattle.binar.specs.Echelon.{Reduction, echelonize, beside_identity, EchelonForm}
use Rattle.binar.specs.Solve.{sweep}
use Rattle.binar.specs.Kernel.{kernel_basis}
use Rattle.binar.specs.Laid.{laid_out}

-- ---- the echelon form of a matrix of any shape

-- a row of the form is `width` words of R, then T's words: a bit for each of the n rows
unfoldable pub form_stride : ℕ → ℕ → ℕ
form_stride width n = width + (n + 63) / 64

-- the columns lie in R's words, and the slice of m words has room for the rows and as many pivots
unfoldable pub fits : ℕ → ℕ → ℕ → ℕ → Bool
fits width n cols m = leb cols (64 * width) && leb (n * form_stride width n + n) m

-- the n rows of a slice, with the identity in T's words, reduced by the first cols columns
unfoldable pub formed : ℕ → ℕ → ℕ → List ℕ → Reduction
formed width n cols l = echelonize cols (beside_identity (64 * width) 0 (matrix (form_stride width n) n l))

-- `echelon_form`: the rank and the form; or none, where the shape does not fit, and the slice as it was
pub record FormIs (l : List ℕ) (width n cols : ℕ) (answer : Option ℕ) (exit : List ℕ) : Type 0 where
  pub told : answer ≡ cond (fits width n cols (length l)) (Some (length (formed width n cols l).pivots)) None
  pub left : exit ≡ cond (fits width n cols (length l)) (laid_out (form_stride width n) (formed width n cols l) l) l

-- ---- a form in a slice, read and used

-- R is the first cols columns of the n rows of s words, T their words past the first `width`, and `rank` pivots stand behind
unfoldable pub form_in : ℕ → ℕ → ℕ → ℕ → ℕ → List ℕ → EchelonForm
form_in s n width cols rank l = record {
  rows = map (λ v. record { r = v % 2 ^ cols; t = v / 2 ^ (64 * width) }) (matrix s n l);
  pivots = take rank (drop (n * s) l);
}

-- here is a form as `echelon_form` leaves it, n rows of s words and behind them the pivots of the first `rank`, with a target of s words
-- at word `place`
pub record FormLeft (l : List ℕ) (s n cols rank place : ℕ) : Type 0 where
  pub rows : rank ≤ n
  pub pivots : n * s + rank ≤ place
  pub target : place + s ≤ length l
  pub wide : cols ≤ 64 * s
  pub inside : (k : ℕ) → k < rank → get_or l (n * s + k) 0 < cols

-- what is left of the target, with the rows of T that were added beside it
unfoldable pub swept : ℕ → ℕ → ℕ → ℕ → List ℕ → ℕ
swept s n rank place l = sweep (take rank (drop (n * s) l)) (matrix s n l) (row_at l place s)

-- `transpose_solve`: whether there is a set, which there is if nothing is left of the target's first cols columns; and the target's row
-- with what is left of the target and, beside it, the set
pub record SolutionIs (l : List ℕ) (s n cols rank place : ℕ) (answer : Bool) (exit : List ℕ) : Type 0 where
  pub told : answer ≡ eqb (swept s n rank place l % 2 ^ cols) 0
  pub left : exit ≡ put_row l place s (swept s n rank place l)

-- ---- the basis of the kernel, read off a form

-- here is a form as `echelon_form` leaves it, n rows of s words and behind them the pivots of the first `rank`, and from word `place` on
-- room for m rows of `width` words, which have the form's columns
pub record KernelRoom (l : List ℕ) (s n cols rank place width m : ℕ) : Type 0 where
  pub rows : rank ≤ n
  pub pivots : n * s + rank ≤ place
  pub room : place + m * width ≤ length l
  pub wide : cols ≤ 64 * s
  pub narrow : cols ≤ 64 * width
  pub inside : (k : ℕ) → k < rank → get_or l (n * s + k) 0 < cols

-- `kernel_basis_matrix` leaves its rows, `width` words each, behind the form and its n words for pivots
unfoldable pub kernel_place : ℕ → ℕ → ℕ
kernel_place width n = n * form_stride width n + n

-- the form fits, and behind it a row for each column
unfoldable pub kernel_fits : ℕ → ℕ → ℕ → ℕ → Bool
kernel_fits width n cols m = fits width n cols m && leb (kernel_place width n + cols * width) m

-- `kernel_basis_matrix`: how many rows, and the form with them behind it; or none, where there is no room, and the slice as it was
pub record KernelIs (l : List ℕ) (width n cols : ℕ) (answer : Option ℕ) (exit : List ℕ) : Type 0 where
  pub told : let rows = kernel_basis cols (matrix (form_stride width n) n l) in
      answer ≡ cond (kernel_fits width n cols (length l)) (Some (length rows)) None
  pub left : let rows = kernel_basis cols (matrix (form_stride width n) n l) in
      exit ≡ cond (kernel_fits width n cols (length l)) (put_rows (laid_out (form_stride width n) (formed width n cols l) l) (kernel_place width n) width rows) l
