-- What a form in a slice allows, that a target behind it may change, and where the rows of a kernel lie.
use Rattle.std.proofs.Common.{◌≡◌, ap, Some, List, length, ℕ, suc, ◌+◌, ◌*◌, ◌/◌, ◌≤◌, ◌<◌, mul-le-mul_right, suc-mul, arith}
use Rattle.binar.specs.Words.{put_row}
use Rattle.binar.specs.Layout.{form_stride, FormIs, FormLeft, kernel_place, KernelIs}
use Rattle.binar.proofs.kernel.Found.{told_inside}
use Rattle.binar.proofs.row.Slice.{length_put}
use Rattle.binar.proofs.matrix_form.Alike.{left_alike}
use Rattle.binar.proofs.matrix_form.Solving.{told_rows, form_left}
use Rattle.binar.proofs.matrix_form.Sweep.{get_put_before}
use Rattle.matrices.specs.Room.{SameBefore}

-- after `echelon_form` has told a rank, targets behind the pivots can be solved for
pub form_solvable : (l x : List ℕ) (width n cols r place : ℕ) → FormIs l width n cols (Some r) x
    → n * form_stride width n + n ≤ place → place + form_stride width n ≤ length x → FormLeft x (form_stride width n) n cols r place
form_solvable l x width n cols r place F before inside = form_left l x width n cols r F place (omega (arith, told_rows l x width n cols r F, before)) inside

-- so can one right behind the pivots' words
pub solvable_behind : (l x : List ℕ) (width s n cols r : ℕ) → FormIs l width n cols (Some r) x → s ≡ width + (n + 63) / 64
    → n * (width + (n + 63) / 64) + n + (width + (n + 63) / 64) ≤ length x → FormLeft x s n cols r (n * s + n)
unfolding form_stride
solvable_behind l x width s n cols r F e inside =
    rw e (form_solvable l x width n cols r (n * form_stride width n + n) F (omega arith) inside)

pub solvable_kept : (l x : List ℕ) (s n cols r place : ℕ) → length x ≡ length l → SameBefore place l x → FormLeft l s n cols r place → FormLeft x s n cols r place
solvable_kept l x s n cols r place e same S = left_alike s n cols r place l x e (λ k a b. same k (omega (arith, S.pivots))) S

pub put_solvable : (l : List ℕ) (s n cols r place v : ℕ) → FormLeft l s n cols r place → FormLeft (put_row l place s v) s n cols r place
put_solvable l s n cols r place v S = solvable_kept l (put_row l place s v) s n cols r place (length_put l place s v S.target) (get_put_before l place s v S.target) S

-- the rows that `kernel_basis_matrix` has told lie in the slice, behind the form
pub kernel_inside : (l x : List ℕ) (width s n cols r : ℕ) → KernelIs l width n cols (Some r) x → s ≡ width + (n + 63) / 64 → n * s + n + r * width ≤ length l
unfolding kernel_place form_stride
kernel_inside l x width s n cols r C e = omega (arith, (told_inside l x width n cols r C).0, ap (n *◌) e)

pub kernel_row_inside : (l x : List ℕ) (width s n cols r i : ℕ) → KernelIs l width n cols (Some r) x → s ≡ width + (n + 63) / 64 → i < r
    → n * s + n + i * width + (cols + 63) / 64 ≤ length l
kernel_row_inside l x width s n cols r i C e h =
    let k : suc i * width ≤ r * width = mul-le-mul_right width (omega arith) in
    omega (arith, (told_inside l x width n cols r C).1, kernel_inside l x width s n cols r C e, suc-mul i width)
