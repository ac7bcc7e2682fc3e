-- What is proved of the echelon form, for every matrix A and every number c of columns. Each statement is a type; its
-- proof, a term of it, is in proofs/.
use Rattle.std.specs.Prelude.{◌≡◌, Bool, true, false, List, map, ℕ, ◌+◌, ◌*◌, ◌/◌, ◌%◌, ◌^◌, ◌≤◌, ◌<◌, length, get_or, take, drop, Option, Some, None}
use Rattle.std.proofs.Math.Option.{some, none}
use Rattle.binar.specs.Row.{bit, dot, columns, row_sum, units}
use Rattle.binar.specs.Echelon.{echelon, R, T, rank}
use Rattle.binar.specs.Solve.{solved, transpose_solve}
use Rattle.binar.specs.Words.{row_at, matrix}
use Rattle.binar.specs.Layout.{form_stride, fits, FormIs, form_in, FormLeft, swept, SolutionIs, kernel_place, KernelIs}
use Rattle.binar.specs.Space.{RowSpace, SameSpace, ReducedForm, Independent, Dimension}
use Rattle.binar.specs.Kernel.{kernel_basis}

-- 1. T·A = R over GF(2), where T is a square matrix
pub record TransformLaw (c : ℕ) (A : List ℕ) : Type 0 where
  pub count : length (echelon c A).rows ≡ length A
  pub square : (i : ℕ) → get_or (T (echelon c A)) i 0 < 2 ^ length A
  pub product : map (λ s. row_sum s (columns c A)) (T (echelon c A)) ≡ R (echelon c A)

-- 2. R is in reduced row echelon form: the pivots rise strictly, and every row from the rank on is zero
abbrev pub ReducedLaw : ℕ → List ℕ → Type 0
ReducedLaw c A = ReducedForm c (R (echelon c A)) (echelon c A).pivots

-- 3. The row space is kept, both ways; T has an inverse; the nonzero rows are independent, so that the rank is the dimension
-- of the row space, and no other number is
pub record SpaceLaw (c : ℕ) (A : List ℕ) : Type 0 where
  pub kept : SameSpace (columns c A) (R (echelon c A))
  pub inverse : List ℕ
  pub inverts : map (λ s. row_sum s (T (echelon c A))) inverse ≡ units 0 (length A)
  pub independent : Independent (take (rank (echelon c A)) (R (echelon c A)))
  pub dimension : Dimension (columns c A) (rank (echelon c A))
  pub no_other : (d : ℕ) → Dimension (columns c A) d → d ≡ rank (echelon c A)

-- 4. The reduced form is unique: reduced forms with the same row space have the same nonzero rows and pivots. So have the
-- echelon forms of two matrices
pub record UniqueLaw (c : ℕ) : Type 0 where
  pub reduced : (M N ps qs : List ℕ) → ReducedForm c M ps → ReducedForm c N qs → SameSpace M N → (ps ≡ qs) × (take (length ps) M ≡ take (length qs) N)
  pub echelons : (A B : List ℕ) → SameSpace (columns c A) (columns c B)
      → ((echelon c A).pivots ≡ (echelon c B).pivots) × (take (rank (echelon c A)) (R (echelon c A)) ≡ take (rank (echelon c B)) (R (echelon c B)))

-- 5. `transpose_solve` gives a set of rows of A that sums to the target, and none exactly when no set does
pub record SolveLaw (c : ℕ) (A : List ℕ) (v : ℕ) : Type 0 where
  pub sound : (s : ℕ) → transpose_solve c (echelon c A) v ≡ some s → (s < 2 ^ length A) × (row_sum s (columns c A) ≡ v % 2 ^ c)
  pub none_right : transpose_solve c (echelon c A) v ≡ none → RowSpace (columns c A) (v % 2 ^ c) → ⊥
  pub none_only : (RowSpace (columns c A) (v % 2 ^ c) → ⊥) → transpose_solve c (echelon c A) v ≡ none

-- 6. What `echelon_form` leaves in a slice is the echelon form of the matrix that was there
pub record FormLaw (l : List ℕ) (width n cols : ℕ) (answer : Option ℕ) (exit : List ℕ) : Type 0 where
  pub fitting : fits width n cols (length l) ≡ true → let f = echelon cols (matrix (form_stride width n) n l) in
      (answer ≡ Some (rank f)) × (form_in (form_stride width n) n width cols (rank f) exit ≡ f)
  pub other : fits width n cols (length l) ≡ false → (answer ≡ None) × (exit ≡ l)

-- 7. What `transpose_solve` leaves is the solution by the form in the slice, where the target's T words are zero at entry
abbrev pub SolutionLaw : List ℕ → ℕ → ℕ → ℕ → ℕ → ℕ → ℕ → Type 0
SolutionLaw l s n width cols rank place =
    FormLeft l s n cols rank place → cols ≤ 64 * width → row_at l place s < 2 ^ (64 * width)
    → solved (swept s n rank place l % 2 ^ cols) (swept s n rank place l / 2 ^ (64 * width)) ≡ transpose_solve cols (form_in s n width cols rank l) (row_at l place s)

-- `echelon_form` told the rank r and left x; in w its rows and pivots are as they were left, and behind them, at word `place`, stands a row
-- with the target v in its R words and zeros in its T words
pub record Targeted (x w : List ℕ) (width n r place v : ℕ) : Type 0 where
  pub size : length w ≡ length x
  pub kept : (i : ℕ) → i < n * form_stride width n + r → get_or w i 0 ≡ get_or x i 0
  pub behind : n * form_stride width n + r ≤ place
  pub room : place + form_stride width n ≤ length w
  pub target : row_at w place (form_stride width n) ≡ v
  pub narrow : v < 2 ^ (64 * width)

-- "`transpose_solve` gives the row set of A that sums to a target through R and T, or none exactly when no set does": A is the matrix
-- that was in l. What the call requires is met; whatever it answers and leaves, a set told is in the T words of the target's row
pub record SetLaw (l w : List ℕ) (width n cols r place v : ℕ) : Type 0 where
  pub required : FormLeft w (form_stride width n) n cols r place
  pub set_sums : (answer : Bool) (w' : List ℕ) → SolutionIs w (form_stride width n) n cols r place answer w' → answer ≡ true
      → let set = row_at w' place (form_stride width n) / 2 ^ (64 * width) in
      (set < 2 ^ n) × (row_sum set (columns cols (matrix (form_stride width n) n l)) ≡ v % 2 ^ cols)
  pub none_right : (answer : Bool) (w' : List ℕ) → SolutionIs w (form_stride width n) n cols r place answer w' → answer ≡ false
      → RowSpace (columns cols (matrix (form_stride width n) n l)) (v % 2 ^ cols) → ⊥
  pub none_only : (answer : Bool) (w' : List ℕ) → SolutionIs w (form_stride width n) n cols r place answer w'
      → (RowSpace (columns cols (matrix (form_stride width n) n l)) (v % 2 ^ cols) → ⊥) → answer ≡ false

-- 8. That sentence, of the two calls as their contracts have them
abbrev pub CallsLaw : Type 0
CallsLaw =
    (l x w : List ℕ) (width n cols r place v : ℕ) → FormIs l width n cols (Some r) x → Targeted x w width n r place v
    → SetLaw l w width n cols r place v

-- 9. The rows of `kernel_basis_matrix`: one for each free column, rising, with a one there and in no other free column; at each pivot it has
-- the entry of the pivot's row of R in that column
pub record KernelRowsLaw (c : ℕ) (A : List ℕ) : Type 0 where
  -- the free columns: with the pivots they are all columns
  pub free : List ℕ
  pub rise : (i j : ℕ) → i < j → j < length free → get_or free i 0 < get_or free j 0
  pub inside : (i : ℕ) → i < length free → get_or free i 0 < c
  pub no_pivot : (i j : ℕ) → i < length free → j < rank (echelon c A) → get_or free i 0 ≡ get_or (echelon c A).pivots j 0 → ⊥
  pub all_columns : length free + rank (echelon c A) ≡ c
  pub count : length (kernel_basis c A) ≡ length free
  pub own : (i : ℕ) → i < length free → bit (get_or (kernel_basis c A) i 0) (get_or free i 0) ≡ 1
  pub others : (i j : ℕ) → i < length free → j < length free → (i ≡ j → ⊥) → bit (get_or (kernel_basis c A) i 0) (get_or free j 0) ≡ 0
  pub at_pivots : (i j : ℕ) → i < length free → j < rank (echelon c A)
      → bit (get_or (kernel_basis c A) i 0) (get_or (echelon c A).pivots j 0) ≡ bit (get_or (R (echelon c A)) j 0) (get_or free i 0)

-- 10. They are a basis of the rows of c columns that have an even overlap with every row of A: "a vector is a sum of the rows exactly when
-- its overlap with every row of A is even; the rows are independent; with the rank they number the columns"
pub record KernelLaw (c : ℕ) (A : List ℕ) : Type 0 where
  pub narrow : (i : ℕ) → get_or (kernel_basis c A) i 0 < 2 ^ c
  pub sound : (v : ℕ) → RowSpace (kernel_basis c A) v → (j : ℕ) → dot v (get_or (columns c A) j 0) ≡ 0
  pub complete : (v : ℕ) → v < 2 ^ c → ((j : ℕ) → dot v (get_or (columns c A) j 0) ≡ 0) → RowSpace (kernel_basis c A) v
  pub independent : Independent (kernel_basis c A)
  pub count : (d : ℕ) → Dimension (columns c A) d → length (kernel_basis c A) + d ≡ c
  -- a row that has an even overlap with each of them is in the row space; so one outside it has an odd overlap with some
  pub dual : (v : ℕ) → v < 2 ^ c → ((i : ℕ) → dot (get_or (kernel_basis c A) i 0) v ≡ 0) → RowSpace (columns c A) v
  pub odd : (v : ℕ) → v < 2 ^ c → (RowSpace (columns c A) v → ⊥)
      → (i : ℕ) × (i < length (kernel_basis c A)) × (dot (get_or (kernel_basis c A) i 0) v ≡ 1)
  -- a matrix with the same row space has the same kernel rows
  pub same : (B : List ℕ) → SameSpace (columns c A) (columns c B) → kernel_basis c A ≡ kernel_basis c B

-- `kernel_basis_matrix` told r rows and left x: of the matrix A that was in l and the rows K that are in x, what the tenth law says
pub record KernelFound (l x : List ℕ) (width n cols r : ℕ) : Type 0 where
  pub sound : let A = columns cols (matrix (form_stride width n) n l) in let K = matrix width r (drop (kernel_place width n) x) in
      (v : ℕ) → RowSpace K v → (v < 2 ^ cols) × ((j : ℕ) → dot v (get_or A j 0) ≡ 0)
  pub complete : let A = columns cols (matrix (form_stride width n) n l) in let K = matrix width r (drop (kernel_place width n) x) in
      (v : ℕ) → v < 2 ^ cols → ((j : ℕ) → dot v (get_or A j 0) ≡ 0) → RowSpace K v
  pub independent : Independent (matrix width r (drop (kernel_place width n) x))
  pub count : (d : ℕ) → Dimension (columns cols (matrix (form_stride width n) n l)) d → r + d ≡ cols

-- 11. That, of the call as its contract has it
abbrev pub KernelCallLaw : Type 0
KernelCallLaw = (l x : List ℕ) (width n cols r : ℕ) → KernelIs l width n cols (Some r) x → KernelFound l x width n cols r
