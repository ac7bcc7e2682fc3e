-- Row space, reduced form and dimension, on their own: nothing here speaks of R, T or a step of the reduction.
use Rattle.std.specs.Prelude.{◌≡◌, List, ℕ, ◌^◌, ◌≤◌, ◌<◌, length, get_or}
use Rattle.binar.specs.Row.{bit, row_sum}

-- v is in the row space of A: it is the sum of a subset of A's rows
pub record RowSpace (A : List ℕ) (v : ℕ) : Type 0 where
  pub subset : ℕ
  pub sums : row_sum subset A ≡ v

-- A and B have the same row space
pub record SameSpace (A B : List ℕ) : Type 0 where
  pub there : (v : ℕ) → RowSpace A v → RowSpace B v
  pub back : (v : ℕ) → RowSpace B v → RowSpace A v

-- M, a matrix of c columns, is in reduced row echelon form with the pivot columns ps
pub record ReducedForm (c : ℕ) (M ps : List ℕ) : Type 0 where
  -- no bit past column c
  pub narrow : (i : ℕ) → get_or M i 0 < 2 ^ c
  -- the pivots lie in the matrix and rise strictly
  pub room : length ps ≤ length M
  pub inside : (i : ℕ) → i < length ps → get_or ps i 0 < c
  pub rise : (i j : ℕ) → i < j → j < length ps → get_or ps i 0 < get_or ps j 0
  -- the first one of row i is at pivot i
  pub one : (i : ℕ) → i < length ps → bit (get_or M i 0) (get_or ps i 0) ≡ 1
  pub first : (i k : ℕ) → i < length ps → k < get_or ps i 0 → bit (get_or M i 0) k ≡ 0
  -- no other row has a one there
  pub alone : (i j : ℕ) → i < length ps → (j ≡ i → ⊥) → bit (get_or M j 0) (get_or ps i 0) ≡ 0
  -- all further rows are zero
  pub zeros : (i : ℕ) → length ps ≤ i → get_or M i 0 ≡ 0

-- of the subsets of the rows B only the empty one sums to zero
unfoldable pub Independent : List ℕ → Type 0
Independent B = (s : ℕ) → s < 2 ^ length B → row_sum s B ≡ 0 → s ≡ 0

-- the row space of A has dimension d: it has a basis of d rows
pub record Dimension (A : List ℕ) (d : ℕ) : Type 0 where
  pub basis : List ℕ
  pub spans : SameSpace basis A
  pub independent : Independent basis
  pub size : length basis ≡ d
