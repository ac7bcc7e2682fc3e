-- Echelon form of an n by c matrix, by document 01, "Bit row and matrix".
--
-- Bits past column c take part in swaps and additions and never in the search. The transform T is made that way: the
-- identity is written beside A, past column c, so that it takes the same swaps and additions.
use Rattle.std.specs.Prelude.{Bool, true, false, List, [], ◌∷◌, map, ℕ, zero, suc, ◌+◌, ◌-◌, ◌*◌, ◌/◌, ◌%◌, ◌^◌, eqb, length, get_or, set, drop, Option, Some, None}
use Rattle.binar.specs.declared.echelon.Cell.{Cell}
use Rattle.binar.specs.Row.{◌⊕◌, bit, if_bit}

-- "each from the start row down": the first of the rows vs, numbered from i, with a one in column c, else what later
-- columns give
unfoldable pub in_column : ℕ → ℕ → List ℕ → Option Cell → Option Cell
in_column c i [] later = later
in_column c i (v ∷ vs) later = if_bit (bit v c) (Some (record { row = i; col = c })) (in_column c (suc i) vs later)

-- "column by column": n columns from column c on
unfoldable pub by_columns : ℕ → ℕ → ℕ → List ℕ → Option Cell
by_columns zero c i vs = None
by_columns (suc n) c i vs = in_column c i vs (by_columns n (suc c) i vs)

-- `pivot_of` in the first cols columns of M, from row i and column c on
unfoldable pub pivot_of : ℕ → ℕ → ℕ → List ℕ → Option Cell
pivot_of cols i c M = by_columns (cols - c) c i (drop i M)

-- "that row is swapped into place"
unfoldable pub swap_rows : ℕ → ℕ → List ℕ → List ℕ
swap_rows i j M = set (set M i (get_or M j 0)) j (get_or M i 0)

-- row v, with p added if v has a one in column c
unfoldable pub clear : ℕ → ℕ → ℕ → ℕ
clear c p v = if_bit (bit v c) (v ⊕ p) v

unfoldable pub unless : Bool → ℕ → ℕ → ℕ
unless true v w = v
unless false v w = w

-- "and added to all other rows with a one in the column": the rows numbered from i on; row r is p itself
unfoldable pub add_to_others : ℕ → ℕ → ℕ → ℕ → List ℕ → List ℕ
add_to_others c p r i [] = []
add_to_others c p r i (v ∷ vs) = unless (eqb i r) v (clear c p v) ∷ add_to_others c p r (suc i) vs

-- all that is done for a pivot found in row i and column c, whose place is row r
unfoldable pub place_pivot : ℕ → ℕ → ℕ → List ℕ → List ℕ
place_pivot r i c M = add_to_others c (get_or M i 0) r 0 (swap_rows i r M)

-- the rows at the end, and the pivot columns
pub record Reduction : Type 0 where
  pub rows : List ℕ
  pub pivots : List ℕ

unfoldable pub with_pivot : ℕ → Reduction → Reduction
with_pivot c f = record { rows = f.rows; pivots = c ∷ f.pivots }

unfoldable pub on_found {ℓ} : {X : Type ℓ} → Option Cell → X → (ℕ → ℕ → X) → X
on_found None x k = x
on_found (Some cell) x k = k cell.row cell.col

-- at most n more pivots, the next of them to go to row r and to be looked for from column c on
unfoldable pub echelonize_from : ℕ → ℕ → ℕ → ℕ → List ℕ → Reduction
echelonize_from cols zero r c M = record { rows = M; pivots = [] }
echelonize_from cols (suc n) r c M =
    on_found (pivot_of cols r c M) (record { rows = M; pivots = [] })
    (λ i j. with_pivot j (echelonize_from cols n (suc r) (suc j) (place_pivot r i j M)))

-- `echelonize`: reduction by the first cols columns of a matrix
unfoldable pub echelonize : ℕ → List ℕ → Reduction
echelonize cols M = echelonize_from cols (length M) 0 0 M

-- A with the identity beside it: row i of A in the first c columns, and a one in column c + i
unfoldable pub beside_identity : ℕ → ℕ → List ℕ → List ℕ
beside_identity c i [] = []
beside_identity c i (v ∷ A) = (v % 2 ^ c + 2 ^ c * 2 ^ i) ∷ beside_identity c (suc i) A

-- a row of R and the row of T with the same number
pub record Row : Type 0 where
  pub r : ℕ
  pub t : ℕ

pub record EchelonForm : Type 0 where
  pub rows : List Row
  pub pivots : List ℕ

-- the echelon form of A's first c columns
unfoldable pub echelon : ℕ → List ℕ → EchelonForm
echelon c A =
    let f = echelonize c (beside_identity c 0 A) in
    record { rows = map (λ v. record { r = v % 2 ^ c; t = v / 2 ^ c }) f.rows; pivots = f.pivots }

-- R, T and the rank
unfoldable pub R : EchelonForm → List ℕ
R f = map (λ q. q.r) f.rows

unfoldable pub T : EchelonForm → List ℕ
T f = map (λ q. q.t) f.rows

unfoldable pub rank : EchelonForm → ℕ
rank f = length f.pivots
