-- `kernel_basis_matrix`: a basis of the rows that have an even overlap with each row of a matrix, by the steps of the source.
use Rattle.std.specs.Prelude.{List, [], ◌∷◌, map, filter, not, ◌==◌, ℕ, ◌*◌, ◌^◌}
use Rattle.std.specs.List.{list_any, range_with_len}
use Rattle.binar.specs.Row.{◌⊕◌, bit}
use Rattle.binar.specs.Echelon.{EchelonForm, echelon, R}

-- those of the numbers xs that are not among the excluded
unfoldable pub without : List ℕ → List ℕ → List ℕ
without excluded xs = filter (λ x. not (list_any (λ y. y == x) excluded)) xs

-- `complement`: the columns below c that are not among ps, rising; where ps are the pivots, the free columns
unfoldable pub free_columns : ℕ → List ℕ → List ℕ
free_columns c ps = without ps (range_with_len 0 c)

-- `res.set((row_pos, elt), rr[(index, *col_src)])`: at each pivot, the entry of the pivot's row of M in column k
unfoldable pub pivot_part : List ℕ → List ℕ → ℕ → ℕ
pivot_part [] M k = 0
pivot_part (p ∷ ps) [] k = 0
pivot_part (p ∷ ps) (v ∷ M) k = bit v k * 2 ^ p ⊕ pivot_part ps M k

-- `res.set((index, position), true)`: and a one in column k
unfoldable pub kernel_row : List ℕ → List ℕ → ℕ → ℕ
kernel_row ps M k = 2 ^ k ⊕ pivot_part ps M k

-- the rows read off an echelon form of c columns: one for each free column, rising
unfoldable pub kernel_of : ℕ → EchelonForm → List ℕ
kernel_of c f = map (kernel_row f.pivots (R f)) (free_columns c f.pivots)

-- `kernel_basis_matrix` of A's first c columns
unfoldable pub kernel_basis : ℕ → List ℕ → List ℕ
kernel_basis c A = kernel_of c (echelon c A)
