-- The echelon form is reduced, keeps the row space, and its rank is the dimension.
use mathlib.Core.Path.{◌≡◌, refl, sym, ap₂, subst}
use mathlib.Core.List.{List, [], ◌∷◌, ◌++◌, map}
use Prim.Native.Nat.{ℕ, ◌/◌, ◌%◌, ◌^◌, ◌<◌}
use native.Mathlib.Omega.{arith}
use lib.ListN.{length, take, drop, take-append-drop}
use lib.Seq.{length-take-le}
use Rattle.binar.specs.Row.{columns, row_sum, units}
use Rattle.binar.specs.Echelon.{echelon, beside_identity, R, T, rank}
use Rattle.binar.specs.Space.{RowSpace, SameSpace, Independent, Dimension}
use Rattle.binar.proofs.row.Bits.{xor_mod, xor_shr, blank_zero}
use Rattle.binar.proofs.Lists.{All, all_map, all_zip, all_join, all_left, all_right}
use Rattle.binar.proofs.echelon.Span.{space_subspace, space_rows, same_space, same_flip, same_join, columns_lt}
use Rattle.binar.proofs.echelon.Reduced.{Reduced, echelonize_reduced, reduced_room, reduced_take, reduced_drop, reduced_columns}
use Rattle.binar.proofs.echelon.Unique.{reduced_independent}
use Rattle.binar.proofs.echelon.Transform.{echelonize_space, beside_columns, beside_units, whole, R-is, T-is}
use Rattle.binar.proofs.echelon.Dimension.{dimension_le}

-- the pivot rows of a reduced matrix span what all its rows span
pivot_rows_lem : {c lo : ℕ} {ps M : List ℕ} → Reduced c lo ps M → All (λ v. v < 2 ^ c) M → SameSpace (take (length ps) M) M
pivot_rows_lem {c} {ps} {M} r h =
    let B = take (length ps) M in
    let D = drop (length ps) M in
    let joined : B ++ D ≡ M = take-append-drop (length ps) M in
    let narrow = all_right (λ v. v < 2 ^ c) B D (rw joined h) in
    let zeros = all_zip (λ v b l. subst (RowSpace B) (sym (blank_zero c v l b)) (space_subspace B).origin) D (reduced_drop r) narrow in
    same_space (all_left (RowSpace M) B D (rw joined (space_rows M))) (rw joined at (all_join (RowSpace B) B D (space_rows B) zeros))

-- the subsets that show rows to be in a row space
subsets : (A vs : List ℕ) → All (RowSpace A) vs → List ℕ
subsets A [] h = []
subsets A (v ∷ vs) h = h.0.subset ∷ subsets A vs h.1

subsets_sum : (A vs : List ℕ) (h : All (RowSpace A) vs) → map (λ s. row_sum s A) (subsets A vs h) ≡ vs
unfolding subsets
subsets_sum A [] h = refl
subsets_sum A (v ∷ vs) h = ap₂ ◌∷◌ h.0.sums (subsets_sum A vs h.1)

module _ (c : ℕ) (A : List ℕ) where
  pub whole_reduced : Reduced c 0 (echelon c A).pivots (whole c A)
  unfolding echelon whole
  whole_reduced = echelonize_reduced c (beside_identity c 0 A)

  pub R-reduced : Reduced c 0 (echelon c A).pivots (R (echelon c A))
  R-reduced = rw (R-is c A) (reduced_columns whole_reduced)

  pub R-narrow : All (λ v. v < 2 ^ c) (R (echelon c A))
  R-narrow = rw (R-is c A) (columns_lt c (whole c A))

  pub R-space : SameSpace (columns c A) (R (echelon c A))
  unfolding columns whole
  R-space = rw (R-is c A, ← beside_columns c 0 A) (echelonize_space (λ v. v % 2 ^ c) (xor_mod c) c (beside_identity c 0 A))

  T-space : SameSpace (units 0 (length A)) (T (echelon c A))
  unfolding whole
  T-space = rw (T-is c A, ← beside_units c 0 A) (echelonize_space (λ v. v / 2 ^ c) (xor_shr c) c (beside_identity c 0 A))

  basis_size : length (take (rank (echelon c A)) (R (echelon c A))) ≡ rank (echelon c A)
  unfolding rank
  basis_size = length-take-le (length (echelon c A).pivots) (R (echelon c A)) (reduced_room R-reduced)

  pub basis_independent : Independent (take (rank (echelon c A)) (R (echelon c A)))
  unfolding rank
  basis_independent = reduced_independent (reduced_take R-reduced) (sym basis_size)

  pub rank_dimension : Dimension (columns c A) (rank (echelon c A))
  unfolding rank
  rank_dimension = record {
    basis = take (rank (echelon c A)) (R (echelon c A));
    spans = same_join (pivot_rows_lem R-reduced R-narrow) (same_flip R-space);
    independent = basis_independent;
    size = basis_size;
  }

  pub rank_unique : (d : ℕ) → Dimension (columns c A) d → d ≡ rank (echelon c A)
  rank_unique d h = omega (arith, dimension_le h rank_dimension, dimension_le rank_dimension h)

  units_in : All (RowSpace (T (echelon c A))) (units 0 (length A))
  units_in = all_map T-space.there (units 0 (length A)) (space_rows (units 0 (length A)))

  pub T-inverse : List ℕ
  T-inverse = subsets (T (echelon c A)) (units 0 (length A)) units_in

  pub T-inverts : map (λ s. row_sum s (T (echelon c A))) T-inverse ≡ units 0 (length A)
  unfolding T-inverse
  T-inverts = subsets_sum (T (echelon c A)) (units 0 (length A)) units_in
