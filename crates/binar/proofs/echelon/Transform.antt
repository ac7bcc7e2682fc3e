-- R and T, and what the identity beside A comes to: T·A = R, and the row spaces of A and of the identity are kept.
use mathlib.Core.Path.{◌≡◌, refl, sym, ap, ap₂, ◌∙◌}
use mathlib.Core.List.{List, [], ◌∷◌, map, map-map}
use Prim.Native.Nat.{ℕ, zero, suc, ◌+◌, ◌/◌, ◌%◌, ◌^◌, ◌<◌}
use native.Mathlib.Nat.{mod-lt, zero-add}
use native.Mathlib.Omega.{arith}
use lib.ListN.{length, get_or, length-map}
use lib.Pow.{pow_pos, pow-lt}
use Rattle.binar.specs.Row.{columns, row_sum, units}
use Rattle.binar.specs.Echelon.{echelonize, beside_identity, Row, echelon, R, T}
use Rattle.binar.specs.Space.{RowSpace, SameSpace}
use Rattle.binar.proofs.row.Bits.{xor_mod, xor_shr, beside_mod, beside_shr}
use Rattle.binar.proofs.Lists.{All, all_get_d, all_over, all_under, map_same, same_map}
use Rattle.binar.proofs.echelon.Span.{Additive, Subspace, below_subspace, equal_subspace, under_subspace, row_sum_xor, row_sum_head, row_sum_unit, space_subspace, space_rows, same_space}
use Rattle.binar.proofs.echelon.Kept.{echelonize_length, echelonize_in, echelonize_out}

-- the row space is kept, also of what an additive map makes of the rows
pub echelonize_space : (f : ℕ → ℕ) → Additive f → (cols : ℕ) (M : List ℕ) → SameSpace (map f M) (map f (echelonize cols M).rows)
echelonize_space f h cols M =
    let N = (echelonize cols M).rows in
    let there = echelonize_out (under_subspace f h (space_subspace (map f N))) cols M (all_under (RowSpace (map f N)) f N (space_rows (map f N))) in
    let back = echelonize_in (under_subspace f h (space_subspace (map f M))) cols M (all_under (RowSpace (map f M)) f M (space_rows (map f M))) in
    same_space (all_over (RowSpace (map f N)) f M there) (all_over (RowSpace (map f M)) f N back)

-- ---- the identity matrix
units_lt : (k n : ℕ) → All (λ s. s < 2 ^ (k + n)) (units k n)
unfolding units
units_lt k zero = tt
units_lt k (suc n) = (pow-lt (omega arith), rw e at (units_lt (suc k) n))
  where
    e : suc k + n ≡ k + suc n
    e = omega arith

units_later : (k n v : ℕ) (A : List ℕ) → map (λ s. row_sum s (v ∷ A)) (units (suc k) n) ≡ map (λ s. row_sum s A) (units k n)
unfolding units
units_later k zero v A = refl
units_later k (suc n) v A = ap₂ ◌∷◌ (row_sum_unit (suc k) (v ∷ A) ∙ sym (row_sum_unit k A)) (units_later (suc k) n v A)

-- it times A is A
units_rows : (A : List ℕ) → map (λ s. row_sum s A) (units 0 (length A)) ≡ A
unfolding units
units_rows [] = refl
units_rows (v ∷ A) = ap₂ ◌∷◌ (row_sum_head v A) (units_later 0 (length A) v A ∙ units_rows A)

-- ---- the identity beside A
module _ (c : ℕ) where
  pub beside_columns : (i : ℕ) (A : List ℕ) → columns c (beside_identity c i A) ≡ columns c A
  unfolding beside_identity columns
  beside_columns i [] = refl
  beside_columns i (v ∷ A) = ap₂ ◌∷◌ (beside_mod c (v % 2 ^ c) (2 ^ i) (mod-lt v (pow_pos c))) (beside_columns (suc i) A)

  pub beside_units : (i : ℕ) (A : List ℕ) → map (λ v. v / 2 ^ c) (beside_identity c i A) ≡ units i (length A)
  unfolding beside_identity units
  beside_units i [] = refl
  beside_units i (v ∷ A) = ap₂ ◌∷◌ (beside_shr c (v % 2 ^ c) (2 ^ i) (mod-lt v (pow_pos c))) (beside_units (suc i) A)

  pub beside_length : (i : ℕ) (A : List ℕ) → length (beside_identity c i A) ≡ length A
  unfolding beside_identity
  beside_length i [] = refl
  beside_length i (v ∷ A) = ap suc (beside_length (suc i) A)

-- the rows of the reduction, with R in the first c columns and T past them
unfoldable pub whole : ℕ → List ℕ → List ℕ
whole c A = (echelonize c (beside_identity c 0 A)).rows

abbrev pub parts : ℕ → ℕ → Row
parts c v = record { r = v % 2 ^ c; t = v / 2 ^ c }

module _ (c : ℕ) (A : List ℕ) where
  pub rows_are : (echelon c A).rows ≡ map (parts c) (whole c A)
  unfolding echelon whole
  rows_are = refl

  pub R-is : R (echelon c A) ≡ columns c (whole c A)
  unfolding R columns
  R-is = rw rows_are (map-map (λ q. q.r) (parts c) (whole c A))

  pub T-is : T (echelon c A) ≡ map (λ v. v / 2 ^ c) (whole c A)
  unfolding T
  T-is = rw rows_are (map-map (λ q. q.t) (parts c) (whole c A))

  beside_made : All (λ v. row_sum (v / 2 ^ c) (columns c A) ≡ v % 2 ^ c) (beside_identity c 0 A)
  unfolding columns
  beside_made =
      same_map (λ v. row_sum (v / 2 ^ c) (columns c A)) (λ v. v % 2 ^ c) (beside_identity c 0 A)
      (sym (map-map (λ s. row_sum s (columns c A)) (λ v. v / 2 ^ c) (beside_identity c 0 A))
      ∙ ap (map (λ s. row_sum s (columns c A))) (beside_units c 0 A ∙ ap (units 0) (sym (length-map A (λ v. v % 2 ^ c))))
      ∙ units_rows (columns c A)
      ∙ sym (beside_columns c 0 A))

  -- row v / 2^c of T, times A, is row v % 2^c of R
  pub made_subspace : Subspace (λ v. row_sum (v / 2 ^ c) (columns c A) ≡ v % 2 ^ c)
  made_subspace = equal_subspace (λ v. row_sum (v / 2 ^ c) (columns c A)) (λ v. v % 2 ^ c) sum (xor_mod c)
    where
      sum : Additive (λ v. row_sum (v / 2 ^ c) (columns c A))
      sum a b = ap (λ (s : ℕ). row_sum s (columns c A)) (xor_shr c a b) ∙ row_sum_xor (columns c A) (a / 2 ^ c) (b / 2 ^ c)

  pub whole_made : All (λ v. row_sum (v / 2 ^ c) (columns c A) ≡ v % 2 ^ c) (whole c A)
  unfolding whole
  whole_made = echelonize_in made_subspace c (beside_identity c 0 A) beside_made

  pub square_subspace : Subspace (λ v. v / 2 ^ c < 2 ^ length A)
  square_subspace = under_subspace (λ v. v / 2 ^ c) (xor_shr c) (below_subspace (length A))

  pub whole_square : All (λ v. v / 2 ^ c < 2 ^ length A) (whole c A)
  unfolding whole
  whole_square = echelonize_in square_subspace c (beside_identity c 0 A)
      (all_under (λ s. s < 2 ^ length A) (λ v. v / 2 ^ c) (beside_identity c 0 A) (rw (beside_units c 0 A) (rw zero-add at (units_lt 0 (length A)))))

  whole_length : length (whole c A) ≡ length A
  unfolding whole
  whole_length = echelonize_length c (beside_identity c 0 A) ∙ beside_length c 0 A

  pub rows_count : length (echelon c A).rows ≡ length A
  rows_count = rw rows_are (length-map (whole c A) (parts c) ∙ whole_length)

  pub T-square : (i : ℕ) → get_or (T (echelon c A)) i 0 < 2 ^ length A
  T-square =
      all_get_d (λ t. t < 2 ^ length A) (T (echelon c A)) 0 (pow_pos (length A))
      (rw T-is (all_over (λ t. t < 2 ^ length A) (λ v. v / 2 ^ c) (whole c A) whole_square))

  pub T-product : map (λ s. row_sum s (columns c A)) (T (echelon c A)) ≡ R (echelon c A)
  unfolding columns
  T-product =
      rw (T-is, R-is)
      (map-map (λ s. row_sum s (columns c A)) (λ v. v / 2 ^ c) (whole c A)
      ∙ map_same (λ v. row_sum (v / 2 ^ c) (columns c A)) (λ v. v % 2 ^ c) (whole c A) whole_made)
