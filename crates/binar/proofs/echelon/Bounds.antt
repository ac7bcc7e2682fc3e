-- Where the search finds a cell, how many pivots there are, and how long the rows become.
use mathlib.Core.Path.{subst}
use mathlib.Core.List.{List}
use Prim.Native.Nat.{ℕ, ◌^◌, ◌≤◌, ◌<◌}
use native.Mathlib.Omega.{arith}
use lib.ListN.{length}
use Rattle.binar.specs.Echelon.{echelonize, echelon, rank, beside_identity}
use Rattle.binar.specs.Row.{◌⊕◌}
use Rattle.binar.specs.Solve.{sweep}
use Rattle.binar.proofs.row.Bits.{xor_lt, xors}
use Rattle.binar.proofs.Lists.{All}
use Rattle.binar.proofs.echelon.Span.{below_subspace}
use Rattle.binar.proofs.echelon.Kept.{echelonize_length, echelonize_in}
use Rattle.binar.proofs.echelon.Transform.{beside_length}
use Rattle.binar.proofs.echelon.Solve.{sweep_change}
use Rattle.binar.proofs.echelon.Reduced.{pivots_in, reduced_room, reduced_width, echelonize_reduced}

module _ (cols : ℕ) (M : List ℕ) where
  pub pivots_lt : All (λ p. p < cols) (echelonize cols M).pivots
  pivots_lt = pivots_in (echelonize_reduced cols M)

  pub pivots_rows : length (echelonize cols M).pivots ≤ length M
  pivots_rows = omega (arith, reduced_room (echelonize_reduced cols M), echelonize_length cols M)

  pub pivots_cols : length (echelonize cols M).pivots ≤ cols
  pivots_cols = omega (arith, reduced_width (echelonize_reduced cols M) (omega arith))

-- the same of the echelon form
module _ (c : ℕ) (A : List ℕ) where
  pub rank_rows : rank (echelon c A) ≤ length A
  unfolding echelon rank
  rank_rows = omega (arith, pivots_rows c (beside_identity c 0 A), beside_length c 0 A)

  pub rank_cols : rank (echelon c A) ≤ c
  unfolding echelon rank
  rank_cols = pivots_cols c (beside_identity c 0 A)

-- ---- the length of the rows
pub echelonize_lt : (cols k : ℕ) (M : List ℕ) → All (λ v. v < 2 ^ k) M → All (λ v. v < 2 ^ k) (echelonize cols M).rows
echelonize_lt cols k = echelonize_in (below_subspace k) cols

pub sweep_lt : (k : ℕ) (ps M : List ℕ) (v : ℕ) → All (λ w. w < 2 ^ k) M → v < 2 ^ k → sweep ps M v < 2 ^ k
sweep_lt k ps M v h l = subst (λ (w : ℕ). w < 2 ^ k) (simp xors) (xor_lt k (sweep ps M v ⊕ v) v (sweep_change (below_subspace k) ps M v h) l)
