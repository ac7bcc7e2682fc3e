-- The theorems of specs/Theorems.antt, put together from their parts; the last six are proved in Reading, Solving, Kernel and Found.
use mathlib.Core.List.{List}
use Prim.Native.Nat.{ℕ}
use Rattle.binar.specs.Echelon.{rank}
use Rattle.binar.specs.Theorems.{TransformLaw, ReducedLaw, SpaceLaw, UniqueLaw, SolveLaw}
use Rattle.binar.proofs.echelon.Span.{same_flip, same_join}
use Rattle.binar.proofs.matrix_form.Form.{to_form, from_form, form_narrow}
use Rattle.binar.proofs.echelon.Unique.{unique}
use Rattle.binar.proofs.echelon.Transform.{rows_count, T-square, T-product}
use Rattle.binar.proofs.echelon.Space.{R-reduced, R-narrow, R-space, T-inverse, T-inverts, basis_independent, rank_dimension, rank_unique}
use Rattle.binar.proofs.echelon.Solve.{solve_sound, solve_none, none_solves}
pub use Rattle.binar.proofs.matrix_form.Reading.{form_law, solution_law}
pub use Rattle.binar.proofs.matrix_form.Solving.{calls_law}
pub use Rattle.binar.proofs.echelon.Kernel.{kernel_rows_law, kernel_law}
pub use Rattle.binar.proofs.kernel.Found.{kernel_call_law}

pub transform_law : (c : ℕ) (A : List ℕ) → TransformLaw c A
transform_law c A = record { count = rows_count c A; square = T-square c A; product = T-product c A }

pub reduced_law : (c : ℕ) (A : List ℕ) → ReducedLaw c A
reduced_law c A = to_form (R-reduced c A) (R-narrow c A)

pub space_law : (c : ℕ) (A : List ℕ) → SpaceLaw c A
space_law c A = record {
  kept = R-space c A;
  inverse = T-inverse c A;
  inverts = T-inverts c A;
  independent = basis_independent c A;
  dimension = rank_dimension c A;
  no_other = rank_unique c A;
}

pub unique_law : (c : ℕ) → UniqueLaw c
unfolding rank
unique_law c = record {
  reduced = λ M N ps qs f g s. unique (from_form f) (from_form g) (form_narrow f) (form_narrow g) s;
  echelons = λ A B s. unique (R-reduced c A) (R-reduced c B) (R-narrow c A) (R-narrow c B) (same_join (same_flip (R-space c A)) (same_join s (R-space c B)));
}

pub solve_law : (c : ℕ) (A : List ℕ) (v : ℕ) → SolveLaw c A v
solve_law c A v = record { sound = solve_sound c A v; none_right = solve_none c A v; none_only = none_solves c A v }
