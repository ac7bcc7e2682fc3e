-- Laws of the pivot search by row and column: the next cell, and the end of a column and of the matrix.
use Rattle.std.proofs.Common.{Option, Some, None}
use mathlib.Core.Path.{◌≡◌, refl, ◌∙◌}
use mathlib.Core.List.{List}
use Prim.Native.Nat.{ℕ, zero, suc, ◌+◌, ◌-◌, ◌≤◌, ◌<◌}
use native.Mathlib.Numerals.{add-one}
use native.Mathlib.Omega.{arith}
use lib.ListN.{length, get_or, drop, drop_of_length-le}
use lib.Seq.{drop-cons}
use Rattle.binar.specs.declared.echelon.Cell.{Cell}
use Rattle.binar.specs.Row.{bit, if_bit}
use Rattle.binar.specs.Echelon.{in_column, by_columns}
use Rattle.binar.proofs.row.Bits.{bit_lt}

pub if_one {ℓ} : {X : Type ℓ} (b : ℕ) (x y : X) → b ≡ 1 → if_bit b x y ≡ x
unfolding if_bit
if_one zero x y h = absurd (omega arith)
if_one (suc b) x y h = refl

pub if_zero_lem {ℓ} : {X : Type ℓ} (b : ℕ) (x y : X) → b < 2 → (b ≡ 1 → ⊥) → if_bit b x y ≡ y
unfolding if_bit
if_zero_lem zero x y l h = refl
if_zero_lem (suc b) x y l h = absurd (h (omega arith))

module _ (M : List ℕ) (c i : ℕ) (later : Option Cell) where
  next : i < length M → in_column c i (drop i M) later ≡ if_bit (bit (get_or M i 0) c) (Some (record { row = i; col = c })) (in_column c (suc i) (drop (suc i) M) later)
  unfolding in_column
  next h = rw (drop-cons M i 0 h)

  pub row_hit : i < length M → bit (get_or M i 0) c ≡ 1 → in_column c i (drop i M) later ≡ Some (record { row = i; col = c })
  row_hit h e = next h ∙ if_one _ _ _ e

  pub row_miss : i < length M → (bit (get_or M i 0) c ≡ 1 → ⊥) → in_column c i (drop i M) later ≡ in_column c (i + 1) (drop (i + 1) M) later
  row_miss h n = rw (add-one i) (next h ∙ if_zero_lem _ _ _ (bit_lt (get_or M i 0) c) n)

  pub row_end : length M ≤ i → in_column c i (drop i M) later ≡ later
  unfolding in_column
  row_end h = rw (drop_of_length-le M h)

module _ (vs : List ℕ) (cols r c : ℕ) where
  pub col_next : c < cols → by_columns (cols - c) c r vs ≡ in_column c r vs (by_columns (cols - (c + 1)) (c + 1) r vs)
  unfolding by_columns
  col_next h = let e : cols - c ≡ suc (cols - (c + 1)) = omega arith in rw (e, add-one c)

  pub col_end : cols ≤ c → by_columns (cols - c) c r vs ≡ None
  unfolding by_columns
  col_end h = let e : cols - c ≡ 0 = omega arith in rw e
