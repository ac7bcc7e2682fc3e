-- The rows that two row spaces have in common: a row of both is a sum of A's rows and a sum of B's, so that the two sets together
-- sum to zero in A stacked on B, and come from the rows of T beside the zero rows.
use mathlib.Core.Path.{◌≡◌, refl, sym, ap, ap₂, ◌∙◌, subst}
use mathlib.Core.List.{List, ◌++◌, map}
use Prim.Native.Nat.{ℕ, ◌+◌, ◌*◌, ◌/◌, ◌%◌, ◌^◌, ◌<◌}
use native.Mathlib.Nat.{mod-lt}
use native.Mathlib.Omega.{arith}
use lib.Arith.{digits_lt}
use lib.ListN.{length, length-append}
use lib.Pow.{pow_pos, pow-add}
use Rattle.binar.specs.Row.{◌⊕◌, row_sum}
use Rattle.binar.specs.Echelon.{echelon}
use Rattle.binar.specs.Space.{RowSpace}
use Rattle.binar.proofs.row.Bits.{xor_self, xor_eq_zero, xor_mod, beside_mod, beside_shr}
use Rattle.binar.proofs.echelon.Dimension.{independent_le}
use Rattle.binar.proofs.Lists.{all_map, all_join, all_over, all_under}
use Rattle.binar.proofs.echelon.Span.{Additive, sum_in, below_subspace, under_subspace, row_sum_xor, row_sum_mod, space_subspace, space_rows, space_in}
use Rattle.pauli.specs.Support.{All}
use Rattle.pauli_theory.specs.Standard.{zero_rows}
use Rattle.pauli_theory.specs.Common.{dependencies, common_sums, common_rows}
use Rattle.pauli_theory.specs.Theorems.{CommonRowsLaw}
use Rattle.pauli_theory.proofs.Spaces.{row_sum_append}
use Rattle.pauli_theory.proofs.Form.{pivot_rows_free, pivot_rows_span, pivot_rows_in, zero_rows_sum, zero_sets}

module _ (c : ℕ) (A B : List ℕ) (narrow : All (λ v. v < 2 ^ c) A) (narrow' : All (λ v. v < 2 ^ c) B) where
  stacked_narrow : All (λ v. v < 2 ^ c) (A ++ B)
  stacked_narrow = all_join (λ v. v < 2 ^ c) A B narrow narrow'

  -- the rows of A in the set t, which names rows of A stacked on B
  part : ℕ → ℕ
  part t = row_sum (t % 2 ^ length A) A

  part_additive : Additive part
  unfolding part
  part_additive a b = ap (λ (t : ℕ). row_sum t A) (xor_mod (length A) a b) ∙ row_sum_xor A (a % 2 ^ length A) (b % 2 ^ length A)

  -- where the set sums to zero, they sum to what its rows of B do
  part_other : (t : ℕ) → row_sum t (A ++ B) ≡ 0 → row_sum (t / 2 ^ length A) B ≡ part t
  unfolding part
  part_other t e = sym (row_sum_mod t A ∙ xor_eq_zero (row_sum t A) (row_sum (t / 2 ^ length A) B) (sym (row_sum_append t A B) ∙ e))

  -- what holds of all such sums holds of the rows that are summed up
  sums_by : (P : ℕ → Type 0) → ((t : ℕ) → row_sum t (A ++ B) ≡ 0 → P (part t)) → All P (common_sums c A B)
  unfolding common_sums dependencies part
  sums_by P f =
      let Z = zero_rows (echelon c (A ++ B)).rows in
      all_over P (λ s. row_sum s A) (map (λ q. q.t % 2 ^ length A) Z)
      (all_over (λ s. P (row_sum s A)) (λ q. q.t % 2 ^ length A) Z (all_map (λ q. f q.t) Z (zero_rows_sum c (A ++ B) stacked_narrow)))

  sums_left : All (RowSpace A) (common_sums c A B)
  unfolding part
  sums_left = sums_by (RowSpace A) λ t e. record { subset = t % 2 ^ length A; sums = refl }

  sums_right : All (RowSpace B) (common_sums c A B)
  sums_right = sums_by (RowSpace B) λ t e. record { subset = t / 2 ^ length A; sums = part_other t e }

  sums_narrow : All (λ v. v < 2 ^ c) (common_sums c A B)
  unfolding part
  sums_narrow = sums_by (λ v. v < 2 ^ c) λ t e. sum_in (below_subspace c) A narrow (t % 2 ^ length A)

  common_there : (v : ℕ) → RowSpace (common_rows c A B) v → RowSpace A v × RowSpace B v
  unfolding common_rows
  common_there v s =
      let w = pivot_rows_in c (common_sums c A B) sums_narrow v s in
      (space_in (space_subspace A) sums_left v w, space_in (space_subspace B) sums_right v w)

  -- ---- and back
  -- the set of the rows a of A and b of B
  both : ℕ → ℕ → ℕ
  both a b = a % 2 ^ length A + 2 ^ length A * (b % 2 ^ length B)

  both_lt : (a b : ℕ) → both a b < 2 ^ length (A ++ B)
  unfolding both
  both_lt a b =
      rw (length-append A B, pow-add)
      (omega (arith, digits_lt (mod-lt b (pow_pos (length B))) (mod-lt a (pow_pos (length A)))))

  both_low : (a b : ℕ) → both a b % 2 ^ length A ≡ a % 2 ^ length A
  unfolding both
  both_low a b = beside_mod (length A) (a % 2 ^ length A) (b % 2 ^ length B) (mod-lt a (pow_pos (length A)))

  both_left : (a b : ℕ) → part (both a b) ≡ row_sum a A
  unfolding part
  both_left a b = ap (λ (t : ℕ). row_sum t A) (both_low a b) ∙ row_sum_mod a A

  both_right : (a b : ℕ) → row_sum (both a b / 2 ^ length A) B ≡ row_sum b B
  unfolding both
  both_right a b =
      ap (λ (t : ℕ). row_sum t B) (beside_shr (length A) (a % 2 ^ length A) (b % 2 ^ length B) (mod-lt a (pow_pos (length A)))) ∙ row_sum_mod b B

  both_sum : (a b : ℕ) → row_sum (both a b) (A ++ B) ≡ row_sum a A ⊕ row_sum b B
  unfolding part
  both_sum a b =
      row_sum_append (both a b) A B ∙ ap₂ ◌⊕◌ (sym (row_sum_mod (both a b) A) ∙ both_left a b) (both_right a b)

  sums_span : (v : ℕ) → RowSpace A v → RowSpace B v → RowSpace (common_sums c A B) v
  unfolding common_sums dependencies part
  sums_span v s s' =
      let S = common_sums c A B in
      let Z = zero_rows (echelon c (A ++ B)).rows in
      let ts = map (λ q. q.t % 2 ^ length A) Z in
      let a = s.subset in
      let b = s'.subset in
      let h = all_under (λ t. RowSpace S (row_sum t A)) (λ q. q.t % 2 ^ length A) Z (all_under (RowSpace S) (λ t. row_sum t A) ts (space_rows S)) in
      let z = both_sum a b ∙ ap₂ ◌⊕◌ s.sums s'.sums ∙ xor_self v in
      subst (RowSpace S) (both_left a b ∙ s.sums)
      (zero_sets c (A ++ B) stacked_narrow (under_subspace part part_additive (space_subspace S)) h (both a b) (both_lt a b) z)

  common_back : (v : ℕ) → RowSpace A v → RowSpace B v → RowSpace (common_rows c A B) v
  unfolding common_rows
  common_back v s s' = pivot_rows_span c (common_sums c A B) sums_narrow v (sums_span v s s')

  pub common_rows_law : CommonRowsLaw c A B
  unfolding common_rows
  common_rows_law =
      let R = common_rows c A B in
      let free = pivot_rows_free c (common_sums c A B) in
      let in_both = all_map common_there R (space_rows R) in
      record {
        there = common_there;
        back = common_back;
        independent = free;
        count =
            omega (arith, independent_le R A free (all_map (λ v w. w.0) R in_both), independent_le R B free (all_map (λ v w. w.1) R in_both));
      }
