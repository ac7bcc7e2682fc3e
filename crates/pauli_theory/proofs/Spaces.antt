-- More laws of row spaces: subspaces by units, sums over two lists of rows, rows that fill a space, and equal spaces mapped and joined.
use mathlib.Core.Path.{◌≡◌, refl, sym, ap, ap₂, ◌∙◌, subst}
use mathlib.Core.List.{List, [], ◌∷◌, ◌++◌, map, map-id}
use mathlib.Core.Option.{Option, some, none}
use Prim.Native.Nat.{ℕ, zero, suc, ◌+◌, ◌*◌, ◌/◌, ◌%◌, ◌^◌, ◌≤◌, ◌<◌}
use native.Mathlib.Nat.{mod-lt, mod-eq_of_lt}
use native.Mathlib.Omega.{arith}
use lib.ListN.{length}
use lib.Pow.{pow_pos, shr-shr, shr_lt}
use Rattle.binar.specs.Row.{◌⊕◌, if_bit, columns, row_sum}
use Rattle.binar.specs.Echelon.{echelon}
use Rattle.binar.specs.Solve.{transpose_solve}
use Rattle.binar.specs.Space.{RowSpace, SameSpace, Independent}
use Rattle.binar.proofs.row.Bits.{xor_self, xor_zero_l, xor_zero_r, xor_assoc, xor_eq_zero, xor_lt, xor_beside, beside_parts}
use Rattle.binar.proofs.echelon.Dimension.{independent_le}
use Rattle.binar.proofs.Lists.{all_map, all_join, all_left, all_right, all_over, map_same}
use Rattle.binar.proofs.echelon.Span.{if_bit_case, Subspace, Additive, sum_in, row_sum_map, row_sum_xor, row_sum_mod, row_sum_zero, space_subspace, space_rows, space_in, same_space}
use Rattle.binar.proofs.matrix_form.Theorems.{solve_law}
use Rattle.pauli.specs.Support.{All}

pub columns_narrow : (c : ℕ) (A : List ℕ) → All (λ v. v < 2 ^ c) A → columns c A ≡ A
unfolding columns
columns_narrow c A h = map_same (λ v. v % 2 ^ c) (λ v. v) A (all_map (λ v l. mod-eq_of_lt l) A h) ∙ map-id A

-- a bit above a row of n columns
top_bit : (n r d : ℕ) → r < 2 ^ n → d < 2 → r ⊕ if_bit d (2 ^ n) 0 ≡ r + 2 ^ n * d
unfolding if_bit
top_bit n r zero h l = xor_zero_r r ∙ omega arith
top_bit n r (suc zero) h l =
    ap₂ ◌⊕◌ (plain r (2 ^ n)) (unit (2 ^ n)) ∙ xor_beside n r 0 0 1 h (pow_pos n) ∙ ap₂ (λ (a b : ℕ). a + 2 ^ n * b) (xor_zero_r r) (xor_zero_l 1)
  where
    plain : (a b : ℕ) → a ≡ a + b * 0
    plain a b = omega arith

    unit : (b : ℕ) → b ≡ 0 + b * 1
    unit b = omega arith
top_bit n r (suc (suc d)) h l = absurd (omega arith)

-- a subspace that has the rows with a single one, in the first n columns, has all rows of n columns
pub below_in : {P : ℕ → Type 0} → Subspace P → (n : ℕ) → ((i : ℕ) → i < n → P (2 ^ i)) → (s : ℕ) → s < 2 ^ n → P s
below_in {P} S zero h s l = subst P (omega arith) S.origin
below_in {P} S (suc n) h s l =
    let r = mod-lt s (pow_pos n) in
    let d : s / 2 ^ n < 2 = shr_lt 1 n (rw one_more at l) in
    subst P (top_bit n (s % 2 ^ n) (s / 2 ^ n) r d ∙ beside_parts n s)
    (S.sum _ _ (below_in S n (λ i k. h i (omega arith)) (s % 2 ^ n) r) (if_bit_case P (s / 2 ^ n) (λ z. S.origin) (λ g. h n (omega arith))))
  where
    one_more : suc n ≡ 1 + n
    one_more = omega arith

-- a subset of the rows of B and of those of C
pub row_sum_append : (s : ℕ) (B C : List ℕ) → row_sum s (B ++ C) ≡ row_sum s B ⊕ row_sum (s / 2 ^ length B) C
unfolding row_sum
row_sum_append s [] C = ap (λ (t : ℕ). row_sum t C) whole ∙ sym (xor_zero_l _)
  where
    whole : s ≡ s / 2 ^ 0
    whole = omega arith
row_sum_append s (v ∷ B) C =
    ap (if_bit (s % 2) v 0 ⊕◌) (row_sum_append (s / 2) B C ∙ ap (λ (t : ℕ). row_sum (s / 2) B ⊕ row_sum t C) (shr-shr s 1 (length B) ∙ ap (λ (n : ℕ). s / 2 ^ n) more))
    ∙ sym (xor_assoc _ _ _)
  where
    more : 1 + length B ≡ suc (length B)
    more = omega arith

pub row_sum_zeros : (B : List ℕ) → All (λ v. v ≡ 0) B → (s : ℕ) → row_sum s B ≡ 0
row_sum_zeros B = sum_in (record { origin = refl; sum = λ a b e f. ap₂ ◌⊕◌ e f ∙ xor_self 0 }) B

-- only the empty subset of independent rows sums to zero, so it names nothing in any list as long
pub free_zero : (B C : List ℕ) → length C ≡ length B → Independent B → (s : ℕ) → row_sum s B ≡ 0 → row_sum s C ≡ 0
unfolding Independent
free_zero B C e free s z =
    let d : s % 2 ^ length B ≡ 0 = free (s % 2 ^ length B) (mod-lt s (pow_pos (length B))) (row_sum_mod s B ∙ z) in
    sym (row_sum_mod s C) ∙ ap (λ (n : ℕ). row_sum (s % 2 ^ n) C) e ∙ ap (λ (t : ℕ). row_sum t C) d ∙ row_sum_zero C

-- different subsets of independent rows have different sums
pub free_injective : (B : List ℕ) → Independent B → (s t : ℕ) → s < 2 ^ length B → t < 2 ^ length B → row_sum s B ≡ row_sum t B → s ≡ t
unfolding Independent
free_injective B free s t ls lt e =
    xor_eq_zero s t (free (s ⊕ t) (xor_lt (length B) s t ls lt) (row_sum_xor B s t ∙ ap (◌⊕ row_sum t B) e ∙ xor_self (row_sum t B)))

-- ---- rows that fill a space
-- a row that independent rows do not span is independent of them
free_cons : (v : ℕ) (B : List ℕ) → Independent B → (RowSpace B v → ⊥) → Independent (v ∷ B)
unfolding Independent row_sum if_bit
free_cons v B free out s l e = go (s % 2) refl
  where
    half : s / 2 < 2 ^ length B
    half = let w : s < 2 ^ suc (length B) = l in omega arith

    go : (d : ℕ) → s % 2 ≡ d → s ≡ 0
    go zero h = omega (arith, free (s / 2) half (sym (xor_zero_l _) ∙ ap (λ (k : ℕ). if_bit k v 0 ⊕ row_sum (s / 2) B) (sym h) ∙ e))
    go (suc d) h =
        absurd (out (record { subset = s / 2; sums = sym (xor_eq_zero v (row_sum (s / 2) B) (ap (λ (k : ℕ). if_bit k v 0 ⊕ row_sum (s / 2) B) (sym h) ∙ e)) }))

module _ (c : ℕ) (B : List ℕ) (narrow : All (λ v. v < 2 ^ c) B) (v : ℕ) (l : v < 2 ^ c) where
  pub in_space : Dec (RowSpace B v)
  in_space = go (transpose_solve c (echelon c B) v) refl
    where
      go : (o : Option ℕ) → transpose_solve c (echelon c B) v ≡ o → Dec (RowSpace B v)
      go (some s) e = yes (record { subset = s; sums = ap (row_sum s) (sym (columns_narrow c B narrow)) ∙ ((solve_law c B v).sound s e).1 ∙ mod-eq_of_lt l })
      go none e = no λ h. (solve_law c B v).none_right e (rw (columns_narrow c B narrow, mod-eq_of_lt l) h)

  -- independent rows of a space, no fewer than rows that span it, span it too
  pub fills : Independent B → (C : List ℕ) → All (RowSpace C) B → length C ≤ length B → RowSpace C v → RowSpace B v
  fills free C h n s = go in_space
    where
      go : Dec (RowSpace B v) → RowSpace B v
      go (yes y) = y
      go (no x) = absurd (omega (arith, independent_le (v ∷ B) C (free_cons v B free x) (s, h)))

-- ---- equal row spaces, mapped and with further rows
pub same_mapped : (f : ℕ → ℕ) → Additive f → {A B : List ℕ} → SameSpace A B → SameSpace (map f A) (map f B)
same_mapped f h {A} {B} s = same_space (mapped A B s.there) (mapped B A s.back)
  where
    mapped : (C D : List ℕ) → ((v : ℕ) → RowSpace C v → RowSpace D v) → All (RowSpace (map f D)) (map f C)
    mapped C D g =
        all_over (RowSpace (map f D)) f C
        (all_map (λ v k. let w = g v k in record { subset = w.subset; sums = row_sum_map f h w.subset D ∙ ap f w.sums }) C (space_rows C))

pub same_appended : {A B : List ℕ} (C : List ℕ) → SameSpace A B → SameSpace (A ++ C) (B ++ C)
same_appended {A} {B} C s = same_space (with_rows A B s.there) (with_rows B A s.back)
  where
    with_rows : (D E : List ℕ) → ((v : ℕ) → RowSpace D v → RowSpace E v) → All (RowSpace (E ++ C)) (D ++ C)
    with_rows D E g =
        let P = RowSpace (E ++ C) in
        let rows = space_rows (E ++ C) in
        all_join P D C (all_map (λ v k. space_in (space_subspace (E ++ C)) (all_left P E C rows) v (g v k)) D (space_rows D)) (all_right P E C rows)
