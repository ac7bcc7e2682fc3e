-- The dimension of a row space is one number: independent rows are no more than any rows that span them.
use mathlib.Core.Path.{◌≡◌, sym, ap, ap₂, ◌∙◌}
use mathlib.Core.List.{List}
use Prim.Native.Nat.{ℕ, zero, suc, ◌-◌, ◌%◌, ◌^◌, ◌≤◌, ◌<◌}
use native.Mathlib.Nat.{mod-lt}
use native.Mathlib.Decide.{dec_lt}
use native.Mathlib.Omega.{arith}
use lib.ListN.{length}
use lib.Pow.{pow_pos, pow-lt}
use Rattle.binar.specs.Row.{◌⊕◌, row_sum}
use Rattle.binar.specs.Space.{RowSpace, Independent, Dimension}
use Rattle.binar.proofs.row.Bits.{xor_self, xor_eq_zero, xor_lt}
use Rattle.binar.proofs.Lists.{All, all_map}
use Rattle.binar.proofs.echelon.Span.{sum_in, row_sum_xor, row_sum_mod, space_subspace, space_rows}

-- ---- numbers below m, told apart by a map to the numbers below n, are no more than n
-- b, or the number before it if b is past a: the numbers other than a, without a gap
skip : (a b : ℕ) → Dec (b < a) → ℕ
skip a b (yes y) = b
skip a b (no x) = b - 1

skip_lt : (a b n : ℕ) (d : Dec (b < a)) → (b ≡ a → ⊥) → a < suc n → b < suc n → skip a b d < n
unfolding skip
skip_lt a b n (yes y) e ha hb = omega arith
skip_lt a b n (no x) e ha hb = omega arith

skip_same : (a b b' : ℕ) (d : Dec (b < a)) (d' : Dec (b' < a)) → (b ≡ a → ⊥) → (b' ≡ a → ⊥) → skip a b d ≡ skip a b' d' → b ≡ b'
unfolding skip
skip_same a b b' (yes y) (yes y') e e' h = h
skip_same a b b' (yes y) (no x') e e' h = omega arith
skip_same a b b' (no x) (yes y') e e' h = omega arith
skip_same a b b' (no x) (no x') e e' h = omega arith

injective_le : (m n : ℕ) (f : ℕ → ℕ) → ((i : ℕ) → i < m → f i < n) → ((i j : ℕ) → i < m → j < m → f i ≡ f j → i ≡ j) → m ≤ n
injective_le zero n f h inj = omega arith
injective_le (suc m) zero f h inj = absurd (omega (arith, h m (omega arith)))
injective_le (suc m) (suc n) f h inj = omega (arith, injective_le m n g below injective)
  where
    other : (i : ℕ) → i < m → f i ≡ f m → ⊥
    other i l e = omega (arith, inj i m (omega arith) (omega arith) e)

    g : ℕ → ℕ
    g i = skip (f m) (f i) (dec_lt (f i) (f m))

    below : (i : ℕ) → i < m → g i < n
    below i l = skip_lt (f m) (f i) n (dec_lt (f i) (f m)) (other i l) (h m (omega arith)) (h i (omega arith))

    injective : (i j : ℕ) → i < m → j < m → g i ≡ g j → i ≡ j
    injective i j l k e =
        inj i j (omega arith) (omega arith) (skip_same (f m) (f i) (f j) (dec_lt (f i) (f m)) (dec_lt (f j) (f m)) (other i l) (other j k) e)

-- ---- independent rows
module _ (B C : List ℕ) (free : Independent B) (spanned : All (RowSpace C) B) where
  -- the subset of C's rows with the same sum as the subset s of B's rows
  image : ℕ → ℕ
  image s = (sum_in (space_subspace C) B spanned s).subset % 2 ^ length C

  image_sum : (s : ℕ) → row_sum (image s) C ≡ row_sum s B
  unfolding image
  image_sum s = row_sum_mod (sum_in (space_subspace C) B spanned s).subset C ∙ (sum_in (space_subspace C) B spanned s).sums

  image_injective : (s t : ℕ) → s < 2 ^ length B → t < 2 ^ length B → image s ≡ image t → s ≡ t
  unfolding Independent
  image_injective s t hs ht e = xor_eq_zero s t (free (s ⊕ t) (xor_lt (length B) s t hs ht) zero_sum)
    where
      zero_sum : row_sum (s ⊕ t) B ≡ 0
      zero_sum =
          row_sum_xor B s t ∙ ap₂ ◌⊕◌ (sym (image_sum s) ∙ ap (λ (x : ℕ). row_sum x C) e) (sym (image_sum t)) ∙ xor_self (row_sum (image t) C)

  pub independent_le : length B ≤ length C
  unfolding image
  independent_le = go (dec_lt (length C) (length B))
    where
      subsets : 2 ^ length B ≤ 2 ^ length C
      subsets = injective_le (2 ^ length B) (2 ^ length C) image (λ s l. mod-lt _ (pow_pos (length C))) image_injective

      go : Dec (length C < length B) → length B ≤ length C
      go (yes y) = absurd (omega (arith, subsets, pow-lt y))
      go (no n) = omega arith

pub dimension_le : {A : List ℕ} {d e : ℕ} → Dimension A d → Dimension A e → d ≤ e
dimension_le f g =
    omega (
      arith,
      f.size,
      g.size,
      independent_le f.basis g.basis f.independent
          (all_map (λ v h. g.spans.back v (f.spans.there v h)) f.basis (space_rows f.basis)),
    )
