-- Sums of rows: subspaces, additive maps and row spaces.
use mathlib.Core.Path.{◌≡◌, refl, sym, ap, ap₂, ◌∙◌, subst}
use mathlib.Core.List.{List, [], ◌∷◌, map}
use Prim.Native.Nat.{ℕ, zero, suc, ◌+◌, ◌*◌, ◌/◌, ◌%◌, ◌^◌, ◌<◌}
use native.Mathlib.Nat.{pow-suc, mod-lt}
use native.Mathlib.Omega.{arith}
use lib.ListN.{length, get_or}
use lib.Pow.{pow_pos, field, mod-mod-pow}
use Rattle.binar.specs.Row.{◌⊕◌, if_bit, columns, row_sum}
use Rattle.binar.specs.Space.{RowSpace, SameSpace}
use Rattle.binar.proofs.row.Bits.{bit_of_zero, bit_xor, xor_self, xor_zero_l, xor_zero_r, xor_low, xor_half, xor_lt, xor_mod, xor_swap, Blank}
use Rattle.binar.proofs.Lists.{All, all_of, all_map, all_over}

pub if_bit_case {ℓ ℓ'} : {X : Type ℓ} (P : X → Type ℓ') (d : ℕ) {x y : X} → (d ≡ 0 → P y) → (0 < d → P x) → P (if_bit d x y)
unfolding if_bit
if_bit_case P zero f g = f refl
if_bit_case P (suc d) f g = g (omega arith)

pub if_bit_map {ℓ ℓ'} : {X : Type ℓ} {Y : Type ℓ'} (f : X → Y) (d : ℕ) (x y : X) → f (if_bit d x y) ≡ if_bit d (f x) (f y)
unfolding if_bit
if_bit_map f zero x y = refl
if_bit_map f (suc d) x y = refl

-- ---- subspaces of the rows
pub record Subspace (P : ℕ → Type 0) : Type 0 where
  pub origin : P 0
  pub sum : (a b : ℕ) → P a → P b → P (a ⊕ b)

-- a subspace has the sum of any of its rows
pub sum_in : {P : ℕ → Type 0} → Subspace P → (A : List ℕ) → All P A → (s : ℕ) → P (row_sum s A)
unfolding row_sum
sum_in S [] h s = S.origin
sum_in {P} S (v ∷ A) h s = S.sum _ _ (if_bit_case P (s % 2) (λ e. S.origin) (λ l. h.0)) (sum_in S A h.1 (s / 2))

pub below_subspace : (c : ℕ) → Subspace (λ v. v < 2 ^ c)
below_subspace c = record { origin = pow_pos c; sum = xor_lt c }

pub blank_subspace : (c d : ℕ) → Subspace (Blank c d)
blank_subspace c d = record { origin = λ k l u. bit_of_zero k; sum = λ a b f g k l u. omega (arith, bit_xor a b k, f k l u, g k l u) }

-- ---- additive maps
abbrev pub Additive : (ℕ → ℕ) → Type 0
Additive f = (a b : ℕ) → f (a ⊕ b) ≡ f a ⊕ f b

pub additive_zero : (f : ℕ → ℕ) → Additive f → f 0 ≡ 0
additive_zero f h = ap f (sym (xor_self 0)) ∙ h 0 0 ∙ xor_self (f 0)

pub row_sum_map : (f : ℕ → ℕ) → Additive f → (s : ℕ) (A : List ℕ) → row_sum s (map f A) ≡ f (row_sum s A)
unfolding row_sum
row_sum_map f h s [] = sym (additive_zero f h)
row_sum_map f h s (v ∷ A) = ap₂ ◌⊕◌ picked (row_sum_map f h (s / 2) A) ∙ sym (h (if_bit (s % 2) v 0) (row_sum (s / 2) A))
  where
    picked : if_bit (s % 2) (f v) 0 ≡ f (if_bit (s % 2) v 0)
    picked = ap (if_bit (s % 2) (f v)) (sym (additive_zero f h)) ∙ sym (if_bit_map f (s % 2) v 0)

-- rows on which two additive maps agree, and rows that an additive map brings into a subspace
pub equal_subspace : (f g : ℕ → ℕ) → Additive f → Additive g → Subspace (λ v. f v ≡ g v)
equal_subspace f g hf hg = record {
  origin = additive_zero f hf ∙ sym (additive_zero g hg);
  sum = λ a b u w. hf a b ∙ ap₂ ◌⊕◌ u w ∙ sym (hg a b);
}

pub under_subspace : {P : ℕ → Type 0} (f : ℕ → ℕ) → Additive f → Subspace P → Subspace (λ v. P (f v))
under_subspace {P} f h S = record {
  origin = subst P (sym (additive_zero f h)) S.origin;
  sum = λ a b u w. subst P (sym (h a b)) (S.sum (f a) (f b) u w);
}

-- ---- sums by the subset
if_bit_xor : (a b v : ℕ) → a < 2 → b < 2 → if_bit ((a + b) % 2) v 0 ≡ if_bit a v 0 ⊕ if_bit b v 0
unfolding if_bit
if_bit_xor zero zero v ha hb = sym (xor_self 0)
if_bit_xor zero (suc zero) v ha hb = sym (xor_zero_l v)
if_bit_xor zero (suc (suc b)) v ha hb = absurd (omega arith)
if_bit_xor (suc zero) zero v ha hb = sym (xor_zero_r v)
if_bit_xor (suc zero) (suc zero) v ha hb = sym (xor_self v)
if_bit_xor (suc zero) (suc (suc b)) v ha hb = absurd (omega arith)
if_bit_xor (suc (suc a)) b v ha hb = absurd (omega arith)

pub row_sum_xor : (A : List ℕ) → Additive (λ s. row_sum s A)
unfolding row_sum
row_sum_xor [] s t = sym (xor_self 0)
row_sum_xor (v ∷ A) s t = rw (xor_low s t, xor_half s t, row_sum_xor A (s / 2) (t / 2), here) (xor_swap _ _ _ _)
  where
    here : if_bit ((s + t) % 2) v 0 ≡ if_bit (s % 2) v 0 ⊕ if_bit (t % 2) v 0
    here = ap (λ (d : ℕ). if_bit d v 0) (omega arith) ∙ if_bit_xor (s % 2) (t % 2) v (omega arith) (omega arith)

pub row_sum_zero : (A : List ℕ) → row_sum 0 A ≡ 0
row_sum_zero A = additive_zero (λ s. row_sum s A) (row_sum_xor A)

-- (s T) A is s (T A)
pub row_sum_row_sum : (s : ℕ) (T A : List ℕ) → row_sum (row_sum s T) A ≡ row_sum s (map (λ t. row_sum t A) T)
row_sum_row_sum s T A = sym (row_sum_map (λ t. row_sum t A) (row_sum_xor A) s T)

pub row_sum_head : (v : ℕ) (A : List ℕ) → row_sum 1 (v ∷ A) ≡ v
unfolding row_sum if_bit
row_sum_head v A = rw (row_sum_zero A) (xor_zero_r v)

pub row_sum_tail : (s v : ℕ) (A : List ℕ) → row_sum (s * 2) (v ∷ A) ≡ row_sum s A
unfolding row_sum if_bit
row_sum_tail s v A = rw (low, high) (xor_zero_l (row_sum s A))
  where
    low : s * 2 % 2 ≡ 0
    low = omega arith

    high : s * 2 / 2 ≡ s
    high = omega arith

-- a single one names a single row
pub row_sum_unit : (i : ℕ) (A : List ℕ) → row_sum (2 ^ i) A ≡ get_or A i 0
unfolding row_sum if_bit
row_sum_unit i [] = refl
row_sum_unit zero (v ∷ A) = row_sum_head v A
row_sum_unit (suc i) (v ∷ A) = ap (λ (s : ℕ). row_sum s (v ∷ A)) (pow-suc 2 i) ∙ row_sum_tail (2 ^ i) v A ∙ row_sum_unit i A

-- ones past the number of rows name nothing
pub row_sum_mod : (s : ℕ) (A : List ℕ) → row_sum (s % 2 ^ length A) A ≡ row_sum s A
unfolding row_sum
row_sum_mod s [] = refl
row_sum_mod s (v ∷ A) =
    ap (λ (n : ℕ). row_sum (s % 2 ^ n) (v ∷ A)) one_more
    ∙ ap₂ (λ (d t : ℕ). if_bit d v 0 ⊕ row_sum t A) (mod-mod-pow s (length A) 1) (field s (length A) 1)
    ∙ ap (if_bit (s % 2) v 0 ⊕◌) (row_sum_mod (s / 2) A)
  where
    one_more : suc (length A) ≡ length A + 1
    one_more = omega arith

-- ---- row spaces
pub space_subspace : (A : List ℕ) → Subspace (RowSpace A)
space_subspace A = record {
  origin = record { subset = 0; sums = row_sum_zero A };
  sum = λ a b f g. record { subset = f.subset ⊕ g.subset; sums = row_sum_xor A f.subset g.subset ∙ ap₂ ◌⊕◌ f.sums g.sums };
}

pub space_head : (v : ℕ) (A : List ℕ) → RowSpace (v ∷ A) v
space_head v A = record { subset = 1; sums = row_sum_head v A }

pub space_tail : (w : ℕ) {A : List ℕ} {v : ℕ} → RowSpace A v → RowSpace (w ∷ A) v
space_tail w {A} h = record { subset = h.subset * 2; sums = row_sum_tail h.subset w A ∙ h.sums }

-- a row space has its rows
pub space_rows : (A : List ℕ) → All (RowSpace A) A
space_rows [] = tt
space_rows (v ∷ A) = (space_head v A, all_map (λ w h. space_tail v h) A (space_rows A))

-- a subspace with the rows of A has their row space
pub space_in : {P : ℕ → Type 0} → Subspace P → {A : List ℕ} → All P A → (v : ℕ) → RowSpace A v → P v
space_in {P} S {A} h v s = subst P s.sums (sum_in S A h s.subset)

pub same_space : {A B : List ℕ} → All (RowSpace B) A → All (RowSpace A) B → SameSpace A B
same_space {A} {B} f g = record { there = space_in (space_subspace B) f; back = space_in (space_subspace A) g }

pub same_flip : {A B : List ℕ} → SameSpace A B → SameSpace B A
same_flip h = record { there = h.back; back = h.there }

pub same_join : {A B C : List ℕ} → SameSpace A B → SameSpace B C → SameSpace A C
same_join f g = record { there = λ v h. g.there v (f.there v h); back = λ v h. f.back v (g.back v h) }

-- ---- the first c columns
pub columns_lt : (c : ℕ) (A : List ℕ) → All (λ v. v < 2 ^ c) (columns c A)
unfolding columns
columns_lt c A = all_over (λ v. v < 2 ^ c) (λ v. v % 2 ^ c) A (all_of (λ v. mod-lt v (pow_pos c)) A)

pub row_sum_columns : (c s : ℕ) (A : List ℕ) → row_sum s (columns c A) ≡ row_sum s A % 2 ^ c
unfolding columns
row_sum_columns c s A = row_sum_map (λ v. v % 2 ^ c) (xor_mod c) s A
