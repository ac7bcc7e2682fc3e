-- Each set of positions has exactly one number.
use mathlib.Core.Path.{◌≡◌, refl, sym, ap, ◌∙◌}
use Prim.Native.Nat.{ℕ, zero, suc, ◌+◌, ◌-◌, ◌*◌, ◌/◌, ◌%◌, ◌^◌, ◌≤◌, ◌<◌}
use native.Mathlib.Nat.{pow-suc}
use native.Mathlib.Decide.{dec_lt}
use native.Mathlib.Omega.{arith}
use lib.Arith.{bin_ind}
use lib.Count.{ones, ones_step, ones-le}
use lib.Pow.{pow_pos}
use Rattle.binar.proofs.row.Bits.{ones_zero}
use Rattle.pauli_theory.specs.Listing.{binomial, chosen_at, of_sizes_at, subset_at}
use Rattle.pauli_theory.specs.ListingTheorems.{NumbersLaw}
use Rattle.pauli_theory.proofs.ListingSubsets.{sizes, sizes_all, when_below, when_past}

-- ---- how many ones
pub ones_none : (n : ℕ) → ones n ≡ 0 → n ≡ 0
ones_none = bin_ind (λ (n : ℕ). ones n ≡ 0 → n ≡ 0) (λ h. refl) λ n ih h. let z : n / 2 ≡ 0 = ih (omega (arith, ones_step n)) in omega (arith, ones_step n)

ones_with : (s : ℕ) → ones (1 + 2 * s) ≡ suc (ones s)
ones_with s = let e : (1 + 2 * s) / 2 ≡ s = omega arith in omega (arith, ones_step (1 + 2 * s), ap ones e)

ones_without : (s : ℕ) → ones (2 * s) ≡ ones s
ones_without s = let e : 2 * s / 2 ≡ s = omega arith in omega (arith, ones_step (2 * s), ap ones e)

-- ---- of one size
module _ (n k i : ℕ) where
  pub at_with : i < binomial n k → chosen_at (suc n) (suc k) i ≡ 1 + 2 * chosen_at n k i
  unfolding chosen_at
  at_with = when_below i (binomial n k) (1 + 2 * chosen_at n k i) (2 * chosen_at n (suc k) (i - binomial n k))

  pub at_without : binomial n k ≤ i → chosen_at (suc n) (suc k) i ≡ 2 * chosen_at n (suc k) (i - binomial n k)
  unfolding chosen_at
  at_without = when_past i (binomial n k) (1 + 2 * chosen_at n k i) (2 * chosen_at n (suc k) (i - binomial n k))

chosen_at_lt : (n k i : ℕ) → chosen_at n k i < 2 ^ n
unfolding chosen_at
chosen_at_lt n zero i = pow_pos n
chosen_at_lt zero (suc k) i = omega arith
chosen_at_lt (suc n) (suc k) i = elim (dec_lt i (binomial n k)) [
  | yes y ↦ omega (arith, pow-suc 2 n, at_with n k i y, chosen_at_lt n k i)
  | no z ↦ omega (arith, pow-suc 2 n, at_without n k i (omega arith), chosen_at_lt n (suc k) (i - binomial n k))
]

chosen_at_size : (n k i : ℕ) → i < binomial n k → ones (chosen_at n k i) ≡ k
unfolding chosen_at binomial
chosen_at_size n zero i h = ones_zero
chosen_at_size zero (suc k) i h = absurd (omega arith)
chosen_at_size (suc n) (suc k) i h = elim (dec_lt i (binomial n k)) [
  | yes y ↦ ap ones (at_with n k i y) ∙ ones_with (chosen_at n k i) ∙ ap suc (chosen_at_size n k i y)
  | no z ↦ let j = i - binomial n k in ap ones (at_without n k i (omega arith)) ∙ ones_without (chosen_at n (suc k) j) ∙ chosen_at_size n (suc k) j (omega arith)
]

chosen_at_apart : (n k i j : ℕ) → i < binomial n k → j < binomial n k → chosen_at n k i ≡ chosen_at n k j → i ≡ j
unfolding binomial
chosen_at_apart n zero i j hi hj e = omega arith
chosen_at_apart zero (suc k) i j hi hj e = absurd (omega arith)
chosen_at_apart (suc n) (suc k) i j hi hj e =
    let b = binomial n k in
    elim (dec_lt i b) [
      | yes y ↦ elim (dec_lt j b) [
        | yes x ↦ chosen_at_apart n k i j y x (omega (arith, at_with n k i y, at_with n k j x))
        | no x ↦ absurd (omega (arith, at_with n k i y, at_without n k j (omega arith)))
      ]
      | no y ↦ elim (dec_lt j b) [
        | yes x ↦ absurd (omega (arith, at_without n k i (omega arith), at_with n k j x))
        | no x ↦ omega (arith, chosen_at_apart n (suc k) (i - b) (j - b) (omega arith) (omega arith) (omega (arith, at_without n k i (omega arith), at_without n k j (omega arith))))
      ]
    ]

chosen_at_reached : (n k s : ℕ) → s < 2 ^ n → ones s ≡ k → (i : ℕ) × (i < binomial n k) × (chosen_at n k i ≡ s)
unfolding chosen_at binomial
chosen_at_reached n zero s h e = (0, omega arith, sym (ones_none s e))
chosen_at_reached zero (suc k) s h e = let z : s ≡ 0 = omega arith in absurd (omega (arith, ap ones z, ones_zero))
chosen_at_reached (suc n) (suc k) s h e =
    let b = binomial n k in
    elim (dec_lt 0 (s % 2)) [
      | yes y ↦
          let f = chosen_at_reached n k (s / 2) (omega (arith, pow-suc 2 n)) (omega (arith, ones_step s)) in
          (f.0, omega (arith, f.1), at_with n k f.0 f.1 ∙ omega (arith, f.2))
      | no y ↦
          let f = chosen_at_reached n (suc k) (s / 2) (omega (arith, pow-suc 2 n)) (omega (arith, ones_step s)) in
          let back : b + f.0 - b ≡ f.0 = omega arith in
          (b + f.0, omega (arith, f.1), at_without n k (b + f.0) (omega arith) ∙ omega (arith, f.2, ap (chosen_at n (suc k)) back))
    ]

-- ---- of several sizes
module _ (f n k i : ℕ) where
  pub sizes_below : i < binomial n k → of_sizes_at (suc f) n k i ≡ chosen_at n k i
  unfolding of_sizes_at
  sizes_below = when_below i (binomial n k) (chosen_at n k i) (of_sizes_at f n (suc k) (i - binomial n k))

  pub sizes_past : binomial n k ≤ i → of_sizes_at (suc f) n k i ≡ of_sizes_at f n (suc k) (i - binomial n k)
  unfolding of_sizes_at
  sizes_past = when_past i (binomial n k) (chosen_at n k i) (of_sizes_at f n (suc k) (i - binomial n k))

pub of_sizes_at_lt : (f n k i : ℕ) → of_sizes_at f n k i < 2 ^ n
unfolding of_sizes_at
of_sizes_at_lt zero n k i = chosen_at_lt n k i
of_sizes_at_lt (suc f) n k i = elim (dec_lt i (binomial n k)) [
  | yes y ↦ rw (sizes_below f n k i y) (chosen_at_lt n k i)
  | no z ↦ rw (sizes_past f n k i (omega arith)) (of_sizes_at_lt f n (suc k) (i - binomial n k))
]

of_sizes_at_size : (f n k i : ℕ) → i < sizes f n k → k ≤ ones (of_sizes_at f n k i)
unfolding of_sizes_at sizes
of_sizes_at_size zero n k i h = omega (arith, chosen_at_size n k i h)
of_sizes_at_size (suc f) n k i h = elim (dec_lt i (binomial n k)) [
  | yes y ↦ omega (arith, ap ones (sizes_below f n k i y), chosen_at_size n k i y)
  | no z ↦ omega (arith, ap ones (sizes_past f n k i (omega arith)), of_sizes_at_size f n (suc k) (i - binomial n k) (omega arith))
]

of_sizes_at_apart : (f n k i j : ℕ) → i < sizes f n k → j < sizes f n k → of_sizes_at f n k i ≡ of_sizes_at f n k j → i ≡ j
unfolding of_sizes_at sizes
of_sizes_at_apart zero n k i j hi hj e = chosen_at_apart n k i j hi hj e
of_sizes_at_apart (suc f) n k i j hi hj e =
    let b = binomial n k in
    elim (dec_lt i b) [
      | yes y ↦ elim (dec_lt j b) [
        | yes x ↦ chosen_at_apart n k i j y x (sym (sizes_below f n k i y) ∙ e ∙ sizes_below f n k j x)
        | no x ↦ absurd (omega (arith, chosen_at_size n k i y, of_sizes_at_size f n (suc k) (j - b) (omega arith), ap ones (sym (sizes_below f n k i y) ∙ e ∙ sizes_past f n k j (omega arith))))
      ]
      | no y ↦ elim (dec_lt j b) [
        | yes x ↦ absurd (omega (arith, chosen_at_size n k j x, of_sizes_at_size f n (suc k) (i - b) (omega arith), ap ones (sym (sizes_past f n k i (omega arith)) ∙ e ∙ sizes_below f n k j x)))
        | no x ↦ omega (arith, of_sizes_at_apart f n (suc k) (i - b) (j - b) (omega arith) (omega arith) (sym (sizes_past f n k i (omega arith)) ∙ e ∙ sizes_past f n k j (omega arith)))
      ]
    ]

of_sizes_at_reached : (f n k s : ℕ) → s < 2 ^ n → k ≤ ones s → ones s ≤ k + f → (i : ℕ) × (i < sizes f n k) × (of_sizes_at f n k i ≡ s)
unfolding of_sizes_at sizes
of_sizes_at_reached zero n k s h l m = chosen_at_reached n k s h (omega arith)
of_sizes_at_reached (suc f) n k s h l m =
    let b = binomial n k in
    elim (dec_lt k (ones s)) [
      | yes y ↦
          let g = of_sizes_at_reached f n (suc k) s h (omega arith) (omega arith) in
          let back : b + g.0 - b ≡ g.0 = omega arith in
          (b + g.0, omega (arith, g.1), sizes_past f n k (b + g.0) (omega arith) ∙ ap (of_sizes_at f n (suc k)) back ∙ g.2)
      | no z ↦
          let g = chosen_at_reached n k s h (omega arith) in
          (g.0, omega (arith, g.1), sizes_below f n k g.0 g.1 ∙ g.2)
    ]

-- ---- all sizes
pub numbers_law : (n : ℕ) → NumbersLaw n
unfolding subset_at
numbers_law n = record {
  below = λ i h. of_sizes_at_lt n n 0 i;
  apart = λ i j hi hj. of_sizes_at_apart n n 0 i j (rw sizes_all hi) (rw sizes_all hj);
  reached = λ s h. let g = of_sizes_at_reached n n 0 s h (omega arith) (omega (arith, ones-le n s h)) in (g.0, rw sizes_all at g.1, g.2);
}
