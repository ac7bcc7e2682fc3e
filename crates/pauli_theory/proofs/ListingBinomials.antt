-- Binomials from their neighbours, by one product and one exact quotient.
use mathlib.Core.Path.{◌≡◌, refl, sym, ap}
use Prim.Native.Nat.{ℕ, zero, suc, ◌+◌, ◌-◌, ◌*◌, ◌^◌, ◌≤◌}
use native.Mathlib.Nat.{pow-suc, div-eq_of_eq-mul_right}
use native.Mathlib.Omega.{arith}
use lib.Pow.{pow_pos}
use Rattle.pauli_theory.specs.Listing.{binomial}
use Rattle.pauli_theory.specs.ListingTheorems.{BinomialLaw}
use Rattle.pauli_theory.proofs.ListingSubsets.{binomial_zero}

binomial_le : (n k : ℕ) → binomial n k ≤ 2 ^ n
unfolding binomial
binomial_le n zero = pow_pos n
binomial_le zero (suc k) = omega arith
binomial_le (suc n) (suc k) = omega (arith, pow-suc 2 n, binomial_le n k, binomial_le n (suc k))

absorbed : (n k : ℕ) → suc k * binomial (suc n) (suc k) ≡ suc n * binomial n k
unfolding binomial
absorbed zero zero = refl
absorbed zero (suc k) = omega arith
absorbed (suc n) zero = omega (arith, absorbed n zero, binomial_zero n)
absorbed (suc n) (suc k) = omega (arith, absorbed n k, absorbed n (suc k))

stepped : (n k : ℕ) → k ≤ n → (n - k) * binomial n k ≡ suc k * binomial n (suc k)
unfolding binomial
stepped n k h = back (n - k) (binomial n k) (binomial n (suc k)) (omega arith) (absorbed n k)
  where
    back : (d a b : ℕ) → d + k ≡ n → suc k * (a + b) ≡ suc n * a → d * a ≡ suc k * b
    back d a b e f = let g : suc n * a ≡ suc (d + k) * a = ap (λ (m : ℕ). suc m * a) (sym e) in omega arith

pub binomial_law : (n k : ℕ) → BinomialLaw n k
binomial_law n k = record {
  most = binomial_le n k;
  next = λ h. div-eq_of_eq-mul_right (omega arith) (stepped n k h);
  smaller = div-eq_of_eq-mul_right (omega arith) (absorbed n k);
}
