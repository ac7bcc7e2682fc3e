-- The two cases of `if_zero`.
use mathlib.Core.Path.{◌≡◌, refl}
use mathlib.Core.Option.{Option, some, none}
use Prim.Native.Nat.{ℕ, zero, suc, ◌<◌}
use native.Mathlib.Omega.{arith}
use Rattle.pauli_theory.specs.Standard.{if_zero}

pub if_zero_zero {ℓ} : {X : Type ℓ} {n : ℕ} (x y : X) → n ≡ 0 → if_zero n x y ≡ x
unfolding if_zero
if_zero_zero x y e = rw e

pub if_zero_more {ℓ} : {X : Type ℓ} (n : ℕ) (x y : X) → 0 < n → if_zero n x y ≡ y
unfolding if_zero
if_zero_more zero x y l = absurd (omega arith)
if_zero_more (suc n) x y l = refl

-- what an answer says
pub if_zero_some {ℓ} : {X : Type ℓ} (n : ℕ) (o : Option X) (f : X) → if_zero n o none ≡ some f → (n ≡ 0) × (o ≡ some f)
unfolding if_zero
if_zero_some zero o f e = (refl, e)
if_zero_some (suc n) o f e = let z : ◌≡◌ {A = ℕ} 0 1 = cc in absurd (omega arith)

pub if_zero_one : (n : ℕ) → ◌≡◌ {A = ℕ} (if_zero n 1 0) 1 → n ≡ 0
unfolding if_zero
if_zero_one zero e = refl
if_zero_one (suc n) e = absurd (omega arith)

pub if_zero_map {ℓ ℓ'} : {X : Type ℓ} {Y : Type ℓ'} (f : X → Y) (n : ℕ) (x y : X) → f (if_zero n x y) ≡ if_zero n (f x) (f y)
unfolding if_zero
if_zero_map f zero x y = refl
if_zero_map f (suc n) x y = refl
