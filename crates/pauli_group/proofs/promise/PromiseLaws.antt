-- The promise of each number.
use mathlib.Core.Path.{◌≡◌, refl}
use Prim.Native.Nat.{ℕ, zero, suc}
use Rattle.pauli_theory.specs.Group.{none, abelian, not_abelian}
use Rattle.pauli_group.specs.Promises.{promise_numbered}

pub numbered_abelian : (n : ℕ) → n ≡ 1 → promise_numbered n ≡ abelian
unfolding promise_numbered
numbered_abelian n e = rw e

pub numbered_not_abelian : (n : ℕ) → n ≡ 2 → promise_numbered n ≡ not_abelian
unfolding promise_numbered
numbered_not_abelian n e = rw e

pub numbered_none : (n : ℕ) → (n ≡ 1 → ⊥) → (n ≡ 2 → ⊥) → promise_numbered n ≡ none
unfolding promise_numbered
numbered_none zero one two = refl
numbered_none (suc zero) one two = absurd (one refl)
numbered_none (suc (suc zero)) one two = absurd (two refl)
numbered_none (suc (suc (suc n))) one two = refl
