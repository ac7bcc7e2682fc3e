-- No two generators anticommute exactly when no two standard generators do; and a true promise says the same.
use mathlib.Core.Path.{◌≡◌, refl, sym}
use mathlib.Core.List.{List}
use Prim.Native.Nat.{ℕ, zero, suc}
use native.Mathlib.Omega.{arith}
use lib.ListN.{get_or}
use Rattle.binar.proofs.Lists.{all_map, all_get, all_by}
use Rattle.pauli.specs.Support.{All}
use Rattle.pauli.specs.Pauli.{Pauli, I, anticommute}
use Rattle.pauli_theory.specs.Group.{Generated, Abelian, NotAbelian, Promise, none, abelian, not_abelian, Honest}
use Rattle.pauli_theory.specs.Standard.{standard, some_anticommute, nonabelian}
use Rattle.pauli_theory.proofs.Group.{all_inside}
use Rattle.pauli_theory.proofs.Tests.{Commuting, anticommute_none, none_anticommute, some_anticommute_lt}
use Rattle.pauli_theory.proofs.Pivots.{generated_commute}
use Rattle.pauli_theory.proofs.Standard.{standard_in, inside_standard}

-- ---- by index
commuting_abelian : (gs : List Pauli) → Commuting gs → Abelian gs
unfolding Abelian
commuting_abelian gs c i j l k = all_get (λ h. anticommute (get_or gs i I) h ≡ 0) gs I (all_get (λ g. All (λ h. anticommute g h ≡ 0) gs) gs I c i l) j k

abelian_commuting : (gs : List Pauli) → Abelian gs → Commuting gs
unfolding Abelian
abelian_commuting gs a = all_by _ gs I λ i l. all_by _ gs I λ j k. a i j l k

-- Paulis of a group whose generators commute
commuting_in : (gs ps : List Pauli) → Commuting gs → All (Generated gs) ps → Commuting ps
commuting_in gs ps c h = all_map (λ p a. all_map (λ q b. generated_commute gs c p q a b) ps h) ps h

module _ (gs : List Pauli) where
  pub abelian_right : nonabelian none gs ≡ 0 → Abelian gs
  unfolding nonabelian
  abelian_right e = commuting_abelian gs (commuting_in (standard gs) gs (anticommute_none (standard gs) e) (all_inside gs (standard gs) (inside_standard gs)))

  pub abelian_only : Abelian gs → nonabelian none gs ≡ 0
  unfolding nonabelian
  abelian_only a = none_anticommute (standard gs) (commuting_in gs (standard gs) (abelian_commuting gs a) (standard_in gs))

  not_abelian_one : NotAbelian gs → nonabelian none gs ≡ 1
  unfolding nonabelian Abelian
  not_abelian_one w = go (some_anticommute (standard gs)) refl
    where
      go : (n : ℕ) → some_anticommute (standard gs) ≡ n → some_anticommute (standard gs) ≡ 1
      go zero e = absurd (omega (arith, w.clash, abelian_right e w.i w.j w.i_within w.j_within))
      go (suc n) e = omega (arith, some_anticommute_lt (standard gs))

pub promise_nonabelian : (promise : Promise) (gs : List Pauli) → Honest promise gs → nonabelian promise gs ≡ nonabelian none gs
unfolding Honest nonabelian
promise_nonabelian none gs h = refl
promise_nonabelian abelian gs h = sym (abelian_only gs h)
promise_nonabelian not_abelian gs h = sym (not_abelian_one gs h)
