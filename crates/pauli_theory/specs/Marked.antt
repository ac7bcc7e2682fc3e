-- Document 01, "Marked": the rows that these definitions touch, each an equation. Letters are on qubit 0, unless it is said.
use Rattle.std.specs.Prelude.{◌≡◌, List, [], ◌∷◌, ℕ}
use Rattle.std.proofs.Math.Option.{Option, some}
use Rattle.pauli.specs.Pauli.{Pauli, I, phase}
use Rattle.pauli.specs.Sets.{members}
use Rattle.pauli_theory.specs.Group.{Promise, none}
use Rattle.pauli_theory.specs.Standard.{standard, phases_of, log2_size}
use Rattle.pauli_theory.specs.Membership.{Factorization, factorization_of}
use Rattle.pauli_theory.specs.Order.{no_order, partial_cmp}
use Rattle.pauli_theory.specs.Modulo.{modulo}
use Rattle.pauli_theory.specs.Symplectic.{symplectic_form}
use Rattle.pauli_theory.specs.Common.{common_basis, common_phase}

-- (e,{0},{}), (e,{},{0}) and (e,{0},{0})
abbrev pub on_x : ℕ → Pauli
on_x e = record { e = e; x = 1; z = 0 }

abbrev pub on_z : ℕ → Pauli
on_z e = record { e = e; x = 0; z = 1 }

abbrev pub on_xz : ℕ → Pauli
on_xz e = record { e = e; x = 1; z = 1 }

-- XX and ZZ on qubits 0 and 1, and X and -X on qubit 1
abbrev pub both_x : Pauli
both_x = record { e = 0; x = 3; z = 0 }

abbrev pub both_z : Pauli
both_z = record { e = 0; x = 0; z = 3 }

abbrev pub next_x : Pauli
next_x = record { e = 0; x = 2; z = 0 }

abbrev pub minus_next_x : Pauli
minus_next_x = record { e = 2; x = 2; z = 0 }

-- what membership gives: the indexes, rising, and the exponent
pub record Given : Type 0 where
  pub indexes : List ℕ
  pub exponent : ℕ

abbrev pub given : Option Factorization → Option Given
given Option.none = Option.none
given (some f) = some (record { indexes = members f.indexes; exponent = f.exponent })

abbrev pub membership_of : Promise → List Pauli → Pauli → Option Given
membership_of promise gs p = given (factorization_of promise gs p)

pub record Marked : Type 0 where
  -- "The empty list: standard I, phases 0"
  pub empty_standard : standard [] ≡ I ∷ []
  pub empty_phases : phases_of none [] ≡ 0 ∷ []
  -- "[-I]: standard -I, phases 0,2"
  pub minus_standard : standard (phase 2 ∷ []) ≡ phase 2 ∷ []
  pub minus_phases : phases_of none (phase 2 ∷ []) ≡ 0 ∷ 2 ∷ []
  -- "[iI]: standard iI, phases 0,1,2,3"
  pub i_standard : standard (phase 1 ∷ []) ≡ phase 1 ∷ []
  pub i_phases : phases_of none (phase 1 ∷ []) ≡ 0 ∷ 1 ∷ 2 ∷ 3 ∷ []
  -- "[Y]: phases 0"
  pub y_phases : phases_of none (on_xz 1 ∷ []) ≡ 0 ∷ []
  -- "[(0,{0},{0})]: phases 0,2"
  pub xz_phases : phases_of none (on_xz 0 ∷ []) ≡ 0 ∷ 2 ∷ []
  -- "[X,Z]: log2 size 3"
  pub size : log2_size none (on_x 0 ∷ on_z 0 ∷ []) ≡ 3
  -- "[X,-X]: standard X, -I"
  pub signs_standard : standard (on_x 0 ∷ on_x 2 ∷ []) ≡ on_x 0 ∷ phase 2 ∷ []
  -- "[Z,X] on (0,{0},{0}): indexes 0 1, exponent 2"
  pub membership : membership_of none (on_z 0 ∷ on_x 0 ∷ []) (on_xz 0) ≡ some (record { indexes = 0 ∷ 1 ∷ []; exponent = 2 })
  -- "[X] and [-X]: no order"
  pub no_order : partial_cmp none none (on_x 0 ∷ []) (on_x 2 ∷ []) ≡ no_order
  -- "<XX,ZZ> modulo <XX>: I, ZZ"
  pub remainder : modulo none (both_x ∷ both_z ∷ []) (both_x ∷ []) ≡ I ∷ both_z ∷ []
  -- "symplectic [X0,Z0,X1]: Z0, X0, X1"
  pub symplectic : symplectic_form (on_x 0 ∷ on_z 0 ∷ next_x ∷ []) ≡ on_z 0 ∷ on_x 0 ∷ next_x ∷ []
  -- Document 01 marks no row of the common part; these show what the rows of WholeMarked come of.
  -- <X> and <-X>: the common basis is X, which has no shared phase
  pub dropped_basis : common_basis (on_x 0 ∷ []) (on_x 2 ∷ []) ≡ on_x 0 ∷ []
  pub dropped_phase : common_phase none none (on_x 0 ∷ []) (on_x 2 ∷ []) (on_x 0) ≡ Option.none
  -- XZ is in <X,Z> and in <iX,iZ>, X0X1 in <X0,X1> and in <-X0,-X1>
  pub first_has : membership_of none (on_x 0 ∷ on_z 0 ∷ []) (on_xz 0) ≡ some (record { indexes = 0 ∷ 1 ∷ []; exponent = 0 })
  pub second_has : membership_of none (on_x 1 ∷ on_z 1 ∷ []) (on_xz 0) ≡ some (record { indexes = 0 ∷ 1 ∷ []; exponent = 2 })
  pub first_has_both : membership_of none (on_x 0 ∷ next_x ∷ []) both_x ≡ some (record { indexes = 0 ∷ 1 ∷ []; exponent = 0 })
  pub second_has_both : membership_of none (on_x 2 ∷ minus_next_x ∷ []) both_x ≡ some (record { indexes = 0 ∷ 1 ∷ []; exponent = 0 })
