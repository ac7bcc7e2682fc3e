-- Claims of other programs: document 02, L10.
use Rattle.std.specs.Prelude.{Bool, true, ◌&&◌, ◌==◌, List, [], ◌∷◌, ◌++◌, map, ℕ, suc, ◌%◌, length, nat_le, nat_lt}
use Rattle.binar.specs.Space.{RowSpace}
use Rattle.pauli.specs.Pauli.{Pauli, turned, anticommute, indexed_product}
use Rattle.pauli.specs.Sets.{set_of, members, row_of}
use Rattle.pauli_theory.specs.Group.{Promise}
use Rattle.pauli_theory.specs.Membership.{Factorization}
use Rattle.pauli_theory.specs.Standard.{support_of, anticommutes_with_some, phase_step}

-- "A claim of membership is a list of strictly rising 16-bit indexes, as numbers and not bytes, and an exponent 0 to 3"
pub record Claim : Type 0 where
  pub indexes : List ℕ
  pub exponent : ℕ

-- the indexes rise strictly, from `least` on, and are below n
unfoldable pub rises_below : ℕ → ℕ → List ℕ → Bool
rises_below least n [] = true
rises_below least n (i ∷ is) = nat_le least i && (nat_lt i n && rises_below (suc i) n is)

-- false at "indexes not rising or past the list, or an exponent above 3"
unfoldable pub well_formed : List Pauli → Claim → Bool
well_formed gs c = rises_below 0 (length gs) c.indexes && nat_lt c.exponent 4

-- "the indexed product times that power of i"
unfoldable pub claimed : List Pauli → Claim → Pauli
claimed gs c = turned c.exponent (indexed_product (set_of c.indexes) gs)

-- whether two Paulis are the same by value
unfoldable pub same_value : Pauli → Pauli → Bool
same_value p q = (p.e % 4 == q.e % 4) && ((p.x == q.x) && (p.z == q.z))

-- "accepted exactly when the indexed product times that power of i is the element and the power is among the group's phases": these are
-- the multiples, below 4, of their step
unfoldable pub member_accepted : Promise → List Pauli → Pauli → Claim → Bool
member_accepted promise gs p c = same_value (claimed gs c) p && (c.exponent % phase_step promise gs == 0)

-- "accepted exactly when that Pauli commutes with all generators and anticommutes with the element"
unfoldable pub absence_accepted : List Pauli → Pauli → Pauli → Bool
absence_accepted gs p w = (anticommutes_with_some w gs == 0) && (anticommute w p == 1)

-- what membership tells, as a claim
unfoldable pub claim_of : Factorization → Claim
claim_of f = record { indexes = members f.indexes; exponent = f.exponent }

-- the bits of p are in the list's span: its row, over the qubits of both, is a sum of the list's rows
abbrev pub InSpan : List Pauli → Pauli → Type 0
InSpan gs p = RowSpace (map (row_of (support_of (gs ++ (p ∷ [])))) gs) (row_of (support_of (gs ++ (p ∷ []))) p)
