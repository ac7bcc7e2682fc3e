-- The results of a whole roll of elements, as bytes.
use Rattle.std.specs.Prelude.{List, [], ◌∷◌, ◌++◌, ℕ}
use Rattle.std.proofs.Math.Option.{Option, some, none}
use Rattle.pauli.specs.Bytes.{le16}
use Rattle.pauli_theory.specs.Membership.{Factorization}
use Rattle.pauli_group.specs.Calls.{index_bytes, factored}

-- "A result is written as byte 0 for a non-member, else byte 1, exponent (1 byte), index count (2) and the indexes (2 each), little-endian"
unfoldable pub result_bytes : Option Factorization → List ℕ
result_bytes none = 0 ∷ []
result_bytes (some f) = 1 ∷ (factored f).exponent ∷ le16 (factored f).count ++ index_bytes f

-- "one result per element out, in order"
unfoldable pub results_bytes : List (Option Factorization) → List ℕ
results_bytes [] = []
results_bytes (o ∷ os) = result_bytes o ++ results_bytes os
