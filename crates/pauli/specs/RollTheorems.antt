-- What is proved of rolls.
use Rattle.std.specs.Prelude.{◌≡◌, ℕ, ◌<◌, ◌≤◌, List, map, length}
use Rattle.pauli.specs.Told.{answer}
use Rattle.pauli.specs.Roll.{most_paulis, highest_qubit, Sparse, support, read, encode, write, by_value}
use Rattle.pauli.specs.Support.{most_qubits, All, Rising}

-- a set that a roll can hold, rising from `least` on
pub record AllowedSet (least : ℕ) (qs : List ℕ) : Type 0 where
  pub rise : Rising least qs
  pub low : All (λ q. q ≤ highest_qubit) qs

-- a Pauli that a roll can hold: an exponent of eight bits, and two such sets
pub record Allowed (p : Sparse) : Type 0 where
  pub byte : p.e < 256
  pub x : AllowedSet 0 p.xs
  pub z : AllowedSet 0 p.zs

-- a list within the limits
pub record Within (ps : List Sparse) : Type 0 where
  pub count : length ps ≤ most_paulis
  pub allowed : All Allowed ps
  pub qubits : length (support ps) ≤ most_qubits

-- a byte string is accepted exactly when it is the roll of a list within the limits, and read as that list. So every accepted
-- roll has one list, and every list within the limits one roll
pub record ReadLaw : Type 0 where
  pub accepted : (b : List ℕ) → All (λ x. x < 256) b → (ps : List Sparse) → read b ≡ answer ps → Within ps × (encode ps ≡ b)
  pub accepts : (ps : List Sparse) → Within ps → read (encode ps) ≡ answer ps
  -- what is written is read back by value
  pub round_trip : (ps : List Sparse) → Within ps → read (write ps) ≡ answer (map by_value ps)
  -- "Written rolls have exponents 0 to 3"
  pub written_exponents : (ps qs : List Sparse) → Within ps → read (write ps) ≡ answer qs → All (λ q. q.e < 4) qs
