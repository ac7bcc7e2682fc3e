-- Lists of Paulis kept in words, over the places of the qubits that they use.
use Rattle.std.specs.Prelude.{◌≡◌, ℕ, ◌^◌, ◌<◌, ◌≤◌, List, map, length}
use mathlib.Core.List.{Memᴰ as Mem}
use Rattle.pauli.specs.Pauli.{Pauli}
use Rattle.pauli.specs.Roll.{Sparse, support}
use Rattle.pauli.specs.Signed.{paulis_in}
use Rattle.pauli.specs.Writing.{sparse_over}

-- Paulis in words over the places of qs, as a roll holds them: exponents by value
unfoldable pub spread : List ℕ → List (List ℕ) → List Sparse
spread qs words = map (sparse_over qs) (paulis_in words)

-- a list that can be kept: its qubits qs are those that its Paulis use, and no others
pub record KeptOver (qs : List ℕ) (words : List (List ℕ)) : Type 0 where
  pub few : length words ≤ 128
  pub places : length qs ≤ 128
  pub on : (p : Pauli) → Mem p (paulis_in words) → (p.x < 2 ^ length qs) × (p.z < 2 ^ length qs)
  pub support_is : support (spread qs words) ≡ qs
