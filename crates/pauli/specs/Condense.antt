-- Paulis of a roll over the places of a support.
use Rattle.std.specs.Prelude.{◌≡◌, ℕ, ◌+◌, ◌*◌, ◌<◌, List, [], length, slice_index_or}
use mathlib.Core.List.{Memᴰ as Mem}
use Rattle.pauli.specs.Told.{answer}
use Rattle.pauli.specs.Bytes.{u16_at}
use Rattle.pauli.specs.Roll.{Sparse, entries_at, paulis_at, read}
use Rattle.pauli.specs.Support.{All, Rising}
use Rattle.pauli.specs.Pauli.{Pauli}
use Rattle.pauli.specs.Sets.{condense}

-- what stands for a Pauli past the end of a list
unfoldable pub nothing : Sparse
nothing = record { e = 0; xs = []; zs = [] }

-- the Paulis of an accepted roll
unfoldable pub list_of : List ℕ → List Sparse
list_of b = let n = u16_at b 0 in paulis_at b (2 + 10 * n) (entries_at b 2 n)

-- a Pauli over the places of a support
unfoldable pub condensed : List ℕ → Pauli → Pauli
condensed qs p = record { e = p.e; x = condense qs p.x; z = condense qs p.z }

-- the numbers rise, and each of them is in the rising list qs
pub record Covered (ns qs : List ℕ) : Type 0 where
  pub rise : Rising 0 ns
  pub support : Rising 0 qs
  pub in_support : All (λ q. Mem q qs) ns

-- an accepted roll of n Paulis whose Pauli i has all its qubits in the support qs
pub record Readable (b : List ℕ) (n i : ℕ) (qs : List ℕ) : Type 0 where
  pub accepted : read b ≡ answer (list_of b)
  pub count : length (list_of b) ≡ n
  pub number : i < n
  pub x : Covered (slice_index_or (list_of b) i nothing).xs qs
  pub z : Covered (slice_index_or (list_of b) i nothing).zs qs
