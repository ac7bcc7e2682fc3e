-- The sizes, as functions of the bytes lent.
use Rattle.std.specs.Prelude.{List, ℕ, ◌+◌, ◌-◌, ◌*◌, ◌^◌, max, min, nat_lt, length}
use Rattle.pauli.specs.Pauli.{Pauli}
use Rattle.pauli.specs.Roll.{Sparse, support, read, write}
use Rattle.pauli.specs.JoinCalls.{joined_of}
use Rattle.pauli.specs.Told.{Told, answer, refuse_if, and_then, map_told}
use Rattle.pauli_theory.specs.Group.{Promise}
use Rattle.pauli_theory.specs.Standard.{rank}
use Rattle.pauli_theory.specs.Listing.{phase_count, page_size}
use Rattle.pauli_group.specs.Calls.{one_list, most_listed}

-- "From two rolls, give the joined roll's exact byte length, its count and its number of distinct qubits, without joining"
pub record Joined : Type 0 where
  pub bytes : ℕ
  pub count : ℕ
  pub qubits : ℕ

unfoldable pub sizes_of : List Sparse → Joined
sizes_of ps = record { bytes = length (write ps); count = length ps; qubits = length (support ps) }

-- refused as joining is: both rolls (1 to 7), the joined limits (2, 7)
unfoldable pub joined_sizes : List ℕ → List ℕ → Told Joined
joined_sizes l r = map_told sizes_of (joined_of l r)

-- "For one roll of n Paulis on s qubits give also 2 + (10 + 8s) times n, with n taken as 1 if it is 0"
unfoldable pub bound_of : List Sparse → ℕ
bound_of ps = 2 + (10 + 8 * length (support ps)) * max (length ps) 1

-- refused as a roll is (1 to 7)
unfoldable pub standard_bound : List ℕ → Told ℕ
standard_bound b = map_told bound_of (read b)

-- "For a listing page of a roll give exactly how many elements it will hold, by the list's rank and phases and the page's start and
-- count"
unfoldable pub page_elements : Promise → ℕ → ℕ → List Pauli → ℕ
page_elements promise start count gs = min (page_size count) (2 ^ rank gs * phase_count promise gs - start)

-- refused as listing is: the roll (1 to 7), the work area (9), the rank (10)
unfoldable pub page_call : Promise → ℕ → ℕ → List ℕ → ℕ → Told ℕ
page_call promise start count b words =
    and_then (one_list b words) λ gs. refuse_if (nat_lt most_listed (rank gs)) 10 0 (answer (page_elements promise start count gs))
