-- The calls, as functions of the bytes and of the named numbers lent: document 02, L5.
use Rattle.std.specs.Prelude.{List, [], ◌∷◌, ℕ, suc, Bool, true, not, ◌&&◌, nat_le, length}
use Rattle.pauli.specs.Pauli.{Pauli}
use Rattle.pauli.specs.Roll.{Sparse, support, read}
use Rattle.pauli.specs.Support.{insert_all}
use Rattle.pauli.specs.Told.{Told, answer, refuse_if, and_then, map_told}
use Rattle.pauli_theory.specs.Centralizer.{centralizer_of, centralizer_within}
use Rattle.pauli_group.specs.Calls.{paulis, list_bytes}
use Rattle.pauli_group.specs.WorkArea.{enough}

-- "a list of strictly rising 32-bit numbers", from `least` on
unfoldable pub rises_from : ℕ → List ℕ → Bool
rises_from least [] = true
rises_from least (q ∷ qs) = nat_le least q && rises_from (suc q) qs

-- "more than 63 qubits"
unfoldable pub most_together : ℕ
most_together = 63

-- "Qubits count over both supports": how many distinct ones there are in the named support and in the list's own
unfoldable pub together : List ℕ → List ℕ → ℕ
together named own = length (insert_all named own)

-- "13 when the two supports together hold more than 63 qubits, or the named one isn't strictly rising"; document 02, L8: "13 loses its
-- clause on the qubit limit"
unfoldable pub fitting : {A : Type 0} → List ℕ → List ℕ → Told A → Told A
fitting named own next = refuse_if (not (rises_from 0 named && nat_le (together named own) most_together)) 13 0 next

-- a list that was read, and the named support: 13 "checked after 7", then the work area (9)
unfoldable pub checked : List ℕ → List Sparse → ℕ → Told (List Pauli)
checked named ps words = fitting named (support ps) (enough words (answer (paulis ps)))

-- the roll of the centralizer's generators, once all is checked
unfoldable pub generators_of : List ℕ → Told (List Pauli) → Told (List ℕ)
generators_of named told = map_told (λ gs. list_bytes (centralizer_within named gs)) told

-- ---- `centralizer_within`: what commutes with the list's Paulis, on the named support

unfoldable pub within_checked : List ℕ → List ℕ → ℕ → Told (List Pauli)
within_checked b named words = and_then (read b) λ ps. checked named ps words

unfoldable pub within_call : List ℕ → List ℕ → ℕ → Told (List ℕ)
within_call b named words = generators_of named (within_checked b named words)

-- ---- `centralizer_of`: "for `centralizer_of` it is the generators' own"

unfoldable pub own_checked : List ℕ → ℕ → Told (List Pauli)
own_checked b words = and_then (read b) λ ps. checked (support ps) ps words

unfoldable pub own_call : List ℕ → ℕ → Told (List ℕ)
own_call b words = map_told (λ gs. list_bytes (centralizer_of gs)) (own_checked b words)
