-- `modulo` over places: the Paulis of two lists moved to the places of one list of qubits, and multiplied there.
use Rattle.std.specs.Prelude.{Bool, cond, List, [], ◌∷◌, map, ℕ, ◌%◌, ltb, length, get_or}
use Rattle.binar.specs.Row.{bit, if_bit}
use Rattle.pauli.specs.Pauli.{Pauli, times}
use Rattle.pauli.specs.Known.{place_of}
use Rattle.pauli.specs.Sets.{condense, expand}

-- a set of places in the first list as the set of the same qubits' places in the second
unfoldable pub moved_set : List ℕ → List ℕ → ℕ → ℕ
moved_set own qs v = condense qs (expand own v)

unfoldable pub moved_pauli : List ℕ → List ℕ → Pauli → Pauli
moved_pauli own qs p = record { e = p.e; x = moved_set own qs p.x; z = moved_set own qs p.z }

-- the place in the second list of the qubit of a column over the first
unfoldable pub pivot_place : List ℕ → List ℕ → ℕ → ℕ
pivot_place own qs pivot = place_of qs (get_or own (pivot % length own) 0)

-- `multiplied` by a place: true for its X, false for its Z
unfoldable pub multiplied_at : Bool → ℕ → Pauli → Pauli → Pauli
multiplied_at is_x place other g = if_bit (cond is_x (bit g.x place) (bit g.z place)) (times g other) g

-- the same of a pivot's column over the first list, where the Paulis are over the places of the second
unfoldable pub multiplied_over : List ℕ → List ℕ → ℕ → Pauli → Pauli → Pauli
multiplied_over own qs pivot other g = multiplied_at (ltb pivot (length own)) (pivot_place own qs pivot) other g

-- `multiplied_by_all` over places
unfoldable pub multiplied_by_all_over : List ℕ → List ℕ → List Pauli → List ℕ → List Pauli → List Pauli
multiplied_by_all_over own qs [] pivots gs = gs
multiplied_by_all_over own qs (other ∷ others) [] gs = gs
multiplied_by_all_over own qs (other ∷ others) (pivot ∷ pivots) gs =
    multiplied_by_all_over own qs others pivots (map (multiplied_over own qs pivot other) gs)
