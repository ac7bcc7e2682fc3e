-- The product of two Paulis of rolls over a support that has their qubits.
use Rattle.std.specs.Prelude.{ℕ, List, [], ◌∷◌, slice_index_or}
use Rattle.pauli.specs.Roll.{Sparse}
use Rattle.pauli.specs.Pauli.{Pauli, times, anticommute}
use Rattle.pauli.specs.Sets.{pauli_of}
use Rattle.pauli.specs.Writing.{roll_over, told_bytes}
use Rattle.pauli.specs.Condense.{nothing, condensed}
use Rattle.pauli.specs.Told.{Told, answer}
use Rattle.pauli.specs.JoinCalls.{Made, made_with}

-- Pauli i of one list times Pauli j of another, over the places of qs
unfoldable pub product_over : List ℕ → List Sparse → ℕ → List Sparse → ℕ → Pauli
product_over qs ps i rs j = times (condensed qs (pauli_of (slice_index_or ps i nothing))) (condensed qs (pauli_of (slice_index_or rs j nothing)))

-- and the roll that is written for it
unfoldable pub product_bytes : List ℕ → List Sparse → ℕ → List Sparse → ℕ → List ℕ
product_bytes qs ps i rs j = roll_over qs (product_over qs ps i rs j ∷ [])

-- 1 where the two anticommute over these places, else 0
unfoldable pub anticommute_over : List ℕ → List Sparse → ℕ → List Sparse → ℕ → ℕ
anticommute_over qs ps i rs j =
    anticommute (condensed qs (pauli_of (slice_index_or ps i nothing))) (condensed qs (pauli_of (slice_index_or rs j nothing)))

-- what is told of it in this output
unfoldable pub made_over : List ℕ → List Sparse → ℕ → List Sparse → ℕ → List ℕ → Told Made
made_over qs ps i rs j out = made_with (anticommute_over qs ps i rs j) (told_bytes (answer (product_bytes qs ps i rs j)) out)
