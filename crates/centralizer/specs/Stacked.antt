-- The stacked matrix, and the result, as Paulis in the work area: for the contracts of inner functions.
use Rattle.std.specs.Prelude.{List, ℕ, Bool, true, false, ◌/◌, ◌%◌, ◌^◌}
use Rattle.pauli.specs.Pauli.{Pauli}
use Rattle.pauli.specs.Roll.{Sparse}
use Rattle.pauli.specs.Sets.{condense, pauli_of}

-- where the Paulis of the stacked rows stand, and in their place the rows of the kernel
abbrev pub stacked_at : ℕ
stacked_at = 2304

abbrev pub kernel_at : ℕ
kernel_at = 2304

-- where the result stands
abbrev pub result_at : ℕ
result_at = 2816

-- a Pauli of a roll over the places of a support, X and Z exchanged
unfoldable pub exchanged_over : List ℕ → Sparse → Pauli
exchanged_over qs p = record { e = 0; x = condense qs (pauli_of p).z; z = condense qs (pauli_of p).x }

-- X at a place, or Z
unfoldable pub unit_at : Bool → ℕ → Pauli
unit_at true place = record { e = 0; x = 2 ^ place; z = 0 }
unit_at false place = record { e = 0; x = 0; z = 2 ^ place }

-- the Pauli of a row over n places
unfoldable pub places_of_row : ℕ → ℕ → Pauli
places_of_row n u = record { e = 0; x = u % 2 ^ n; z = u / 2 ^ n }
