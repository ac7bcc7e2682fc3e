-- Where a list comes from: a roll, or words that keep it.
use Rattle.std.specs.Prelude.{ℕ, ◌+◌, List, ◌++◌, length, nat_lt}
use mathlib.Core.List.{Memᴰ as Mem}
use Rattle.pauli.specs.Condense.{list_of}
use Rattle.pauli.specs.Pauli.{Pauli}
use Rattle.pauli.specs.Roll.{Sparse, most_paulis}
use Rattle.pauli.specs.Support.{Rising, most_qubits}
use Rattle.pauli.specs.Told.{Told, refuse_if}
use Rattle.pauli_theory.specs.Standard.{support_of}
use Rattle.pauli_group.specs.Calls.{paulis}
use Rattle.pauli_group.specs.Inner.Kept.{spread}
use Rattle.pauli_group.specs.Inner.Lists.{ReadableAll}
use Rattle.pauli_group.specs.declared.source.Source.{Source}
use Rattle.pauli_group.specs.declared.source.Source.TheVariants.{Rolled, Kept}

-- the Paulis of a list as a roll holds them
abbrev pub sparse_in : Source → List Sparse
sparse_in (Rolled r) = list_of r.bytes.now
sparse_in (Kept k) = spread k.qubits.now k.paulis.now

-- the list: the exponents of a kept one by value
abbrev pub listed : Source → List Pauli
listed s = paulis (sparse_in s)

-- how many Paulis the code counts
abbrev pub counted : Source → ℕ
counted (Rolled r) = r.count
counted (Kept k) = length k.paulis.now

-- the list can be read over the places of qs: they have its qubits
abbrev pub PlacedIn : Source → List ℕ → Type 0
PlacedIn (Rolled r) qs = ReadableAll r.bytes.now r.count qs
PlacedIn (Kept k) qs = Rising 0 qs × ((q : ℕ) → Mem q k.qubits.now → Mem q qs)

-- the limits of two lists joined
unfoldable pub joinable : {A : Type 0} → List Pauli → List Pauli → Told A → Told A
joinable gs hs next = refuse_if (nat_lt most_paulis (length gs + length hs)) 2 0 (refuse_if (nat_lt most_qubits (length (support_of (gs ++ hs)))) 7 0 next)
