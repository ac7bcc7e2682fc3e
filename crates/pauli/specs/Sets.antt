-- Sets of qubits as numbers, as rising lists and as places in a support; Paulis from the lists of a roll, and as rows.
use Rattle.std.specs.Prelude.{ℕ, zero, suc, ◌+◌, ◌*◌, ◌/◌, ◌%◌, ◌^◌, List, [], ◌∷◌, length, bit_or}
use Rattle.binar.specs.Row.{bit}
use Rattle.pauli.specs.Roll.{Sparse}
use Rattle.pauli.specs.Pauli.{Pauli, cons_if, select}

-- the set with these members
unfoldable pub set_of : List ℕ → ℕ
set_of [] = 0
set_of (q ∷ qs) = bit_or (2 ^ q) (set_of qs)

-- the members of v's first n digits, where the first digit is qubit q; it ends where the number has run out
unfoldable pub members_from : ℕ → ℕ → ℕ → List ℕ
members_from zero q v = []
members_from (suc n) q zero = []
members_from (suc n) q (suc v) = cons_if (suc v % 2) q (members_from n (suc q) (suc v / 2))

-- the members of a set, rising
unfoldable pub members : ℕ → List ℕ
members v = members_from v 0 v

-- a Pauli of a roll
unfoldable pub pauli_of : Sparse → Pauli
pauli_of p = record { e = p.e; x = set_of p.xs; z = set_of p.zs }

-- a Pauli as a roll holds it
unfoldable pub sparse_of : Pauli → Sparse
sparse_of p = record { e = p.e; xs = members p.x; zs = members p.z }

-- a set of qubits as a set of places
unfoldable pub condense : List ℕ → ℕ → ℕ
condense [] v = 0
condense (q ∷ qs) v = bit v q + 2 * condense qs v

-- a set of places as a set of qubits
unfoldable pub expand : List ℕ → ℕ → ℕ
expand qs r = set_of (select r qs)

-- "column p is X at place p, column s + p is Z, where s is the support's size"
unfoldable pub row_of : List ℕ → Pauli → ℕ
row_of qs p = condense qs p.x + 2 ^ length qs * condense qs p.z

-- the Pauli with this exponent whose row is r
unfoldable pub pauli_of_row : List ℕ → ℕ → ℕ → Pauli
pauli_of_row qs e r = record { e = e; x = expand qs (r % 2 ^ length qs); z = expand qs (r / 2 ^ length qs) }
