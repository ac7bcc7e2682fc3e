-- Rolls: document 01, "Roll" and "Turned back", 1 to 7.
use Rattle.std.specs.Prelude.{ℕ, zero, suc, ◌+◌, ◌*◌, ◌%◌, not, List, [], ◌∷◌, ◌++◌, map, length, ◌==◌, nat_lt, slice_index}
use Rattle.pauli.specs.Told.{Told, answer, refuse_if, and_then, map_told}
use Rattle.pauli.specs.Bytes.{u16_at, u32_at, le16, le32, numbers_at, le32s}
use Rattle.pauli.specs.Support.{most_qubits, insert_all}

-- "At most 128 Paulis, 128 distinct qubits"; most_qubits is in Support. Document 02, L8, takes the limit on qubit numbers away
unfoldable pub most_paulis : ℕ
most_paulis = 128

-- the highest number that its four bytes hold; document 02, L8: "the number gets 32 bits in the Pauli record"
unfoldable pub highest_qubit : ℕ
highest_qubit = 4294967295

-- a Pauli as a roll holds it: the exponent's byte, and the qubit numbers of its two sets
pub record Sparse : Type 0 where
  pub e : ℕ
  pub xs : List ℕ
  pub zs : List ℕ

-- "entries of 10 bytes: given (1 byte), exponent (1), start (4), x count (2), z count (2)"
pub record Entry : Type 0 where
  pub given : ℕ
  pub exponent : ℕ
  pub start : ℕ
  pub xcount : ℕ
  pub zcount : ℕ

-- the entry whose ten bytes start at byte i
unfoldable pub entry_at : List ℕ → ℕ → Entry
entry_at b i = record { given = slice_index b i; exponent = slice_index b (i + 1); start = u32_at b (i + 2); xcount = u16_at b (i + 6); zcount = u16_at b (i + 8) }

-- the n entries from byte i on
unfoldable pub entries_at : List ℕ → ℕ → ℕ → List Entry
entries_at b i zero = []
entries_at b i (suc n) = entry_at b i ∷ entries_at b (i + 10) n

-- "bodies: x numbers, then z numbers, 4 bytes each": the Paulis of these entries, whose bodies start at byte i
unfoldable pub paulis_at : List ℕ → ℕ → List Entry → List Sparse
paulis_at b i [] = []
paulis_at b i (a ∷ more) =
    record { e = a.exponent; xs = numbers_at b i a.xcount; zs = numbers_at b (i + 4 * a.xcount) a.zcount }
    ∷ paulis_at b (i + 4 * (a.xcount + a.zcount)) more

-- "entries in turn (3, 4)": `before` is how many qubit numbers stand in the bodies of earlier entries; tells how many stand
-- in all of them
unfoldable pub check_entries : ℕ → ℕ → List Entry → Told ℕ
check_entries i before [] = answer before
check_entries i before (a ∷ more) =
    refuse_if (nat_lt 1 a.given) 3 i
    (refuse_if (not (a.start == before)) 3 i
    (refuse_if (a.given == 0) 4 i
    (check_entries (suc i) (before + a.xcount + a.zcount) more)))

-- "numbers in turn (6)" of one set of Pauli i: the next number is to be `least` at least. Document 02, L8: "Refusal 5 can no
-- longer occur"
unfoldable pub check_set : ℕ → ℕ → List ℕ → Told Unit
check_set i least [] = answer tt
check_set i least (q ∷ qs) = refuse_if (nat_lt q least) 6 i (check_set i (suc q) qs)

unfoldable pub check_sets : ℕ → List Sparse → Told Unit
check_sets i [] = answer tt
check_sets i (p ∷ ps) = and_then (check_set i 0 p.xs) λ _. and_then (check_set i 0 p.zs) λ _. check_sets (suc i) ps

-- the qubit numbers of all sets, in the order of the bodies
unfoldable pub numbers : List Sparse → List ℕ
numbers [] = []
numbers (p ∷ ps) = p.xs ++ p.zs ++ numbers ps

-- "Support is the rising list of qubits used"
unfoldable pub support : List Sparse → List ℕ
support ps = insert_all (numbers ps) []

-- "Order: per roll 2 bytes (1), 2, table (1), entries in turn (3, 4), length (1), numbers in turn (5, 6), 7"; 5 no longer occurs
unfoldable pub read : List ℕ → Told (List Sparse)
read b =
    refuse_if (nat_lt (length b) 2) 1 0
    (let n = u16_at b 0 in
    refuse_if (nat_lt most_paulis n) 2 0
    (refuse_if (nat_lt (length b) (2 + 10 * n)) 1 0
    (let entries = entries_at b 2 n in
    and_then (check_entries 0 0 entries) λ total.
    refuse_if (not (length b == 2 + 10 * n + 4 * total)) 1 0
    (let ps = paulis_at b (2 + 10 * n) entries in
    and_then (check_sets 0 ps) λ _.
    refuse_if (nat_lt most_qubits (length (support ps))) 7 0
    (answer ps)))))

-- how many Paulis an accepted roll has; else its refusal
unfoldable pub count_of : List ℕ → Told ℕ
count_of b = map_told length (read b)

-- ---- writing

-- the entry of p, where `before` qubit numbers stand in earlier bodies
unfoldable pub entry : ℕ → Sparse → List ℕ
entry before p = 1 ∷ p.e ∷ le32 before ++ le16 (length p.xs) ++ le16 (length p.zs)

unfoldable pub table : ℕ → List Sparse → List ℕ
table before [] = []
table before (p ∷ ps) = entry before p ++ table (before + length p.xs + length p.zs) ps

unfoldable pub bodies : List Sparse → List ℕ
bodies ps = le32s (numbers ps)

-- the roll that holds these Paulis
unfoldable pub encode : List Sparse → List ℕ
encode ps = le16 (length ps) ++ table 0 ps ++ bodies ps

-- "Written rolls have exponents 0 to 3"
unfoldable pub by_value : Sparse → Sparse
by_value p = record { e = p.e % 4; xs = p.xs; zs = p.zs }

unfoldable pub write : List Sparse → List ℕ
write ps = encode (map by_value ps)
