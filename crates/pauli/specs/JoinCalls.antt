-- The calls on two rolls: product, joining and the two lookups of a joined generator, in document 01's order of refusals.
use Rattle.std.specs.Prelude.{ℕ, zero, suc, ◌+◌, ◌-◌, ◌*◌, ◌%◌, Bool, ◌==◌, cond, List, [], ◌∷◌, ◌++◌, length, take, drop, nat_le, nat_lt, slice_index_or}
use Rattle.pauli.specs.Told.{Told, answer, refused, refuse_if, and_then, map_told}
use Rattle.pauli.specs.Bytes.{u16_at}
use Rattle.pauli.specs.Roll.{most_paulis, Sparse, entry_at, support, read, write}
use Rattle.pauli.specs.Support.{most_qubits}
use Rattle.pauli.specs.Pauli.{Pauli, times, anticommute}
use Rattle.pauli.specs.Sets.{pauli_of, sparse_of}
use Rattle.pauli.specs.Condense.{nothing}
use Rattle.pauli.specs.Writing.{told_bytes}

-- two lists, each from its own roll
pub record Lists : Type 0 where
  pub left : List Sparse
  pub right : List Sparse

-- "then the next roll (generators before elements, left before right)"
unfoldable pub read_both : List ℕ → List ℕ → Told Lists
read_both l r = and_then (read l) λ ps. and_then (read r) λ qs. answer (record { left = ps; right = qs })

-- refused with 7 where the two lists together have too many distinct qubits
unfoldable pub few_qubits : {A : Type 0} → Lists → Told A → Told A
few_qubits b next = refuse_if (nat_lt most_qubits (length (support (b.left ++ b.right)))) 7 0 next

-- "generator or element number past its list"
unfoldable pub within : {A : Type 0} → ℕ → List Sparse → Told A → Told A
within n ps next = refuse_if (nat_le (length ps) n) 8 0 next

-- ---- the product of factor i of one roll and factor j of another

pub record Factors : Type 0 where
  pub left : Pauli
  pub right : Pauli

-- the two factors: "A product takes joined 7 alone, over both its rolls"
unfoldable pub factors_of : List ℕ → ℕ → List ℕ → ℕ → Told Factors
factors_of l i r j =
    and_then (read_both l r) λ b. few_qubits b (within i b.left (within j b.right
    (answer (record { left = pauli_of (slice_index_or b.left i nothing); right = pauli_of (slice_index_or b.right j nothing) }))))

-- the roll of their product
unfoldable pub product_of : List ℕ → ℕ → List ℕ → ℕ → Told (List ℕ)
product_of l i r j = map_told (λ f. write (sparse_of (times f.left f.right) ∷ [])) (factors_of l i r j)

-- "The signed product shall also say whether its factors anticommute": the length of its roll in bytes, and whether they do
pub record Made : Type 0 where
  pub bytes : ℕ
  pub anticommute : Bool

-- the told length of a roll, beside whether the factors anticommute: 1 if they do, else 0
unfoldable pub made_with : ℕ → Told ℕ → Told Made
made_with bit told = map_told (λ n. record { bytes = n; anticommute = bit == 1 }) told

-- what a product tells; a refused one, also for its output, tells nothing of its factors
unfoldable pub made_of : List ℕ → ℕ → List ℕ → ℕ → List ℕ → Told Made
made_of l i r j out = and_then (factors_of l i r j) λ f. made_with (anticommute f.left f.right) (told_bytes (product_of l i r j) out)

-- ---- joining

-- "Joining is left then right"; joined 2, then joined 7
unfoldable pub joined_of : List ℕ → List ℕ → Told (List Sparse)
joined_of l r = and_then (read_both l r) λ b. refuse_if (nat_lt most_paulis (length b.left + length b.right)) 2 0 (few_qubits b (answer (b.left ++ b.right)))

-- how many Paulis each of two lists has
pub record Counts : Type 0 where
  pub left : ℕ
  pub right : ℕ

-- the counts of two rolls that can be joined
unfoldable pub counts_of : List ℕ → List ℕ → Told Counts
counts_of l r =
    and_then (read_both l r) λ b. refuse_if (nat_lt most_paulis (length b.left + length b.right)) 2 0
    (few_qubits b (answer (record { left = length b.left; right = length b.right })))

-- the roll that joining writes
unfoldable pub join_of : List ℕ → List ℕ → Told (List ℕ)
join_of l r = map_told write (joined_of l r)

-- ---- the lookups of generator n of a joined list

-- its exponent value and the counts of its sets
pub record Looked : Type 0 where
  pub exponent : ℕ
  pub xcount : ℕ
  pub zcount : ℕ

unfoldable pub looked_up : Sparse → Looked
looked_up p = record { exponent = p.e % 4; xcount = length p.xs; zcount = length p.zs }

unfoldable pub entry_of : List ℕ → List ℕ → ℕ → Told Looked
entry_of l r n = and_then (joined_of l r) λ ps. within n ps (answer (looked_up (slice_index_or ps n nothing)))

-- where a body stands: in the left roll (0) or the right one (1), its first byte there, and its length
pub record Stretch : Type 0 where
  pub roll : ℕ
  pub start : ℕ
  pub size : ℕ

-- the body of Pauli i of the bytes b, the roll with this number: behind the table and as many qubit numbers as its entry tells
unfoldable pub stretch_in : ℕ → List ℕ → ℕ → Stretch
stretch_in roll b i =
    let a = entry_at b (2 + 10 * i) in
    record { roll = roll; start = 2 + 10 * u16_at b 0 + 4 * a.start; size = 4 * (a.xcount + a.zcount) }

-- "its own stretch of the left roll's bytes or of the right roll's"; refused exactly as the lookup of the entry is
unfoldable pub stretch_of : List ℕ → List ℕ → ℕ → Told Stretch
stretch_of l r n = map_told (λ _. cond (nat_lt n (u16_at l 0)) (stretch_in 0 l n) (stretch_in 1 r (n - u16_at l 0))) (entry_of l r n)

-- of the left roll and the right one, that with this number
abbrev pub roll_numbered : {A : Type 0} → ℕ → A → A → A
roll_numbered zero l r = l
roll_numbered (suc n) l r = r

-- the bytes of a stretch of two rolls
unfoldable pub bytes_of : List ℕ → List ℕ → Stretch → List ℕ
bytes_of l r s = take s.size (drop s.start (roll_numbered s.roll l r))

-- the body of Pauli i of one roll
unfoldable pub body_in : List ℕ → ℕ → List ℕ
body_in b i = bytes_of b b (stretch_in 0 b i)

-- "at a refusal the stretch is empty"
unfoldable pub or_empty : Told (List ℕ) → List ℕ
or_empty (answer bytes) = bytes
or_empty (refused n p) = []

unfoldable pub body_of : List ℕ → List ℕ → ℕ → List ℕ
body_of l r n = or_empty (map_told (bytes_of l r) (stretch_of l r n))

-- the place in memory k bytes past a place: a block, and an offset in it
abbrev pub bytes_past : ℕ → ℕ × ℕ → ℕ × ℕ
bytes_past k p = (p.0, k + p.1)

-- "as its own stretch": the place of its first byte, by the places of the two rolls; at a refusal the left roll's
unfoldable pub address_of : ℕ × ℕ → ℕ × ℕ → Told Stretch → ℕ × ℕ
address_of l r (answer s) = bytes_past s.start (roll_numbered s.roll l r)
address_of l r (refused n p) = bytes_past 0 l
