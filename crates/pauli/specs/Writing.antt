-- Written rolls and lent outputs: document 01, "Roll" and "Turned back", 12.
use Rattle.std.specs.Prelude.{ℕ, ◌+◌, ◌%◌, ◌^◌, ◌<◌, cond, List, [], ◌∷◌, ◌++◌, map, length, take, drop, nat_lt}
use Rattle.binar.specs.Row.{weight}
use Rattle.pauli.specs.Told.{Told, answer, refused, refuse_if}
use Rattle.pauli.specs.Bytes.{le16, le32}
use Rattle.pauli.specs.Roll.{Sparse, encode}
use Rattle.pauli.specs.Support.{All}
use Rattle.pauli.specs.Pauli.{Pauli, select}

-- the bytes bs in an output, from byte i on
unfoldable pub put_bytes : List ℕ → ℕ → List ℕ → List ℕ
put_bytes out i bs = take i out ++ (bs ++ drop (i + length bs) out)

-- an entry of a written roll: given 1, the exponent's value, the start and the two counts
unfoldable pub entry_bytes : ℕ → ℕ → ℕ → ℕ → List ℕ
entry_bytes e start xcount zcount = 1 ∷ e % 4 ∷ le32 start ++ le16 xcount ++ le16 zcount

-- a Pauli over the places of a support, as a written roll holds it
unfoldable pub sparse_over : List ℕ → Pauli → Sparse
sparse_over qs p = record { e = p.e % 4; xs = select p.x qs; zs = select p.z qs }

-- how many qubit numbers the bodies of Paulis over places hold
unfoldable pub numbers_of : List Pauli → ℕ
numbers_of [] = 0
numbers_of (p ∷ ps) = weight p.x + weight p.z + numbers_of ps

-- their entries, where `before` qubit numbers stand in earlier bodies
unfoldable pub table_of : ℕ → List Pauli → List ℕ
table_of before [] = []
table_of before (p ∷ ps) = entry_bytes p.e before (weight p.x) (weight p.z) ++ table_of (before + weight p.x + weight p.z) ps

-- every place of these Paulis is below n
unfoldable pub OnPlaces : ℕ → List Pauli → Type 0
OnPlaces n ps = All (λ p. (p.x < 2 ^ n) × (p.z < 2 ^ n)) ps

-- the roll written for Paulis over the places of a support
unfoldable pub roll_over : List ℕ → List Pauli → List ℕ
roll_over qs ps = encode (map (sparse_over qs) ps)

-- what a call tells whose result is these bytes: their number, or 12 where the output is shorter
unfoldable pub told_bytes : Told (List ℕ) → List ℕ → Told ℕ
told_bytes (answer bs) out = refuse_if (nat_lt (length out) (length bs)) 12 0 (answer (length bs))
told_bytes (refused n p) out = refused n p

-- "Refusals leave output alone. Results write their own bytes at the front and no others"
unfoldable pub left_in : Told (List ℕ) → List ℕ → List ℕ
left_in (answer bs) out = cond (nat_lt (length out) (length bs)) out (put_bytes out 0 bs)
left_in (refused n p) out = out
