-- The two rolls of an input: document 01, "The closing listing".
use Rattle.std.specs.Prelude.{List, ℕ, ◌+◌, ltb, length, take, drop}
use Rattle.pauli.specs.Bytes.{u32_at}
use Rattle.pauli.specs.Told.{Told, answer, refuse_if}

-- "at most 65,536 bytes"
abbrev pub most_input : ℕ
most_input = 65536

-- the bytes of the two rolls
pub record Rolls : Type 0 where
  pub generators : List ℕ
  pub elements : List ℕ

-- "a 4-byte little-endian length, a generator roll of that length, and an element roll that is all the rest"; "input without a whole
-- first roll, or of more than 65,536 bytes, is 1 at 0 in roll 1"
unfoldable pub rolls_in : List ℕ → Told Rolls
rolls_in input =
    refuse_if (ltb most_input (length input)) 1 0
    (refuse_if (ltb (length input) 4) 1 0
    (let size = u32_at input 0 in
    refuse_if (ltb (length input) (4 + size)) 1 0
    (answer (record { generators = take size (drop 4 input); elements = drop (4 + size) input }))))
