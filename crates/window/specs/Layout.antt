-- The bytes of a window, and what making one and sending leave in them.
use Rattle.std.specs.Prelude.{ℕ, min, max, List, [], ◌∷◌, ◌++◌, length, take, drop}
use Rattle.pauli.specs.Bytes.{u16_at, u32_at, le16, le32}
use Rattle.pauli.specs.Roll.{read, write}
use Rattle.pauli.specs.Told.{Told, answer, and_then}
use Rattle.pauli.specs.Writing.{put_bytes}
use Rattle.window.specs.History.{widest, allowed_width, check_in, few_inside, last_of}

-- the longest roll of the checks inside: 64 of them, with 128 x and 128 z numbers each
abbrev pub room_bytes : ℕ
room_bytes = 66178

-- 4 bytes: the length of the roll of the checks inside; room for that roll; 2 bytes: the width
abbrev pub window_bytes : ℕ
window_bytes = 66184

abbrev pub width_at : ℕ
width_at = 66182

-- the bytes that hold the checks inside and the width, the first ones of the array
unfoldable pub front : List ℕ → List ℕ
front w = take window_bytes w

-- the roll in a window; a length above the room is read as the room
unfoldable pub roll_in : List ℕ → List ℕ
roll_in w = take (min (u32_at w 0) room_bytes) (drop 4 w)

-- its width; one outside 1 to 64 is read as the nearest inside
unfoldable pub width_in : List ℕ → ℕ
width_in w = max (min (u16_at w width_at) widest) 1

-- a window with this roll in it
unfoldable pub holding : List ℕ → List ℕ → List ℕ
holding w bs = put_bytes (put_bytes w 4 bs) 0 (le32 (length bs))

-- the bytes once a window of this width is made in them, or 17: "Before the first check the window is the empty list"
unfoldable pub made : List ℕ → ℕ → Told (List ℕ)
made w width = allowed_width width (answer (holding (put_bytes w width_at (le16 width)) (write [])))

-- the bytes once a roll was sent, or its refusal: its own 1 to 7, then 18; then 1 to 7 of forged bytes, in which no roll stands; then the
-- window's 7. "each sent check enters, and with w inside the oldest leaves first. The qubit limit is counted after the oldest has left"
unfoldable pub sent : List ℕ → List ℕ → Told (List ℕ)
sent w b =
    and_then (check_in b) λ p. and_then (read (roll_in w)) λ ps.
    let inside = last_of (width_in w) (ps ++ p ∷ []) in few_inside inside (answer (holding w (write inside)))
