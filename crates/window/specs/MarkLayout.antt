-- The bytes of a window behind its front: the round and the marks; and what the calls leave there.
use Rattle.std.specs.Prelude.{ℕ, zero, suc, ◌*◌, min, List, [], ◌∷◌, ◌++◌, length, take, drop, slice_index}
use Rattle.std.specs.Int.{w64, from_le_bytes, to_le_bytes}
use Rattle.pauli.specs.Told.{Told, map_told}
use Rattle.pauli.specs.Writing.{put_bytes}
use Rattle.window.specs.History.{or_same}
use Rattle.window.specs.Layout.{window_bytes, width_at, front, made, sent}
use Rattle.window.specs.MarkHistory.{Named, most_marks, most_round, kept_at, keep_few, free, known}

-- the front; 8 bytes: the round; 1 byte: how many marks are held; eight marks
abbrev pub array_bytes : ℕ
array_bytes = 595777

abbrev pub round_at : ℕ
round_at = 66184

abbrev pub held_at : ℕ
held_at = 66192

abbrev pub marks_at : ℕ
marks_at = 66193

-- a mark: 8 bytes of name, then what is kept under it
abbrev pub mark_bytes : ℕ
mark_bytes = 66198

-- what is kept: the front without its width, then the round
abbrev pub state_bytes : ℕ
state_bytes = 66190

-- the bytes behind the front
unfoldable pub behind : List ℕ → List ℕ
behind w = drop window_bytes w

-- ---- the round

unfoldable pub round_in : List ℕ → ℕ
round_in w = from_le_bytes w64 (take 8 (drop round_at w))

unfoldable pub with_round : List ℕ → ℕ → List ℕ
with_round w n = put_bytes w round_at (to_le_bytes w64 n)

-- "stops at its largest value"
unfoldable pub next_round : ℕ → ℕ
next_round n = min (suc n) most_round

-- ---- the marks

-- how many are held; a number above eight is read as eight
unfoldable pub held_in : List ℕ → ℕ
held_in w = min (slice_index w held_at) most_marks

-- n marks, one behind the other
unfoldable pub marks_from : ℕ → List ℕ → List (Named (List ℕ))
marks_from zero l = []
marks_from (suc n) l = record { name = take 8 l; kept = take state_bytes (drop 8 l) } ∷ marks_from n (drop mark_bytes l)

unfoldable pub marks_in : List ℕ → List (Named (List ℕ))
marks_in w = marks_from (held_in w) (drop marks_at w)

-- marks, one behind the other, as bytes
unfoldable pub mark_list : List (Named (List ℕ)) → List ℕ
mark_list [] = []
mark_list (m ∷ ms) = m.name ++ (m.kept ++ mark_list ms)

-- the bytes with these marks held, and behind them as they were
unfoldable pub with_marks : List ℕ → List (Named (List ℕ)) → List ℕ
with_marks w ms = take held_at w ++ (length ms ∷ (mark_list ms ++ drop (mark_bytes * length ms) (drop marks_at w)))

-- what saving keeps: the checks inside and the round
unfoldable pub state : List ℕ → List ℕ
state w = take width_at w ++ take 8 (drop round_at w)

-- the bytes with what is kept restored
unfoldable pub restored : List ℕ → List ℕ → List ℕ
restored w s = put_bytes (put_bytes w 0 (take width_at s)) round_at (drop width_at s)

-- ---- what the calls leave

-- behind the front, once a window was made or its making refused: "starts at 0", and no mark is held
unfoldable pub behind_made : List ℕ → ℕ → List ℕ
behind_made w width = or_same (behind w) (map_told (λ bytes. to_le_bytes w64 0 ++ (0 ∷ drop marks_at w)) (made (front w) width))

-- behind the front, once a roll was sent or refused: the round counts it, the marks stay
unfoldable pub behind_sent : List ℕ → List ℕ → List ℕ
behind_sent w b = or_same (behind w) (map_told (λ bytes. to_le_bytes w64 (next_round (round_in w)) ++ drop held_at w) (sent (front w) b))

-- all bytes once the window is saved under a name, or 20
unfoldable pub saved : List ℕ → List ℕ → Told (List ℕ)
saved w name = map_told (with_marks w) (keep_few name (state w) (marks_in w))

-- once it is returned to a name, or 19
unfoldable pub returned : List ℕ → List ℕ → Told (List ℕ)
returned w name = map_told (restored w) (known (kept_at name (marks_in w)))

-- once a name is deleted, or 19
unfoldable pub deleted : List ℕ → List ℕ → Told (List ℕ)
deleted w name = map_told (λ s. with_marks w (free name (marks_in w))) (known (kept_at name (marks_in w)))
