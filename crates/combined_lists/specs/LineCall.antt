-- What the check of a line tells, by its bytes and the rolls lent.
use Rattle.std.specs.Prelude.{ℕ, Bool, not, ◌==◌, nat_lt, Option, Some, None, List, [], map, length, slice_index_or}
use Rattle.std.specs.Borrow.{Bor}
use Rattle.pauli.specs.Told.{Told, answer, refused, refuse_if, map_told}
use Rattle.combined_lists.specs.Line.{Tree, depth_of, all_sent}
use Rattle.combined_lists.specs.Reader.{tree_of}

-- "A line has at most 256 bytes"
abbrev pub longest_line : ℕ
longest_line = 256

-- "parentheses deeper than 4"
abbrev pub deepest_line : ℕ
deepest_line = 4

abbrev pub tree_told : (ℕ → Bool) → Option Tree → Told Tree
tree_told sent None = refused 14 0
tree_told sent (Some t) = refuse_if (not (all_sent sent t)) 14 0 (refuse_if (nat_lt deepest_line (depth_of t)) 15 0 (answer t))

-- "14 for a line that is empty, too long, ill-formed or names a roll that was not sent; 15 for parentheses deeper than 4; both before any
-- roll is read, 14 first"
unfoldable pub line_told : (ℕ → Bool) → List ℕ → Told Tree
line_told sent l = refuse_if (nat_lt longest_line (length l)) 14 0 (tree_told sent (tree_of l))

-- that a line passes; its tree is not kept
unfoldable pub passed : {A : Type 0} → Told A → Told Unit
passed told = map_told (λ _. tt) told

-- ---- the rolls, A to D

-- the bytes of the rolls lent
abbrev pub rolls_in : List (Bor (List ℕ)) → List (List ℕ)
rolls_in rolls = map (λ roll. roll.now) rolls

-- "a roll of no bytes is one not sent"
unfoldable pub sent_of : List (List ℕ) → ℕ → Bool
sent_of rolls a = not (length (slice_index_or rolls a []) == 0)
