-- How a line is read, from the left. LineTheorems says what is found by it.
use Rattle.std.specs.Prelude.{ℕ, zero, suc, ◌+◌, ◌-◌, ◌*◌, if◌then◌else◌, ◌==◌, Option, Some, None, option_map, option_and_then, List, [], ◌∷◌, length}
use Rattle.std.specs.Option.{option_map_or}
use Rattle.combined_lists.specs.Line.{Sign, quotient, common, joined, Tree, letter, parens, operation, byte_of, is_letter}

-- what follows byte b, where it stands first
unfoldable pub after : ℕ → List ℕ → Option (List ℕ)
after b [] = None
after b (c ∷ l) = if c == b then Some l else None

-- a tree, and the bytes that follow it
abbrev pub Reading : Type 0
Reading = Option (Tree × List ℕ)

unfoldable pub letter_at : List ℕ → Reading
letter_at [] = None
letter_at (b ∷ l) = if is_letter b then Some (letter (b - 65), l) else None

-- a tree in parentheses, of which the first has been read
abbrev pub closed : Tree × List ℕ → Reading
closed (t, l) = option_map (λ rest. (parens t, rest)) (after 41 l)

-- what is to be read: an atom, which is a letter or a tree in parentheses; a level, which is a tree of at most this sign's rank; or more
-- of such a level, which begins with this tree
pub data Job : Type 0 where
  atom : Job
  level : Sign → Job
  more : Sign → Tree → Job

-- what stands on both sides of a sign
abbrev pub below : Sign → Job
below quotient = atom
below common = level quotient
below joined = level common

-- the first number bounds the steps
unfoldable pub read : ℕ → Job → List ℕ → Reading
read zero j l = None
read (suc f) atom l = option_map_or (λ inner. option_and_then closed (read f (level joined) inner)) (after 40 l) (letter_at l)
read (suc f) (level s) l = option_and_then (λ (t, rest). read f (more s t) rest) (read f (below s) l)
read (suc f) (more s t) l =
    option_map_or (λ right. option_and_then (λ (u, rest). read f (more s (operation s t u)) rest) (read f (below s) right))
    (after (byte_of s) l) (Some (t, l))

-- with as many steps as these bytes can take
unfoldable pub reading : Job → List ℕ → Reading
reading j l = read (4 * length l + 4) j l

-- a tree that nothing follows
abbrev pub whole : Tree × List ℕ → Option Tree
whole (t, []) = Some t
whole (t, b ∷ l) = None

-- the tree that is written so, if there is one
unfoldable pub tree_of : List ℕ → Option Tree
tree_of l = option_and_then whole (reading (level joined) l)
