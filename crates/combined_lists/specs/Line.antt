-- Lines that combine lists: their grammar, and what a line names and how deep it goes.
use Rattle.std.specs.Prelude.{ℕ, suc, ◌+◌, ◌-◌, ◌≤◌, ◌<◌, max, Bool, true, ◌&&◌, if◌then◌else◌, ◌==◌, nat_le, List, [], ◌∷◌, ◌++◌}
use Rattle.std.specs.List.{list_all}

-- `/`, `&` and `|`
pub data Sign : Type 0 where
  quotient : Sign
  common : Sign
  joined : Sign

-- a line: "letters A to D", numbered from 0, and what signs and parentheses make of them
pub data Tree : Type 0 where
  letter : ℕ → Tree
  parens : Tree → Tree
  operation : Sign → Tree → Tree → Tree

abbrev pub byte_of : Sign → ℕ
byte_of quotient = 47
byte_of common = 38
byte_of joined = 124

-- the bytes that a tree is written as, with "no spaces": 65 is `A`, 40 and 41 are the parentheses
unfoldable pub bytes_of : Tree → List ℕ
bytes_of (letter a) = (65 + a) ∷ []
bytes_of (parens t) = 40 ∷ bytes_of t ++ 41 ∷ []
bytes_of (operation s l r) = bytes_of l ++ byte_of s ∷ bytes_of r

-- "`/` before `&` before `|`"
abbrev pub rank : Sign → ℕ
rank quotient = 1
rank common = 2
rank joined = 3

-- the rank of the sign that binds last, 0 where there is none outside parentheses
abbrev pub rank_of : Tree → ℕ
rank_of (letter a) = 0
rank_of (parens t) = 0
rank_of (operation s l r) = rank s

-- "Signs bind as in Rust: `/` before `&` before `|`, each from the left; parentheses override"
abbrev pub Binds : Tree → Type 0
Binds (letter a) = a < 4
Binds (parens t) = Binds t
Binds (operation s l r) = (rank_of l ≤ rank s) × (rank_of r < rank s) × Binds l × Binds r

-- how deep its parentheses go
unfoldable pub depth_of : Tree → ℕ
depth_of (letter a) = 0
depth_of (parens t) = suc (depth_of t)
depth_of (operation s l r) = max (depth_of l) (depth_of r)

-- each letter that it names was sent
unfoldable pub all_sent : (ℕ → Bool) → Tree → Bool
all_sent sent (letter a) = sent a
all_sent sent (parens t) = all_sent sent t
all_sent sent (operation s l r) = all_sent sent l && all_sent sent r

-- ---- the same of the bytes alone

-- how many parentheses are open after byte b, where d were open before it
unfoldable pub depth_after : ℕ → ℕ → ℕ
depth_after d b = if b == 40 then suc d else if b == 41 then d - 1 else d

-- how deep they go from there
unfoldable pub deepest : ℕ → List ℕ → ℕ
deepest d [] = d
deepest d (b ∷ l) = max d (deepest (depth_after d b) l)

abbrev pub is_letter : ℕ → Bool
is_letter b = nat_le 65 b && nat_le b 68

-- byte b is no letter, or one that was sent
unfoldable pub byte_sent : (ℕ → Bool) → ℕ → Bool
byte_sent sent b = if is_letter b then sent (b - 65) else true

abbrev pub bytes_sent : (ℕ → Bool) → List ℕ → Bool
bytes_sent sent l = list_all (byte_sent sent) l
