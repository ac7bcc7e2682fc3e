-- How a line is worked out, for any calls and any values.
use Rattle.std.specs.Prelude.{ℕ, suc, max}
use Rattle.pauli.specs.Told.{Told, answer, refused, and_then}
use Rattle.combined_lists.specs.Line.{Sign, Tree, letter, parens, operation}

-- "Left operands are worked out before right ones, and the first refusal of an operation is the line's": op is the call of a sign, and
-- rolls has the value of each letter
unfoldable pub value_of : {A : Type 0} → (Sign → A → A → Told A) → (ℕ → A) → Tree → Told A
value_of op rolls (letter a) = answer (rolls a)
value_of op rolls (parens t) = value_of op rolls t
value_of op rolls (operation s l r) = and_then (value_of op rolls l) λ x. and_then (value_of op rolls r) λ y. op s x y

-- "the calls made singly in that order": a run of the calls that a tree asks for, and what it comes to; Call says what a call may tell
pub data Runs {A : Type 0} (Call : Sign → A → A → Told A → Type 0) (rolls : ℕ → A) : Tree → Told A → Type 0 where
  roll : (a : ℕ) → Runs Call rolls (letter a) (answer (rolls a))
  inside : (t : Tree) (o : Told A) → Runs Call rolls t o → Runs Call rolls (parens t) o
  left : (s : Sign) (l r : Tree) (n p : ℕ)
      → Runs Call rolls l (refused n p) → Runs Call rolls (operation s l r) (refused n p)
  right : (s : Sign) (l r : Tree) (x : A) (n p : ℕ)
      → Runs Call rolls l (answer x) → Runs Call rolls r (refused n p) → Runs Call rolls (operation s l r) (refused n p)
  call : (s : Sign) (l r : Tree) (x y : A) (o : Told A)
      → Runs Call rolls l (answer x) → Runs Call rolls r (answer y) → Call s x y o → Runs Call rolls (operation s l r) o

-- operands that wait at the same time: a left one, while the right one is worked out
unfoldable pub waiting : Tree → ℕ
waiting (letter a) = 0
waiting (parens t) = waiting t
waiting (operation s l r) = max (waiting l) (suc (waiting r))

-- three that wait at each of five depths, and the one at hand
abbrev pub slots : ℕ
slots = 16
