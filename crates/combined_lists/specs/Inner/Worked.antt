-- What the functions that work a line out promise, for any calls, any values, and any slots that hold values.
use Rattle.std.specs.Prelude.{◌≡◌, ℕ, ◌+◌, ◌*◌, ◌≤◌, ◌<◌, Bool, true, Some, List}
use Rattle.pauli.specs.Told.{Told, answer, refused}
use Rattle.combined_lists.specs.Line.{Sign, Tree, rank, deepest, bytes_sent}
use Rattle.combined_lists.specs.Reader.{Job, atom, level, more, reading}
use Rattle.combined_lists.specs.LineCall.{deepest_line}
use Rattle.combined_lists.specs.Work.{value_of}

-- how many operands of a job wait outside parentheses
abbrev pub waits : Job → ℕ
waits atom = 0
waits (level s) = rank s
waits (more s t) = rank s

-- a job may be worked out: what it reads is there, its letters were sent, and parentheses are not too deep; three slots are taken at each depth
pub record Ready (sent : ℕ → Bool) (j : Job) (l : List ℕ) (top : ℕ) : Type 0 where
  pub depth : ℕ
  pub tree : Tree
  pub rest : List ℕ
  pub reads : reading j l ≡ Some (tree, rest)
  pub named : bytes_sent sent l ≡ true
  pub low : top + waits j ≤ 3 * depth + 3
  pub shallow : deepest depth l ≤ deepest_line

-- what waits below a slot stays
abbrev pub Kept : {A W : Type 0} → (W → ℕ → A → Type 0) → ℕ → W → W → Type 0
Kept {A} Holds top w w' = (i : ℕ) (a : A) → i < top → Holds w i a → Holds w' i a

-- its value is in the slot
pub record Worked {A W : Type 0} (op : Sign → A → A → Told A) (rolls : ℕ → A) (Holds : W → ℕ → A → Type 0)
    (j : Job) (l rest : List ℕ) (top : ℕ) (w w' : W) : Type 0 where
  pub tree : Tree
  pub value : A
  pub reads : reading j l ≡ Some (tree, rest)
  pub told : value_of op rolls tree ≡ answer value
  pub holds : Holds w' top value
  pub kept : Kept Holds top w w'

-- an operation refuses
pub record Refuses {A : Type 0} (op : Sign → A → A → Told A) (rolls : ℕ → A) (j : Job) (l : List ℕ) (number place : ℕ) : Type 0 where
  pub tree : Tree
  pub rest : List ℕ
  pub reads : reading j l ≡ Some (tree, rest)
  pub told : value_of op rolls tree ≡ refused number place

-- a roll is put into a slot
pub record Loaded {A W : Type 0} (rolls : ℕ → A) (Holds : W → ℕ → A → Type 0) (a top : ℕ) (w w' : W) : Type 0 where
  pub holds : Holds w' top (rolls a)
  pub kept : Kept Holds top w w'

-- an operation on x and y leaves its result in the left one's slot
pub record Operated {A W : Type 0} (op : Sign → A → A → Told A) (Holds : W → ℕ → A → Type 0)
    (s : Sign) (x y : A) (left : ℕ) (w w' : W) : Type 0 where
  pub value : A
  pub told : op s x y ≡ answer value
  pub holds : Holds w' left value
  pub kept : Kept Holds left w w'
