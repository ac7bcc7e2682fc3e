-- What is proved of working a line out. The statements are types; their proofs, terms of them, are in proofs/work/WorkLaws.
use Rattle.std.specs.Prelude.{◌≡◌, ℕ, ◌+◌, ◌*◌, ◌≤◌, ◌<◌}
use Rattle.pauli.specs.Told.{Told}
use Rattle.combined_lists.specs.Line.{Sign, Tree, rank_of, Binds, depth_of}
use Rattle.combined_lists.specs.LineCall.{deepest_line}
use Rattle.combined_lists.specs.Work.{value_of, Runs, waiting, slots}

pub record RunLaw : Type 1 where
  -- where each call tells what op says, every run of calls comes to the tree's value
  pub one_value : {A : Type 0} (op : Sign → A → A → Told A) (Call : Sign → A → A → Told A → Type 0) (rolls : ℕ → A)
      → ((s : Sign) (x y : A) (o : Told A) → Call s x y o → o ≡ op s x y) → (t : Tree) (o : Told A) → Runs Call rolls t o → o ≡ value_of op rolls t

pub record WaitingLaw : Type 0 where
  -- one for each sign of a level, and three for each pair of parentheses
  pub by_depth : (t : Tree) → Binds t → waiting t ≤ rank_of t + 3 * depth_of t
  -- so those that wait and the one at hand have slots
  pub fits : (t : Tree) → Binds t → depth_of t ≤ deepest_line → waiting t < slots
