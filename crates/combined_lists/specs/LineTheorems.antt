-- What is proved of lines. The statement is a type; its proof, a term of it, is in proofs/line/LineLaws.
use Rattle.std.specs.Prelude.{◌≡◌, ◌↔◌, ℕ, ◌≤◌, ◌<◌, Bool, true, Some, None, List, length}
use Rattle.pauli.specs.Told.{answer, refused}
use Rattle.combined_lists.specs.Line.{Tree, bytes_of, Binds, depth_of, all_sent, deepest, bytes_sent}
use Rattle.combined_lists.specs.Reader.{tree_of}
use Rattle.combined_lists.specs.LineCall.{longest_line, deepest_line, line_told}

-- t is a tree whose signs bind by the rules, and these are its bytes
pub record Reads (l : List ℕ) (t : Tree) : Type 0 where
  pub binds : Binds t
  pub bytes : bytes_of t ≡ l

-- a line that is not too long, ill-formed, nor names a roll that was not sent
pub record Legal (sent : ℕ → Bool) (l : List ℕ) (t : Tree) : Type 0 where
  pub reads : Reads l t
  pub fits : length l ≤ longest_line
  pub named : all_sent sent t ≡ true

pub record LineLaw : Type 0 where
  -- "every well-formed line has one reading": two trees with the same bytes are the same tree
  pub one_reading : (l : List ℕ) (t u : Tree) → Reads l t → Reads l u → t ≡ u
  -- the reader finds it, and finds none exactly where a line is no tree's bytes
  pub read_back : (t : Tree) → Binds t → tree_of (bytes_of t) ≡ Some t
  pub well_formed : (l : List ℕ) (t : Tree) → (tree_of l ≡ Some t) ↔ Reads l t
  pub ill_formed : (l : List ℕ) → (tree_of l ≡ None) ↔ ((t : Tree) → Reads l t → ⊥)
  -- depth and letters are those of the bytes
  pub depth : (l : List ℕ) (t : Tree) → Reads l t → depth_of t ≡ deepest 0 l
  pub letters : (sent : ℕ → Bool) (l : List ℕ) (t : Tree) → Reads l t → all_sent sent t ≡ bytes_sent sent l
  -- "14 for a line that is empty, too long, ill-formed or names a roll that was not sent"
  pub fourteen : (sent : ℕ → Bool) (l : List ℕ) → (line_told sent l ≡ refused 14 0) ↔ ((t : Tree) → Legal sent l t → ⊥)
  -- "15 for parentheses deeper than 4 .. 14 first"
  pub fifteen : (sent : ℕ → Bool) (l : List ℕ) → (line_told sent l ≡ refused 15 0) ↔ ((t : Tree) × Legal sent l t × (deepest_line < depth_of t))
  pub accepted : (sent : ℕ → Bool) (l : List ℕ) (t : Tree) → (line_told sent l ≡ answer t) ↔ (Legal sent l t × (depth_of t ≤ deepest_line))
