-- What the call on a line promises: its answer, the output at exit and the work area at exit, by what it was lent.
use Rattle.std.specs.Prelude.{◌≡◌, ℕ, List, length, Result}
use Rattle.pauli.specs.Refusals.{told_of}
use Rattle.pauli.specs.Writing.{told_bytes, left_in}
use Rattle.pauli.specs.declared.refusal.Refusal.{Refusal}
use Rattle.combined_lists.specs.Combining.{checked_line, combine_call, line_area_after}

pub record CombineCall (l : List ℕ) (rolls : List (List ℕ)) (work out : List ℕ) (wrote : Result ℕ Refusal) (work' out' : List ℕ) : Type 0 where
  pub told : told_of wrote ≡ told_bytes (combine_call l rolls (length work)) out
  pub written : out' ≡ left_in (combine_call l rolls (length work)) out
  pub area : work' ≡ line_area_after (checked_line l rolls (length work)) work
