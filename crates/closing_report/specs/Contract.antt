-- What the call promises: its answer, the output at exit and the work area at exit, by what it was lent.
use Rattle.std.specs.Prelude.{◌≡◌, List, ℕ, length, Result}
use Rattle.pauli.specs.Writing.{told_bytes, left_in}
use Rattle.pauli_group.specs.WorkArea.{area_after}
use Rattle.closing_report.specs.Listing.{listing}
use Rattle.pauli.specs.declared.refusal.Refusal.{Refusal}
use Rattle.pauli.specs.Refusals.{told_of}

pub record ReportCall (input work out : List ℕ) (r : Result ℕ Refusal) (work' out' : List ℕ) : Type 0 where
  pub told : told_of r ≡ told_bytes (listing input (length work)) out
  pub left : out' ≡ left_in (listing input (length work)) out
  -- the first 4,096 words are zero at the end unless the area was too short: `listing` is refused (9) there and nowhere else
  pub area : work' ≡ area_after (listing input (length work)) work
