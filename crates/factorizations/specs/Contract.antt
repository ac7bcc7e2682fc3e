-- What the call promises: its answer, the output at exit and the work area at exit, by what it was lent.
use Rattle.std.specs.Prelude.{◌≡◌, List, ℕ, length, Result}
use Rattle.pauli.specs.Told.{map_told}
use Rattle.pauli.specs.Writing.{left_in}
use Rattle.pauli_theory.specs.Group.{Promise}
use Rattle.pauli_group.specs.WorkArea.{area_after}
use Rattle.factorizations.specs.Calls.{questions, factorizations_call, told_results}
use Rattle.factorizations.specs.Records.{results_bytes}
use Rattle.pauli.specs.declared.refusal.Refusal.{Refusal}
use Rattle.factorizations.specs.declared.answers.Results.{Results}
use Rattle.pauli.specs.Refusals.{told_by}
use Rattle.factorizations.specs.Answers.{totals_in}

-- all elements of the roll e, put to the generators of the roll b
pub record FactorizationsCall (promise : Promise) (b e work out : List ℕ) (r : Result Results Refusal) (work' out' : List ℕ) : Type 0 where
  pub told : told_by totals_in r ≡ told_results (factorizations_call promise b e (length work)) out
  pub left : out' ≡ left_in (map_told results_bytes (factorizations_call promise b e (length work))) out
  pub area : work' ≡ area_after (questions b e (length work)) work
