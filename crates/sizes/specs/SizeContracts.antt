-- What each call promises: its answer, and the work area at exit, by what it was lent.
use Rattle.std.specs.Prelude.{◌≡◌, List, ℕ, length, Result}
use Rattle.pauli_theory.specs.Group.{Promise}
use Rattle.pauli_group.specs.WorkArea.{area_after}
use Rattle.pauli_group.specs.Calls.{one_list}
use Rattle.sizes.specs.Calls.{joined_sizes, standard_bound, page_call}
use Rattle.sizes.specs.declared.answers.JoinedSizes.{JoinedSizes}
use Rattle.pauli.specs.declared.refusal.Refusal.{Refusal}
use Rattle.sizes.specs.Answers.{sizes_in}
use Rattle.pauli.specs.Refusals.{told_by, told_of}

pub record JoinedSizesCall (l r : List ℕ) (found : Result JoinedSizes Refusal) : Type 0 where
  pub told : told_by sizes_in found ≡ joined_sizes l r

pub record StandardBoundCall (b : List ℕ) (found : Result ℕ Refusal) : Type 0 where
  pub told : told_of found ≡ standard_bound b

-- the work area is left as the listing leaves it
pub record PageSizeCall (promise : Promise) (start count : ℕ) (b work : List ℕ) (found : Result ℕ Refusal) (work' : List ℕ) : Type 0 where
  pub told : told_of found ≡ page_call promise start count b (length work)
  pub area : work' ≡ area_after (one_list b (length work)) work
