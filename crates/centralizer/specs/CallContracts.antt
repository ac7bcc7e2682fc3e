-- What each call promises: its answer, the output at exit and the work area at exit, by what it was lent.
use Rattle.std.specs.Prelude.{◌≡◌, ◌<◌, ◌^◌, List, ℕ, length, Result}
use Rattle.pauli.specs.Support.{All}
use Rattle.pauli.specs.Writing.{told_bytes, left_in}
use Rattle.pauli.specs.declared.refusal.Refusal.{Refusal}
use Rattle.pauli.specs.Refusals.{told_of}
use Rattle.pauli_group.specs.WorkArea.{area_after}
use Rattle.centralizer.specs.Calls.{within_checked, within_call, own_checked, own_call}

-- the named support is a list of numbers, lent as they are: "32-bit numbers", whatever is told
pub record WithinCall (b named work out : List ℕ) (r : Result ℕ Refusal) (work' out' : List ℕ) : Type 0 where
  pub numbers : All (λ q. q < 2 ^ 32) named
  pub told : told_of r ≡ told_bytes (within_call b named (length work)) out
  pub left : out' ≡ left_in (within_call b named (length work)) out
  pub area : work' ≡ area_after (within_checked b named (length work)) work

pub record OwnCall (b work out : List ℕ) (r : Result ℕ Refusal) (work' out' : List ℕ) : Type 0 where
  pub told : told_of r ≡ told_bytes (own_call b (length work)) out
  pub left : out' ≡ left_in (own_call b (length work)) out
  pub area : work' ≡ area_after (own_checked b (length work)) work
