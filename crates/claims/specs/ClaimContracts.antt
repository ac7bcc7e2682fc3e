-- What each call promises: its answer, and the work area at exit, by what it was lent.
use Rattle.std.specs.Prelude.{◌≡◌, ◌<◌, ◌^◌, Bool, List, ℕ, length, Result}
use Rattle.pauli.specs.Refusals.{told_of}
use Rattle.pauli.specs.Support.{All}
use Rattle.pauli.specs.declared.refusal.Refusal.{Refusal}
use Rattle.pauli_theory.specs.Group.{Promise}
use Rattle.pauli_group.specs.WorkArea.{area_after}
use Rattle.claims.specs.Calls.{member_checked, member_call, absence_call}

-- the indexes are a list of numbers, lent as they are: "16-bit indexes, as numbers and not bytes", whatever is told
pub record MembershipClaim (promise : Promise) (b e : List ℕ) (n : ℕ) (indexes : List ℕ) (exponent : ℕ) (work : List ℕ) (r : Result Bool Refusal) (work' : List ℕ) : Type 0 where
  pub numbers : All (λ i. i < 2 ^ 16) indexes
  pub told : told_of r ≡ member_call promise b e n (record { indexes = indexes; exponent = exponent }) (length work)
  pub area : work' ≡ area_after (member_checked b e n (record { indexes = indexes; exponent = exponent }) (length work)) work

pub record AbsenceClaim (b e : List ℕ) (n : ℕ) (ws : List ℕ) (m : ℕ) (r : Result Bool Refusal) : Type 0 where
  pub told : told_of r ≡ absence_call b e n ws m
