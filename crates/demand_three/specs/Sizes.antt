-- The sizes that are told, against the calls that they speak of. Of a call nothing is known but what its `ensures` says,
-- whatever it was lent, answered and left, and with any promise, be it true or false.
use Rattle.std.specs.Prelude.{◌≡◌, List, ℕ, ◌≤◌, ◌<◌, length, take, drop, Result}
use Rattle.pauli.specs.JoinContract.{JoinCall}
use Rattle.pauli.specs.Roll.{Sparse, support, read}
use Rattle.pauli.specs.Told.{answer, refused}
use Rattle.pauli_theory.specs.Group.{Promise}
use Rattle.pauli_group.specs.CallContracts.{StandardCall, ElementsCall}
use Rattle.sizes.specs.Calls.{Joined}
use Rattle.sizes.specs.SizeContracts.{JoinedSizesCall, StandardBoundCall, PageSizeCall}
use Rattle.sizes.specs.declared.answers.JoinedSizes.{JoinedSizes}
use Rattle.pauli.specs.declared.refusal.Refusal.{Refusal}
use Rattle.sizes.specs.Answers.{sizes_in}
use Rattle.pauli.specs.Refusals.{told_by, told_of}

-- these bytes are an accepted roll of so many Paulis on so many distinct qubits
pub record RollOf (bytes : List ℕ) (count qubits : ℕ) : Type 0 where
  pub held : List Sparse
  pub accepted : read bytes ≡ answer held
  pub paulis : length held ≡ count
  pub distinct : length (support held) ≡ qubits

-- "From two rolls, give the joined roll's exact byte length, its count and its number of distinct qubits, without joining": what the
-- sizes of two rolls tell, and what joining the same rolls tells and leaves
pub record JoinedSizesLaw (found : Result JoinedSizes Refusal) (out : List ℕ) (wrote : Result ℕ Refusal) (out' : List ℕ) : Type 0 where
  -- with an output of the length told joining is not refused, and writes so many bytes and no others
  pub enough : (s : Joined) → told_by sizes_in found ≡ answer s → s.bytes ≤ length out
      → (told_of wrote ≡ answer s.bytes) × (drop s.bytes out' ≡ drop s.bytes out)
  -- with less it is refused with 12
  pub short : (s : Joined) → told_by sizes_in found ≡ answer s → length out < s.bytes → told_of wrote ≡ refused 12 0
  -- the roll that it leaves has as many Paulis and distinct qubits as told
  pub roll : (s : Joined) → told_by sizes_in found ≡ answer s → (n : ℕ) → told_of wrote ≡ answer n → RollOf (take n out') s.count s.qubits
  -- "Refusals are those that joining [..] would give, in its order, without 12", and never 9
  pub refused_alike : (n p : ℕ) → told_by sizes_in found ≡ refused n p → told_of wrote ≡ refused n p
  pub refused_only : (n p : ℕ) → told_of wrote ≡ refused n p → (n ≡ 12 → ⊥) → told_by sizes_in found ≡ refused n p
  pub never : (n p : ℕ) → told_by sizes_in found ≡ refused n p → (n ≡ 9 → ⊥) × (n ≡ 12 → ⊥)

-- "the standard roll can't exceed it, so with an output that long its standard generators never give 12": what the bound of a roll
-- tells, and what standard generators of the same roll tell
pub record StandardBoundLaw (found : Result ℕ Refusal) (work out : List ℕ) (wrote : Result ℕ Refusal) : Type 0 where
  pub enough : (bound : ℕ) → told_of found ≡ answer bound → bound ≤ length out → 4096 ≤ length work
      → (n : ℕ) × (told_of wrote ≡ answer n) × (n ≤ bound)
  -- with any work area
  pub not_12 : (bound : ℕ) → told_of found ≡ answer bound → bound ≤ length out → (p : ℕ) → told_of wrote ≡ refused 12 p → ⊥
  -- "Refusals are those that [..] standard generators [..] would give, in its order, without 12", and never 9
  pub refused_alike : (n p : ℕ) → told_of found ≡ refused n p → told_of wrote ≡ refused n p
  pub refused_only : (n p : ℕ) → told_of wrote ≡ refused n p → (n ≡ 9 → ⊥) → (n ≡ 12 → ⊥) → told_of found ≡ refused n p
  pub never : (n p : ℕ) → told_of found ≡ refused n p → (n ≡ 9 → ⊥) × (n ≡ 12 → ⊥)

-- "For a listing page of a roll give exactly how many elements it will hold": what the size of a page tells and leaves, and what the
-- listing of the same page tells and leaves
pub record PageSizeLaw (area : List ℕ) (found : Result ℕ Refusal) (area' work out : List ℕ) (wrote : Result ℕ Refusal) (work' out' : List ℕ) : Type 0 where
  -- the page that is written holds as many Paulis as told
  pub holds : (k n : ℕ) → told_of found ≡ answer k → told_of wrote ≡ answer n
      → (held : List Sparse) × (read (take n out') ≡ answer held) × (length held ≡ k)
  -- "Refusals are those that [..] listing would give, in its order, without 12", in work areas of the same length
  pub refused_alike : length area ≡ length work → (n p : ℕ) → told_of found ≡ refused n p → told_of wrote ≡ refused n p
  pub refused_only : length area ≡ length work → (n p : ℕ) → told_of wrote ≡ refused n p → (n ≡ 12 → ⊥) → told_of found ≡ refused n p
  pub never : (n p : ℕ) → told_of found ≡ refused n p → n ≡ 12 → ⊥
  -- the same work area is left alike
  pub left_alike : area ≡ work → area' ≡ work'

pub record Sizes : Type 0 where
  pub joined : (l r : List ℕ) (found : Result JoinedSizes Refusal) → JoinedSizesCall l r found
      → (out : List ℕ) (wrote : Result ℕ Refusal) (out' : List ℕ) → JoinCall l r out wrote out' → JoinedSizesLaw found out wrote out'
  pub standard : (b : List ℕ) (found : Result ℕ Refusal) → StandardBoundCall b found
      → (work out : List ℕ) (wrote : Result ℕ Refusal) (work' out' : List ℕ) → StandardCall b work out wrote work' out'
      → StandardBoundLaw found work out wrote
  pub page : (promise : Promise) (start count : ℕ) (b area : List ℕ) (found : Result ℕ Refusal) (area' : List ℕ)
      → PageSizeCall promise start count b area found area' → (work out : List ℕ) (wrote : Result ℕ Refusal) (work' out' : List ℕ)
      → ElementsCall promise start count b work out wrote work' out' → PageSizeLaw area found area' work out wrote work' out'
