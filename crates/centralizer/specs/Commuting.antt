-- What is proved of the two calls, over their contracts: document 02, L5. Of a call nothing is known but what its `ensures` says, whatever
-- it was lent, answered and left.
use Rattle.std.specs.Prelude.{◌≡◌, List, [], ◌∷◌, ℕ, map, take, Result}
use mathlib.Core.List.{Memᴰ as Mem}
use Rattle.pauli.specs.declared.refusal.Refusal.{Refusal}
use Rattle.pauli.specs.Pauli.{Pauli, phase, anticommute}
use Rattle.pauli.specs.PauliTheorems.{PauliOn}
use Rattle.pauli.specs.Refusals.{told_of}
use Rattle.pauli.specs.Roll.{Sparse, support, read}
use Rattle.pauli.specs.Sets.{pauli_of}
use Rattle.pauli.specs.Support.{All}
use Rattle.pauli.specs.Told.{answer}
use Rattle.pauli_theory.specs.Group.{Generated}
use Rattle.pauli_group.specs.Calls.{list_bytes}
use Rattle.centralizer.specs.CallContracts.{WithinCall, OwnCall}

-- p commutes with every generator of the list
abbrev pub CommutesWithAll : List Sparse → Pauli → Type 0
CommutesWithAll gs p = All (λ g. anticommute p (pauli_of g) ≡ 0) gs

-- these bytes are a roll that generates what is on the named support and commutes with every generator
pub record Centralizes (gs : List Sparse) (named bytes : List ℕ) : Type 0 where
  pub held : List Sparse
  -- "so that the result is itself an acceptable list": none of 1 to 7 refuses it
  pub accepted : read bytes ≡ answer held
  -- its qubits are named ones, so among those of the two supports
  pub among : (q : ℕ) → Mem q (support held) → Mem q named
  -- "a Pauli on the named support is in the result exactly when it commutes with every generator", whatever its phase
  pub has : (p : Pauli) → PauliOn named p → CommutesWithAll gs p → Generated (map pauli_of held) p
  pub only : (p : Pauli) → PauliOn named p → Generated (map pauli_of held) p → CommutesWithAll gs p
  -- and no other is in it
  pub on_named : (p : Pauli) → Generated (map pauli_of held) p → PauliOn named p

pub record CentralizerCalls : Type 0 where
  pub within : (b named work out : List ℕ) (wrote : Result ℕ Refusal) (work' out' : List ℕ) → WithinCall b named work out wrote work' out'
      → (gs : List Sparse) (n : ℕ) → read b ≡ answer gs → told_of wrote ≡ answer n → Centralizes gs named (take n out')
  pub own : (b work out : List ℕ) (wrote : Result ℕ Refusal) (work' out' : List ℕ) → OwnCall b work out wrote work' out'
      → (gs : List Sparse) (n : ℕ) → read b ≡ answer gs → told_of wrote ≡ answer n → Centralizes gs (support gs) (take n out')
  -- "an empty one gives iI alone"
  pub none_named : (b work out : List ℕ) (wrote : Result ℕ Refusal) (work' out' : List ℕ) → WithinCall b [] work out wrote work' out'
      → (n : ℕ) → told_of wrote ≡ answer n → take n out' ≡ list_bytes (phase 1 ∷ [])
  -- "`centralizer_of` is `centralizer_within` the list's own support": with the same areas both tell and leave the same
  pub same : (b work out : List ℕ) (gs : List Sparse) → read b ≡ answer gs
      → (r : Result ℕ Refusal) (work' out' : List ℕ) → OwnCall b work out r work' out'
      → (s : Result ℕ Refusal) (work'' out'' : List ℕ) → WithinCall b (support gs) work out s work'' out''
      → (told_of r ≡ told_of s) × (out' ≡ out'') × (work' ≡ work'')
