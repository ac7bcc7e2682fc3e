-- What is proved of the centralizer, for every list of Paulis and every list of named qubits. The proof is in proofs/.
use Rattle.std.specs.Prelude.{◌≡◌, List, [], ◌∷◌, ℕ, ◌+◌, ◌*◌, ◌≤◌, ◌<◌, length}
use Rattle.pauli.specs.Support.{All, Rising, insert_all}
use Rattle.pauli.specs.Pauli.{Pauli, phase, anticommute}
use Rattle.pauli.specs.PauliTheorems.{PauliOn}
use Rattle.pauli_theory.specs.Group.{Generated}
use Rattle.pauli_theory.specs.Standard.{support_of}
use Rattle.pauli_theory.specs.Centralizer.{centralizer_within}

pub record CentralizerLaw (named : List ℕ) (gs : List Pauli) : Type 0 where
  -- "a Pauli on the named support is in the result exactly when it commutes with every generator"; and no other is in it
  pub sound : (p : Pauli) → Generated (centralizer_within named gs) p → PauliOn named p × All (λ g. anticommute p g ≡ 0) gs
  pub complete : (p : Pauli) → PauliOn named p → All (λ g. anticommute p g ≡ 0) gs → Generated (centralizer_within named gs) p
  pub on_named : All (PauliOn named) (centralizer_within named gs)
  pub values : All (λ p. p.e < 4) (centralizer_within named gs)
  -- two generators for each qubit of the two supports, at most, and iI
  pub count : Rising 0 named → length (centralizer_within named gs) ≤ 2 * length (insert_all named (support_of gs)) + 1
  -- "an empty one gives iI alone"
  pub none_named : named ≡ [] → centralizer_within named gs ≡ phase 1 ∷ []
