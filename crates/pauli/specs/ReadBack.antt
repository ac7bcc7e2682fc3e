-- What a call writes is read back: document 01, "Roll". So what is proved of lists of Paulis is said of bytes.
use Rattle.std.specs.Prelude.{◌≡◌, ℕ, ◌<◌, List, [], ◌∷◌, ◌++◌, map, take, slice_index_or, Result}
use Rattle.pauli.specs.Told.{answer}
use Rattle.pauli.specs.Support.{All}
use Rattle.pauli.specs.Roll.{Sparse, read, encode}
use Rattle.pauli.specs.Pauli.{Pauli, normal, times}
use Rattle.pauli.specs.Sets.{pauli_of}
use Rattle.pauli.specs.Condense.{nothing}
use Rattle.pauli.specs.JoinCalls.{Made}
use Rattle.pauli.specs.JoinContract.{JoinCall}
use Rattle.pauli.specs.ProductContract.{ProductCall}
use Rattle.pauli.specs.ProductAnswers.{made_in}
use Rattle.pauli.specs.declared.product.Multiplied.{Multiplied}
use Rattle.pauli.specs.declared.refusal.Refusal.{Refusal}
use Rattle.pauli.specs.Refusals.{told_of, told_by}

-- these bytes are an accepted roll that holds exactly these Paulis, in this order, by value
pub record Holds (bytes : List ℕ) (ps : List Pauli) : Type 0 where
  pub held : List Sparse
  pub accepted : read bytes ≡ answer held
  pub exactly : map pauli_of held ≡ map normal ps
  -- "Written rolls have exponents 0 to 3 and given 1"
  pub exponents : All (λ p. p.e < 4) held
  pub given : bytes ≡ encode held

-- joining the rolls of two lists told a size n: the first n bytes hold the left list, then the right list
abbrev pub JoiningReadBack : Type 0
JoiningReadBack =
    (l r out : List ℕ) (wrote : Result ℕ Refusal) (out' : List ℕ) (ps qs : List Sparse) (n : ℕ) → JoinCall l r out wrote out'
    → read l ≡ answer ps → read r ≡ answer qs → told_of wrote ≡ answer n → Holds (take n out') (map pauli_of (ps ++ qs))

-- the product of factor i of the one list and factor j of the other: they hold the product alone
abbrev pub ProductReadBack : Type 0
ProductReadBack =
    (l : List ℕ) (i : ℕ) (r : List ℕ) (j : ℕ) (out : List ℕ) (found : Result Multiplied Refusal) (out' : List ℕ) (ps qs : List Sparse) (m : Made)
    → ProductCall l i r j out found out' → read l ≡ answer ps → read r ≡ answer qs → told_by made_in found ≡ answer m
    → Holds (take m.bytes out') (times (pauli_of (slice_index_or ps i nothing)) (pauli_of (slice_index_or qs j nothing)) ∷ [])
