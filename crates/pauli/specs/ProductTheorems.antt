-- What the bit of a product says: document 02, "whether its factors anticommute". Of a call nothing is known but what its `ensures` says,
-- whatever it was lent, answered and left; its factors are the Paulis that the two rolls hold.
use Rattle.std.specs.Prelude.{◌≡◌, ℕ, ◌+◌, ◌%◌, true, false, List, [], ◌∷◌, take, slice_index_or, Result}
use Rattle.std.specs.Int.Bits.{bit_and}
use Rattle.binar.specs.Row.{weight}
use Rattle.pauli.specs.declared.product.Multiplied.{Multiplied}
use Rattle.pauli.specs.declared.refusal.Refusal.{Refusal}
use Rattle.pauli.specs.Refusals.{told_by}
use Rattle.pauli.specs.ProductAnswers.{made_in}
use Rattle.pauli.specs.Told.{answer}
use Rattle.pauli.specs.Roll.{Sparse, read}
use Rattle.pauli.specs.Pauli.{Pauli, Same, turned}
use Rattle.pauli.specs.Sets.{pauli_of}
use Rattle.pauli.specs.Condense.{nothing}
use Rattle.pauli.specs.JoinCalls.{Made}
use Rattle.pauli.specs.ProductContract.{ProductCall}
use Rattle.pauli.specs.ReadBack.{Holds}

-- a call for the product of factor i of the roll l and factor j of the roll r that was answered
pub record Multiplication (l : List ℕ) (i : ℕ) (r : List ℕ) (j : ℕ) : Type 0 where
  pub out : List ℕ
  pub found : Result Multiplied Refusal
  pub out' : List ℕ
  pub call : ProductCall l i r j out found out'
  pub made : Made
  pub told : told_by made_in found ≡ answer made

-- the bytes that it wrote hold the Pauli p alone
abbrev pub Gave : {l : List ℕ} {i : ℕ} {r : List ℕ} {j : ℕ} → Multiplication l i r j → Pauli → Type 0
Gave c p = Holds (take c.made.bytes c.out') (p ∷ [])

-- how many qubits x and v share, and z and u, together
unfoldable pub overlap : Pauli → Pauli → ℕ
overlap p q = weight (bit_and p.x q.z) + weight (bit_and p.z q.x)

-- a product of the Paulis p and q tells that they anticommute exactly when "x with v and z with u have odd total overlap"
pub record OverlapLaw (l : List ℕ) (i : ℕ) (r : List ℕ) (j : ℕ) (c : Multiplication l i r j) (p q : Pauli) : Type 0 where
  pub told_odd : c.made.anticommute ≡ true → overlap p q % 2 ≡ 1
  pub odd_told : overlap p q % 2 ≡ 1 → c.made.anticommute ≡ true

-- a product and the one in the other order
pub record OrderLaw (l : List ℕ) (i : ℕ) (r : List ℕ) (j : ℕ) (c : Multiplication l i r j) (d : Multiplication r j l i) : Type 0 where
  -- both tell the same
  pub either : c.made.anticommute ≡ d.made.anticommute
  -- they gave the same Pauli exactly when the factors are told to commute
  pub commute_same : (p q : Pauli) → Gave c p → Gave d q → c.made.anticommute ≡ false → Same p q
  pub same_commute : (p q : Pauli) → Gave c p → Gave d q → Same p q → c.made.anticommute ≡ false
  -- and the same up to a minus sign exactly when they are told to anticommute
  pub anticommute_minus : (p q : Pauli) → Gave c p → Gave d q → c.made.anticommute ≡ true → Same p (turned 2 q)
  pub minus_anticommute : (p q : Pauli) → Gave c p → Gave d q → Same p (turned 2 q) → c.made.anticommute ≡ true

pub record ProductLaw : Type 0 where
  pub overlaps : (l : List ℕ) (i : ℕ) (r : List ℕ) (j : ℕ) (c : Multiplication l i r j) (ps qs : List Sparse)
      → read l ≡ answer ps → read r ≡ answer qs → OverlapLaw l i r j c (pauli_of (slice_index_or ps i nothing)) (pauli_of (slice_index_or qs j nothing))
  pub orders : (l : List ℕ) (i : ℕ) (r : List ℕ) (j : ℕ) (c : Multiplication l i r j) (d : Multiplication r j l i) → OrderLaw l i r j c d
