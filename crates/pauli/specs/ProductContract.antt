-- What a product promises: the `ensures` of `product`.
use Rattle.std.specs.Prelude.{◌≡◌, ℕ, List, Result}
use Rattle.pauli.specs.Writing.{left_in}
use Rattle.pauli.specs.JoinCalls.{product_of, made_of}
use Rattle.pauli.specs.declared.product.Multiplied.{Multiplied}
use Rattle.pauli.specs.declared.refusal.Refusal.{Refusal}
use Rattle.pauli.specs.ProductAnswers.{made_in}
use Rattle.pauli.specs.Refusals.{told_by}

-- factor i of the roll a times factor j of the roll b: the length of the product's roll is told and whether the factors anticommute, or
-- the refusal; the output is left with the roll's bytes at its front, or alone
pub record ProductCall (a : List ℕ) (i : ℕ) (b : List ℕ) (j : ℕ) (out : List ℕ) (r : Result Multiplied Refusal) (out' : List ℕ) : Type 0 where
  pub told : told_by made_in r ≡ made_of a i b j out
  pub left : out' ≡ left_in (product_of a i b j) out
