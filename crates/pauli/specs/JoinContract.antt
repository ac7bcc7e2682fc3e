-- What joining promises: the `ensures` of `join`.
use Rattle.std.specs.Prelude.{◌≡◌, ℕ, List, Result}
use Rattle.pauli.specs.Writing.{told_bytes, left_in}
use Rattle.pauli.specs.JoinCalls.{join_of}
use Rattle.pauli.specs.declared.refusal.Refusal.{Refusal}
use Rattle.pauli.specs.Refusals.{told_of}

-- the length of the joined roll is told, or the refusal; the output is left with the roll's bytes at its front, or alone
pub record JoinCall (a b out : List ℕ) (r : Result ℕ Refusal) (out' : List ℕ) : Type 0 where
  pub told : told_of r ≡ told_bytes (join_of a b) out
  pub left : out' ≡ left_in (join_of a b) out
