-- The exponent first, then both sets.
use Rattle.std.proofs.Common.{ℕ, eqb, sym, ap, ◌∙◌}
use Rattle.pauli.proofs.signed.SignedLaws.{sum_zero, sum_not}
use Rattle.pauli.specs.Pauli.{is_identity}
use Rattle.pauli.specs.Signed.{held}
use Rattle.pauli.proofs.signed.Pauli.is_identity.Goals as goal

pub returns-then-self-ne0 : goal.returns-then-self-ne0
unfolding held is_identity
returns-then-self-ne0 c = sym (sum_not _ _ c.if-self-ne0.true)

pub returns : goal.returns
unfolding held is_identity
returns c = c.is_zero.ensures ∙ ap (λ (x : ℕ). eqb x 0) c.bitor.ensures ∙ sym (sum_zero _ _ c.if-self-ne0.false)
