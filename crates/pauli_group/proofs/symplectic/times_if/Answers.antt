-- The product where the two anticommute, else the Pauli itself.
use Rattle.std.proofs.Common.{sym, ◌∙◌, eqb-true}
use borrow.Author.Tests.{eqb-false}
use Rattle.pauli.proofs.signed.SignedLaws.{zero_bit}
use Rattle.pauli.proofs.signed.Algebra.{anticommute_lt}
use Rattle.pauli_group.proofs.symplectic.PairLaws.{times_hit, times_miss}
use Rattle.pauli_group.proofs.symplectic.times_if.Goals as goal

pub returns-then-times : goal.returns-then-times
returns-then-times c = times_hit _ _ _ (eqb-true _ 1 (sym c.times.ensures.anticommute ∙ c.if-times.true)) _ c.times-then-times.ensures.pauli

pub returns : goal.returns
returns c = times_miss _ _ _ (zero_bit _ (anticommute_lt _ _) (eqb-false _ 1 (sym c.times.ensures.anticommute ∙ c.if-times.false)))
