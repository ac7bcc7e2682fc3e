-- The exponents wrap at 256; the rest is by the two sets.
use Rattle.pauli.proofs.signed.Algebra.{pauli_path}
use Rattle.pauli.proofs.signed.SignedLaws.{wrap_sum}
use Rattle.pauli.specs.Signed.{held, times_stored}
use Rattle.pauli.proofs.signed.Pauli.times.Goals as goal

pub returns-clause-pauli : goal.returns-clause-pauli
unfolding held times_stored
returns-clause-pauli c = pauli_path (wrap_sum _ _ _ _ c.cross-crossed.ensures.sign.0) c.bitxor.ensures c.bitxor-2.ensures
