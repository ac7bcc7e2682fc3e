-- Both sets are empty.
use Rattle.pauli.proofs.signed.Algebra.{pauli_path}
use Rattle.pauli.specs.Pauli.{I}
use Rattle.pauli.specs.Signed.{held}
use Rattle.std.proofs.Common.{refl}
use Rattle.pauli.proofs.signed.Pauli.identity.Goals as goal

pub returns : goal.returns
unfolding held I
returns c = pauli_path refl c.none.ensures c.none-2.ensures
