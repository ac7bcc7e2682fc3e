use Rattle.std.proofs.Common.{refl}
use Rattle.pauli.specs.Signed.{held}
use Rattle.pauli_theory.specs.Common.{with_exponent}
use Rattle.pauli_group.proofs.whole.with_exponent.Goals as goal

pub returns : goal.returns
unfolding held with_exponent
returns c = refl
