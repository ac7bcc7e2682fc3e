-- The places in either set, counted.
use Rattle.binar.specs.Row.{weight}
use Rattle.pauli.specs.Pauli.{pauli_weight}
use Rattle.pauli.specs.Signed.{held}
use Rattle.std.proofs.Common.{ap, ◌∙◌}
use Rattle.pauli.proofs.signed.Pauli.weight.Goals as goal

pub returns : goal.returns
unfolding held pauli_weight
returns c = c.weight.ensures.0 ∙ ap weight c.bitor.ensures
