use Rattle.std.proofs.Common.{◌∙◌}
use Rattle.pauli_group.proofs.area.AreaLaws.{cleared_whole}
use Rattle.pauli_group.proofs.area.clear.Goals as goal

pub returns : goal.returns
returns c = λ work long. c.clear_bits.ensures ∙ cleared_whole _ work c.told-w long
