use Rattle.std.proofs.Common.{rules}
use Rattle.pauli_theory.specs.Standard.{if_zero}
use Rattle.pauli_group.proofs.standard.phases_for.Goals as goal

pub returns-then-imaginary : goal.returns-then-imaginary
unfolding if_zero
returns-then-imaginary c = search rules

pub returns-then-stabilizer : goal.returns-then-stabilizer
unfolding if_zero
returns-then-stabilizer c = search rules

pub returns-else-stabilizer : goal.returns-else-stabilizer
unfolding if_zero
returns-else-stabilizer c = search rules
