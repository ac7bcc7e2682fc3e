-- Invariant: the phases below exponent k are appended.
use Rattle.pauli_group.specs.Inner.Lists.{step_told}
use Rattle.pauli_group.proofs.common.SharedLaws.{PhasesUpTo}
use Rattle.pauli_group.proofs.common.append_phases.Given as goal

abbrev pub invariant-loop-k : goal.invariant-loop-k
invariant-loop-k l = PhasesUpTo l.list.base (step_told l.fn.first) (step_told l.fn.second) l.list.count l.initial.w l.k l.total l.w
