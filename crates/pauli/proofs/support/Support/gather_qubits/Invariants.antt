-- Invariant: what is left to note gives what was to be noted at the start.
use Rattle.pauli.proofs.support.Walk.{Walking}
use Rattle.pauli.proofs.support.Support.gather_qubits.Given as goal

abbrev pub invariant-loop-number : goal.invariant-loop-number
invariant-loop-number l = Walking l.qubits l.initial.self l.self l.from.0 l.last.0 l.number-index
