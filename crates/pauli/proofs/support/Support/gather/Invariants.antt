-- Invariant: what is left to note gives what was to be noted at the start.
use Rattle.pauli.specs.Bytes.{u32s_in}
use Rattle.pauli.proofs.support.Walk.{Walking}
use Rattle.pauli.proofs.support.Support.gather.Given as goal

abbrev pub invariant-loop-bytes : goal.invariant-loop-bytes
invariant-loop-bytes l = Walking (u32s_in l.numbers) l.initial.self l.self l.from.0 l.last.0 l.bytes-index
