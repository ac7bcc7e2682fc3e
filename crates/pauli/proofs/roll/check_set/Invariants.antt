-- Invariant: the numbers left give what was to be told at the start.
use Rattle.std.proofs.Common.{◌≡◌, ◌≤◌, length}
use Rattle.pauli.proofs.support.Walk.{numbers_from}
use Rattle.pauli.specs.Bytes.{u32s_in}
use Rattle.pauli.specs.Roll.{check_set}
use Rattle.pauli.proofs.roll.check_set.Given as goal

abbrev pub invariant-loop-bytes : goal.invariant-loop-bytes
invariant-loop-bytes l = (l.bytes-index ≤ length l.numbers) × (check_set l.i 0 (u32s_in l.numbers) ≡ check_set l.i l.least (numbers_from l.numbers l.bytes-index))
