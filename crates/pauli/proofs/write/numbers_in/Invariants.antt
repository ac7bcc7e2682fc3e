-- Invariant: the numbers counted and those of the Paulis left are those of all.
use Rattle.std.proofs.Common.{◌≡◌, ◌+◌, ◌*◌, ◌≤◌, length}
use Rattle.pauli.proofs.write.Writers.{paulis_from}
use Rattle.pauli.specs.Signed.{paulis_in}
use Rattle.pauli.specs.Writing.{numbers_of}
use Rattle.pauli.proofs.write.numbers_in.Given as goal

abbrev pub invariant-loop-words : goal.invariant-loop-words
invariant-loop-words l = (l.words-index ≤ length l.list) × (l.total ≤ 256 * l.words-index) × (numbers_of (paulis_in l.list) ≡ l.total + numbers_of (paulis_from l.list l.words-index))
