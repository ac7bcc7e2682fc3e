-- Invariant: the bodies of the Paulis left are left to write.
use Rattle.std.proofs.Common.{◌≤◌, length}
use Rattle.pauli.proofs.write.Puts.{Left}
use Rattle.pauli.proofs.write.Writers.{paulis_from, body_bytes}
use Rattle.pauli.specs.Signed.{paulis_in}
use Rattle.pauli.proofs.write.put_bodies.Given as goal

abbrev pub invariant-loop-words : goal.invariant-loop-words
invariant-loop-words l = (l.words-index ≤ length l.list) × Left l.initial.out l.at (body_bytes l.support (paulis_in l.list)) l.out l.next (body_bytes l.support (paulis_from l.list l.words-index))
