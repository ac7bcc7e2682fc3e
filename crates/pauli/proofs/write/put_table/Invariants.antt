-- Invariant: the entries of the Paulis from number i on are left to write.
use Rattle.std.proofs.Common.{◌+◌, ◌*◌, ◌≤◌, length}
use Rattle.pauli.proofs.write.Puts.{Left}
use Rattle.pauli.proofs.write.Writers.{paulis_from}
use Rattle.pauli.specs.Signed.{paulis_in}
use Rattle.pauli.specs.Writing.{table_of}
use Rattle.pauli.proofs.write.put_table.Given as goal

abbrev pub invariant-loop-i : goal.invariant-loop-i
invariant-loop-i l = (l.i ≤ length l.list) × (l.before ≤ 256 * l.i) × Left l.initial.out 2 (table_of 0 (paulis_in l.list)) l.out (2 + 10 * l.i) (table_of l.before (paulis_from l.list l.i))
