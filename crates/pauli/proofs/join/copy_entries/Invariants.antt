-- Invariant: the entries of the Paulis from number i on are left to write.
use Rattle.std.proofs.Common.{◌≡◌, ◌+◌, ◌*◌, ◌≤◌, map, drop, length}
use Rattle.pauli.proofs.write.Puts.{Left}
use Rattle.pauli.specs.Roll.{by_value, table, numbers}
use Rattle.pauli.specs.Condense.{list_of}
use Rattle.pauli.proofs.join.copy_entries.Given as goal

abbrev pub invariant-loop-i : goal.invariant-loop-i
invariant-loop-i l =
    (l.i ≤ l.roll.count) × (l.start ≤ l.before + 131072 * l.i)
    × (l.start + length (numbers (drop l.i (list_of l.roll.bytes.now))) ≡ l.before + length (numbers (drop l.from (list_of l.roll.bytes.now))))
    × Left l.initial.out l.at (table l.before (map by_value (drop l.from (list_of l.roll.bytes.now)))) l.out l.to (table l.start (map by_value (drop l.i (list_of l.roll.bytes.now))))
