-- Invariant: the entries left give what was to be told at the start.
use Rattle.std.proofs.Common.{◌≡◌, ◌*◌, ◌≤◌}
use Rattle.pauli.proofs.roll.ReaderLaws.{entries_from}
use Rattle.pauli.specs.Roll.{entries_at, check_entries}
use Rattle.pauli.proofs.roll.check_entries.Given as goal

abbrev pub invariant-loop-i : goal.invariant-loop-i
invariant-loop-i l = (l.i ≤ l.n) × (l.before ≤ 131072 * l.i) × (check_entries 0 0 (entries_at l.b 2 l.n) ≡ check_entries l.i l.before (entries_from l.b l.n l.i))
