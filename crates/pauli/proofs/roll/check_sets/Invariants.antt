-- Invariant: the sets left give what was to be told at the start, and their bodies fill the roll.
use Rattle.std.proofs.Common.{◌≡◌, ◌+◌, ◌*◌}
use Rattle.pauli.proofs.roll.ReaderLaws.{Filled, sets_from}
use Rattle.pauli.specs.Roll.{entries_at, paulis_at, check_sets}
use Rattle.pauli.proofs.roll.check_sets.Given as goal

abbrev pub invariant-loop-i : goal.invariant-loop-i
invariant-loop-i l = Filled l.b l.n l.at l.i × (check_sets 0 (paulis_at l.b (2 + 10 * l.n) (entries_at l.b 2 l.n)) ≡ sets_from l.b l.n l.at l.i)
