-- Invariant: the first i of at most 128 Paulis are stored.
use Rattle.std.proofs.Common.{◌≤◌}
use Rattle.pauli.specs.Condense.{list_of}
use Rattle.pauli_group.proofs.list.ListLaws.{StoredUpTo}
use Rattle.centralizer.specs.Stacked.{stacked_at, exchanged_over}
use Rattle.centralizer.proofs.stacked.read_exchanged.Given as goal

abbrev pub invariant-loop-i : goal.invariant-loop-i
invariant-loop-i l =
    (l.roll.count ≤ 128) × StoredUpTo (exchanged_over l.own) (list_of l.roll.bytes.now) stacked_at l.roll.count l.initial.w l.i l.w
