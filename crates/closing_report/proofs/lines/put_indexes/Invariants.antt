-- Invariant: the text of the indexes that are still to come is left to put.
use Rattle.pauli.proofs.write.Puts.{Left}
use Rattle.pauli.specs.Sets.{members}
use Rattle.pauli.specs.PlaceSet.{set_in}
use Rattle.closing_report.specs.Lines.{indexes_text}
use Rattle.closing_report.proofs.lines.put_indexes.Given as goal

abbrev pub invariant-loop-p : goal.invariant-loop-p
invariant-loop-p l =
    (goal.iterator-loop-p).can_next l.p-iterator × (goal.iterator-loop-p).is_finite l.p-iterator
    × Left l.initial.out l.at (indexes_text (members (set_in l.fn.set))) l.out l.next (indexes_text l.p-iterator)
