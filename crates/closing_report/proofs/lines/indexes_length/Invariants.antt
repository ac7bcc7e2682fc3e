-- Invariant: the text of the indexes is counted but for those that are still to come.
use Rattle.pauli.specs.PlaceSet.{set_in}
use Rattle.closing_report.proofs.lines.IndexLaws.{Counted}
use Rattle.closing_report.proofs.lines.indexes_length.Given as goal

abbrev pub invariant-loop-p : goal.invariant-loop-p
invariant-loop-p l =
    (goal.iterator-loop-p).can_next l.p-iterator × (goal.iterator-loop-p).is_finite l.p-iterator × Counted (set_in l.fn.set) l.p-iterator l.total
