-- Invariant: the lines of the elements below i are counted.
use Rattle.factorizations.proofs.stored.PieceLaws.{Measured}
use Rattle.closing_report.proofs.stored.StoredLaws.{lines}
use Rattle.closing_report.proofs.stored.lines_length.Given as goal

abbrev pub invariant-loop-i : goal.invariant-loop-i
invariant-loop-i l = Measured lines l.results l.i l.total
