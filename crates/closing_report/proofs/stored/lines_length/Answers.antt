use Rattle.std.proofs.Common.{arith}
use Rattle.factorizations.proofs.stored.PieceLaws.{measured_start, measured_next, measured_end}
use Rattle.closing_report.proofs.stored.StoredLaws.{lines}
use Rattle.closing_report.proofs.stored.lines_length.Goals as goal

pub loop-i-init : goal.loop-i-init
loop-i-init c = measured_start lines _

pub loop-i-preserved : goal.loop-i-preserved
loop-i-preserved c =
    let counted = c.line_length-total.ensures in
    let size = rw c.result_of.ensures at counted.0 in
    measured_next lines _ c.loop-i.invariant c.loop-i-test.true _ size counted.1

pub returns : goal.returns
returns c = measured_end lines _ c.loop-i.invariant (omega arith)
