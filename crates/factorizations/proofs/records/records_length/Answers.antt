use Rattle.std.proofs.Common.{arith}
use Rattle.factorizations.proofs.records.RecordLaws.{records}
use Rattle.factorizations.proofs.stored.PieceLaws.{measured_start, measured_next, measured_end}
use Rattle.factorizations.proofs.records.records_length.Goals as goal

pub loop-words-init : goal.loop-words-init
loop-words-init c = measured_start records _

pub loop-words-preserved : goal.loop-words-preserved
loop-words-preserved c =
    let counted = c.record_length-total.ensures in
    let size = rw c.result_of.ensures at counted.0 in
    measured_next records _ c.loop-words.invariant c.loop-words-test.true _ size counted.1

pub returns : goal.returns
returns c = measured_end records _ c.loop-words.invariant (omega arith)
