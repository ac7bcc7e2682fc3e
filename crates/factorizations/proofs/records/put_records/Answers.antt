use Rattle.std.proofs.Common.{arith}
use Rattle.pauli.proofs.write.Puts.{left_start}
use Rattle.factorizations.proofs.records.RecordLaws.{records}
use Rattle.factorizations.proofs.stored.PieceLaws.{pieces_start, pieces_put, piece_fits, piece_put}
use Rattle.factorizations.proofs.records.put_records.Goals as goal

pub loop-words-init : goal.loop-words-init
loop-words-init c = (omega arith, left_start _ _ _ _ (pieces_start records _) (omega (arith, c.requires)))

pub put_record-next-requires : goal.put_record-next-requires
put_record-next-requires c = rw c.result_of.ensures (piece_fits records _ _ c.loop-words.invariant.1 c.loop-words-test.true)

pub loop-words-preserved : goal.loop-words-preserved
loop-words-preserved c =
    let written = rw c.result_of.ensures at c.put_record-next.ensures in
    (omega arith, piece_put records _ _ c.loop-words.invariant.1 c.loop-words-test.true _ _ written c.put_record-next.auto.out)

pub returns : goal.returns
returns c = pieces_put records _ _ c.loop-words.invariant.1 (omega arith)
