use Rattle.std.proofs.Common.{arith}
use Rattle.pauli.proofs.write.Puts.{left_start}
use Rattle.factorizations.proofs.stored.PieceLaws.{pieces_start, pieces_put, piece_fits, piece_put}
use Rattle.closing_report.proofs.stored.StoredLaws.{lines}
use Rattle.closing_report.proofs.stored.put_lines.Goals as goal

pub loop-i-init : goal.loop-i-init
loop-i-init c = (omega arith, left_start _ _ _ _ (pieces_start lines _) c.requires)

pub put_line-next-requires : goal.put_line-next-requires
put_line-next-requires c = rw c.result_of.ensures (piece_fits lines _ _ c.loop-i.invariant.1 c.loop-i-test.true)

pub loop-i-preserved : goal.loop-i-preserved
loop-i-preserved c =
    let put = c.put_line-next in
    let written = rw c.result_of.ensures at put.ensures in
    (omega arith, piece_put lines _ _ c.loop-i.invariant.1 c.loop-i-test.true _ _ written put.auto.out)

pub returns : goal.returns
returns c = pieces_put lines _ _ c.loop-i.invariant.1 (omega arith)
