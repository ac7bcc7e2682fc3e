use Rattle.std.proofs.Common.{arith}
use Rattle.binar.proofs.echelon.Matrix.{row_in}
use Rattle.pauli.proofs.signed.SignedLaws.{stored_value}
use Rattle.pauli_group.proofs.rows.RowLaws.{rows_none, rows_all, cleared_rest, row_on, rows_step}
use Rattle.pauli_group.proofs.rows.put_rows.Goals as goal

pub loop-i-init : goal.loop-i-init
loop-i-init c = rows_none _ _ _ _ _ c.fits-w (omega (arith, c.told-w, c.args.list.inside)) c.requires.0

pub put_row-requires : goal.put_row-requires
put_row-requires c =
    let in_rows = row_in c.loop-i.i c.args.list.count c.args.stride c.loop-i-test.true in
    let rest =
    cleared_rest _ _ _ _ _ c.fits-w (omega (arith, c.told-w, c.args.list.inside)) c.requires.0 _ _ c.loop-i.invariant
    c.loop-i-test.true c.requires.1 c.requires.2 c.requires.3 _ c.clear_bits.ensures in
    let on =
    row_on _ _ _ _ _ c.fits-w (omega (arith, c.told-w, c.args.list.inside)) c.requires.0 _ _ c.loop-i.invariant
    c.loop-i-test.true c.requires.1 c.requires.2 c.requires.3 _ c.clear_bits.ensures
    _ (stored_value _ c.load-p.ensures) in
    (omega (arith, in_rows, c.requires.0, c.args.list.inside, rest.size, c.told-w), c.requires.2, on.0, on.1)

pub loop-i-preserved : goal.loop-i-preserved
loop-i-preserved c =
    rows_step _ _ _ _ _ c.fits-w (omega (arith, c.told-w, c.args.list.inside)) c.requires.0 _ _ c.loop-i.invariant
    c.loop-i-test.true c.requires.1 c.requires.2 c.requires.3 _ c.clear_bits.ensures
    _ (stored_value _ c.load-p.ensures) _ c.put_row.ensures

pub returns : goal.returns
returns c =
    rows_all _ _ _ _ _ c.fits-w (omega (arith, c.told-w, c.args.list.inside)) c.requires.0 _ _
    c.loop-i.invariant (omega arith)
