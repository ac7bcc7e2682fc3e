use Rattle.std.proofs.Common.{rules, ap, ◌∙◌, drop, ◌*◌, arith}
use Rattle.binar.specs.Words.{value, put_row}
use Rattle.binar.proofs.row.Bits.{bit_lt}
use Rattle.binar.proofs.row.Slice.{AreWords}
use Rattle.binar.proofs.kernel.OneRow.{row_start, row_end, pivot_narrow, row_next}
use Rattle.binar.proofs.kernel.write_kernel_row.Goals as goal

pub loop-k-init : goal.loop-k-init
loop-k-init c =
    let known : AreWords c.args.w.now = λ q. search rules in
    (known, c.unit_row.auto.w, row_start _ _ _ _ _ _ _ _ known c.requires.0 c.requires.1 _ c.unit_row.ensures)

pub add_bit-requires : goal.add_bit-requires
add_bit-requires c =
    let i = c.loop-k.invariant in (
      omega (arith, c.requires.0.room),
      pivot_narrow _ _ _ _ _ _ _ _ i.0 c.requires.0 c.requires.1 _ c.loop-k-test.true _ i.1 i.2,
      omega (arith, c.index-bit.ensures, bit_lt (value (drop (c.loop-k.k * c.args.shape.stride) c.loop-k.w)) c.args.col),
    )

pub loop-k-preserved : goal.loop-k-preserved
loop-k-preserved c =
    let i = c.loop-k.invariant in (
      i.0,
      c.add_bit.auto.w ∙ i.1,
      row_next _ _ _ _ _ _ _ _ i.0 c.requires.0 c.requires.1 _ c.loop-k-test.true _ i.1 i.2 _ _ c.index-bit.ensures c.add_bit.ensures,
    )

pub returns : goal.returns
returns c =
    let i = c.loop-k.invariant in
    i.2 ∙ ap (put_row c.args.w.now c.args.at c.args.width) (row_end _ _ _ _ _ _ _ _ i.0 c.requires.0 c.requires.1 _ c.loop-k-test.false)
