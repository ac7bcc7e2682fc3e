use Rattle.std.proofs.Common.{refl, sym, ap, ◌∙◌, length, arith}
use Rattle.binar.specs.Words.{put_rows}
use Rattle.binar.proofs.row.Slice.{AreWords}
use Rattle.binar.proofs.kernel.AllRows.{rows_start, rows_end, few, row_room, room_here, tested, pivot_passed, row_written}
use Rattle.binar.proofs.kernel.write_kernel.Goals as goal
use Rattle.binar.proofs.kernel.write_kernel.Goals.{then-not-contains, else-not-contains}

pub loop-col-init : goal.loop-col-init
loop-col-init c =
    let known : AreWords c.args.w.now = λ q. (c.type_inv.w q).fits in
    let n = few c.args.w.now c.args.shape.stride c.args.shape.rows c.args.shape.cols c.args.rank c.args.at c.args.width 0 in
    (known, refl, rows_start _ _ _ c.args.shape.cols _ _ _, omega arith)

pub overflow_mul-count : goal.overflow_mul-count
overflow_mul-count c =
    let n = few c.args.w.now c.args.shape.stride c.args.shape.rows c.args.shape.cols c.args.rank c.args.at c.args.width c.loop-col.col in
    omega (arith, row_room _ _ _ _ _ _ _ c.requires _ c.loop-col.count c.loop-col-test.true (omega (arith, c.loop-col.invariant.3)))

pub overflow_add-at : goal.overflow_add-at
overflow_add-at c =
    let n = few c.args.w.now c.args.shape.stride c.args.shape.rows c.args.shape.cols c.args.rank c.args.at c.args.width c.loop-col.col in
    omega (arith, row_room _ _ _ _ _ _ _ c.requires _ c.loop-col.count c.loop-col-test.true (omega (arith, c.loop-col.invariant.3)))

pub write_kernel_row-requires : goal.write_kernel_row-requires
write_kernel_row-requires c =
    let i = c.loop-col.invariant in
    (room_here _ _ _ _ _ _ _ c.requires _ c.loop-col-test.true _ i.1 i.2 _ i.3, omega arith)

pub overflow_add-count : goal.overflow_add-count
overflow_add-count c =
    let n = few c.args.w.now c.args.shape.stride c.args.shape.rows c.args.shape.cols c.args.rank c.args.at c.args.width c.loop-col.col in
    omega (arith, c.loop-col.invariant.3)

pub loop-col-preserved : goal.loop-col-preserved
loop-col-preserved c =
    let i = c.loop-col.invariant in
    let t = tested _ _ _ _ _ _ _ c.requires _ c.loop-col-test.true _ i.1 i.2 _ c.contains.ensures.value in
    elim c.if-not-contains.branch [
      | then-not-contains w ↦
          let k = row_written _ _ _ _ _ _ _ c.requires _ c.loop-col-test.true _ i.1 i.2 _ i.3 (t ∙ w.if-not-contains.true) _ (w.w-is ∙ w.write_kernel_row.ensures) in
          (i.0, c.if-not-contains.auto.w ∙ i.1, k.0, w.count-is ∙ sym k.1)
      | else-not-contains w ↦
          let k = pivot_passed _ _ _ _ _ _ _ c.requires _ c.loop-col-test.true _ i.1 i.2 (t ∙ w.if-not-contains.false) in
          (i.0, c.if-not-contains.auto.w ∙ i.1, w.w-is ∙ k.0, w.count-is ∙ i.3 ∙ sym k.1)
    ]

pub returns-clause-count : goal.returns-clause-count
returns-clause-count c = c.loop-col.invariant.3 ∙ ap length (rows_end _ _ _ _ _ c.args.at _ _ (omega arith))

pub returns-clause-left : goal.returns-clause-left
returns-clause-left c = c.loop-col.invariant.2 ∙ ap (put_rows c.args.w.now c.args.at c.args.width) (rows_end _ _ _ _ _ c.args.at _ _ (omega arith))
