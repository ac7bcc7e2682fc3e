use Prim.Native.Nat.{ℕ, ◌*◌, ◌<◌}
use Rattle.binar.proofs.echelon.Matrix.{two_rows}
use Rattle.binar.proofs.echelon.Others.{cleared, length_cleared, clear_add, clear_pivot}
use Rattle.binar.proofs.echelon.RowByRow.{rewritten_none, rewritten_all, bit_here}
use Rattle.binar.proofs.row.Bits.{bit_lt}
use Rattle.binar.proofs.row.Slice.{AreWords}
use Rattle.binar.specs.Row.{◌⊕◌}
use Rattle.binar.specs.Words.{value, put_row, row_at}
use lib.ListN.{drop}
use mathlib.Core.Path.{refl, ap, ◌∙◌}
use native.Mathlib.Omega.{arith}
use Rattle.binar.proofs.echelon.reduce.Goals as goal
use Rattle.binar.proofs.echelon.reduce.Goals.{then-i-pivot, else-i-pivot}

pub loop-i-init : goal.loop-i-init
loop-i-init c =
    let known : AreWords c.args.w.now = λ q. (c.type_inv.w q).fits in
    (known, refl, rewritten_none _ _ _ _ known c.requires.0 (length_cleared _ _ _ _ _))

pub add_if-requires : goal.add_if-requires
add_if-requires c = (two_rows _ _ _ _ _ (omega arith) c.loop-i-test.true c.requires.1, omega (arith, c.index-bit.ensures, bit_lt (value (drop (c.loop-i.i * c.args.shape.stride) c.loop-i.w)) c.args.pivot.col))

pub loop-i-preserved : goal.loop-i-preserved
loop-i-preserved c =
    let known = c.loop-i.invariant.0 in
    let inside = c.loop-i-test.true in
    let column : c.args.pivot.col < 64 * c.args.shape.stride = omega arith in
    elim c.if-i-pivot.branch [
      | then-i-pivot w ↦ (
        known,
        c.if-i-pivot.auto.w ∙ c.loop-i.invariant.1,
        w.w-is
            ∙ w.add_if.ensures
            ∙ ap (λ (b : ℕ). put_row _ _ _ (row_at _ _ _ ⊕ b * row_at _ _ _)) (w.index-bit.ensures ∙ bit_here _ _ _ _ known c.requires.0 (length_cleared _ _ _ _ _) _ inside _ c.loop-i.invariant.2 _ (omega arith) column)
            ∙ clear_add _ _ _ _ _ known c.requires.0 c.requires.1 _ inside _ c.loop-i.invariant.2 w.if-i-pivot.true,
      )
      | else-i-pivot w ↦ (
        known,
        c.if-i-pivot.auto.w ∙ c.loop-i.invariant.1,
        w.w-is ∙ clear_pivot _ _ _ _ _ known c.requires.0 c.requires.1 _ inside _ c.loop-i.invariant.2 w.if-i-pivot.false,
      )
    ]

pub returns : goal.returns
unfolding cleared
returns c = c.loop-i.invariant.2 ∙ rewritten_all _ _ _ _ c.loop-i.invariant.0 c.requires.0 (length_cleared _ _ _ _ _) _ (omega arith)
