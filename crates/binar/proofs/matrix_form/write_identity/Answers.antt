use Rattle.binar.proofs.matrix_form.Identity.{beside_eq}
use Rattle.binar.proofs.echelon.Matrix.{length_matrix}
use Rattle.binar.proofs.echelon.RowByRow.{rewritten_none, rewritten_all, rewritten_row, row_here}
use Rattle.binar.proofs.echelon.Transform.{beside_length}
use Rattle.binar.proofs.row.Slice.{AreWords}
use mathlib.Core.Path.{refl, ◌∙◌}
use native.Mathlib.Omega.{arith}
use Rattle.binar.proofs.matrix_form.write_identity.Goals as goal

pub loop-i-init : goal.loop-i-init
loop-i-init c =
    let known : AreWords c.args.w.now = λ q. (c.type_inv.w q).fits in
    (known, refl, rewritten_none _ _ _ _ known c.requires.0 (beside_length _ 0 _ ∙ length_matrix _ _ _))

pub loop-i-preserved : goal.loop-i-preserved
loop-i-preserved c =
    let known = c.loop-i.invariant.0 in
    let here = c.loop-i-test.true in
    let done = c.loop-i.invariant.2 in (
      known,
      c.unit_row.auto.w ∙ c.loop-i.invariant.1,
      c.unit_row.ensures
          ∙ rewritten_row _ _ _ _ known c.requires.0 (beside_length _ 0 _ ∙ length_matrix _ _ _) _ here _ done _
          (beside_eq c.loop-i.i c.args.width c.args.shape.stride c.args.shape.rows c.args.w.now _ here (row_here _ _ _ _ known c.requires.0 (beside_length _ 0 _ ∙ length_matrix _ _ _) _ here _ done)),
    )

pub returns : goal.returns
returns c = c.loop-i.invariant.2 ∙ rewritten_all _ _ _ _ c.loop-i.invariant.0 c.requires.0 (beside_length _ 0 _ ∙ length_matrix _ _ _) _ (omega arith)
