use Rattle.binar.proofs.echelon.Matrix.{cell_bit, length_matrix}
use Rattle.binar.proofs.echelon.Search.{row_hit, row_miss, row_end, col_next, col_end}
use Rattle.binar.specs.Echelon.{pivot_of}
use mathlib.Core.Path.{refl, sym, ◌∙◌}
use native.Mathlib.Omega.{arith}
use Rattle.binar.proofs.echelon.pivot_of.Goals as goal

pub loop-col-init : goal.loop-col-init
unfolding pivot_of
loop-col-init c = refl

pub loop-row-init : goal.loop-row-init
loop-row-init c = c.loop-col.invariant ∙ col_next _ _ _ _ c.loop-col-test.true

pub loop-row-preserved : goal.loop-row-preserved
loop-row-preserved c = c.loop-row.invariant ∙ row_miss _ _ _ _ (rw (length_matrix _ _ _) c.loop-row-test.true) (λ e. c.if-index-eq1.false (c.index.ensures ∙ cell_bit _ _ _ _ _ (λ q. (c.type_inv.w q).fits) c.requires c.loop-row-test.true (omega arith) ∙ e))

pub loop-col-preserved : goal.loop-col-preserved
loop-col-preserved c = c.loop-row.invariant ∙ row_end _ _ _ _ (rw (length_matrix _ _ _) c.loop-row-test.false)

pub returns-then-index-eq1-clause-first : goal.returns-then-index-eq1-clause-first
returns-then-index-eq1-clause-first c = sym (c.loop-row.invariant ∙ row_hit _ _ _ _ (rw (length_matrix _ _ _) c.loop-row-test.true) (sym (c.index.ensures ∙ cell_bit _ _ _ _ _ (λ q. (c.type_inv.w q).fits) c.requires c.loop-row-test.true (omega arith)) ∙ c.if-index-eq1.true))

pub returns-after-loop-col-clause-first : goal.returns-after-loop-col-clause-first
returns-after-loop-col-clause-first c = sym (c.loop-col.invariant ∙ col_end _ _ _ _ c.loop-col-test.false)
