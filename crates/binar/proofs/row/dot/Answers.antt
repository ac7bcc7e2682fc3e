use Rattle.binar.proofs.row.Scan.{dot_start, dot_step, dot_none}
use mathlib.Core.Path.{sym, ◌∙◌}
use native.Mathlib.Omega.{arith}
use Rattle.binar.proofs.row.dot.Goals as goal

pub loop-k-init : goal.loop-k-init
loop-k-init c = (omega arith, dot_start _ _ _ _)

pub loop-k-preserved : goal.loop-k-preserved
loop-k-preserved c = (omega arith, c.loop-k.invariant.1 ∙ dot_step _ _ _ _ _ _ c.loop-k-test.true (omega arith) (omega arith) (λ q. (c.type_inv.w q).fits))

pub returns : goal.returns
returns c = sym (c.loop-k.invariant.1 ∙ dot_none _ _ _ _ _ _ (omega arith))
