use Prim.Native.Nat.{◌+◌}
use Rattle.binar.proofs.row.Scan.{weight_step, weight_none}
use lib.Count.{ones-le}
use mathlib.Core.Path.{sym, ◌∙◌}
use native.Mathlib.Omega.{arith}
use Rattle.binar.proofs.row.weight.Goals as goal

pub loop-k-preserved : goal.loop-k-preserved
loop-k-preserved c = (omega arith, omega (arith, ones-le 64 _ (c.type_inv.w (c.args.at + c.loop-k.k)).fits), c.loop-k.invariant.2 ∙ weight_step _ _ _ _ _ c.loop-k-test.true (omega arith) (λ q. (c.type_inv.w q).fits))

pub returns : goal.returns
returns c = sym (c.loop-k.invariant.2 ∙ weight_none _ _ _ _ _ (omega arith))
