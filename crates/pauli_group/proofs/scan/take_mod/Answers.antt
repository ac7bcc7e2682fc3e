use Rattle.std.proofs.Common.{arith}
use Rattle.pauli_group.proofs.scan.PhaseLaws.{taken_start, taken_step}
use Rattle.pauli_group.proofs.scan.take_mod.Goals as goal

pub loop-i-init : goal.loop-i-init
loop-i-init c = taken_start _ _ _

pub loop-i-preserved : goal.loop-i-preserved
loop-i-preserved c = taken_step c.loop-i.invariant _ c.loop-i-test.true (omega (arith, c.told-w, c.args.list.inside))
