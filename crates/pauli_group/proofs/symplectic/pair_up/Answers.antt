use Rattle.std.proofs.Common.{arith}
use Rattle.pauli_group.proofs.symplectic.PairLaws.{paired_start, paired_end}
use Rattle.pauli_group.proofs.symplectic.pair_up.Goals as goal

pub loop-p-init : goal.loop-p-init
loop-p-init c = paired_start _ _

pub returns : goal.returns
returns c =
    let at = c.at-commuting.ensures in
    let copy = rw (at.0, at.1) at c.copy_list.ensures in
    paired_end _ _ c.loop-p.w c.loop-p.p c.loop-p.invariant (omega (arith, c.loop-p-test.false)) _ copy.list copy.rest
