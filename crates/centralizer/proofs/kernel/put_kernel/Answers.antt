use Rattle.std.proofs.Common.{arith}
use Rattle.binar.proofs.echelon.Matrix.{length_matrix}
use Rattle.pauli_group.proofs.list.ListLaws.{stored_none, stored_step, stored_all}
use Rattle.centralizer.proofs.kernel.KernelLaws.{row_small, row_movable, row_moved}
use Rattle.centralizer.proofs.kernel.put_kernel.Goals as goal

pub loop-i-init : goal.loop-i-init
loop-i-init c = stored_none _ _ _ _ _

pub pauli_of_row-p-requires : goal.pauli_of_row-p-requires
pauli_of_row-p-requires c =
    (omega arith, c.requires.1, row_small _ _ _ _ _ _ c.loop-i.invariant.rest c.told-w c.requires.0 c.loop-i-test.true c.requires.3)

pub move_pauli-requires : goal.move_pauli-requires
move_pauli-requires c =
    let m = row_movable _ _ _ _ _ _ c.loop-i.invariant.rest c.told-w c.requires.0 c.loop-i-test.true c.requires.3 _ c.pauli_of_row-p.ensures in
    (omega arith, m.0, m.1, m.2)

pub loop-i-preserved : goal.loop-i-preserved
loop-i-preserved c =
    let s = c.loop-i.invariant in
    stored_step _ _ _ _ _ _ _ s (length_matrix _ _ _) 0 _ c.loop-i-test.true (omega (arith, c.told-w))
    (row_moved _ _ _ _ _ _ s.rest c.told-w c.requires.0 c.loop-i-test.true _ _ c.pauli_of_row-p.ensures c.move_pauli.ensures) _ c.store.ensures

pub returns-clause-list : goal.returns-clause-list
returns-clause-list c =
    stored_all _ _ _ _ _ _ _ c.loop-i.invariant (length_matrix _ _ _) c.loop-i.auto.i-end c.loop-i-test.false
