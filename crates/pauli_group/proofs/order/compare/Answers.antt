use Rattle.pauli_group.proofs.order.compare.Goals as goal

pub returns-clause-area : goal.returns-clause-area
returns-clause-area c = c.clear.ensures _ c.told-w
