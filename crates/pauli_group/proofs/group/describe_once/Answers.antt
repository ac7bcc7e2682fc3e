use Rattle.pauli_group.proofs.group.describe_once.Goals as goal

pub returns-clause-area : goal.returns-clause-area
returns-clause-area c = c.clear.ensures _ c.told-w
