use Rattle.pauli_group.proofs.area.AreaLaws.{span_list}
use Rattle.pauli_group.proofs.group.GroupLaws.{described, facts_are}
use Rattle.pauli_group.proofs.group.describe_group.Goals as goal

pub returns : goal.returns
returns c =
    let signs = rw (span_list _ c.paulis.ensures.list c.standards.ensures) at c.signs_of.ensures in
    λ gs known g. facts_are _ _ (described g _ _ _ _ signs.clash signs.step signs.stabilizer)
