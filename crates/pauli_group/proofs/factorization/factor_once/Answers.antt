-- The group is built, the element is put to it, and the area is cleared.
use Rattle.pauli_group.proofs.area.AreaLaws.{span_list}
use Rattle.pauli_group.proofs.member.FactorLaws.{asked_of}
use Rattle.pauli_group.specs.Promises.{promise_of}
use Rattle.pauli_group.proofs.source.SourceLaws.{roll_counted}
use Rattle.pauli_group.proofs.factorization.factor_once.Goals as goal

pub factor-factoring-requires : goal.factor-factoring-requires
factor-factoring-requires c =
    let g = c.group_of-g.ensures in
    let standards = span_list _ c.paulis.ensures.list c.standards.ensures in
    let signs = rw standards at c.signs_of-signs.ensures in
    (c.requires, rw (c.qubits.ensures.list, g.count) (asked_of _ _ (roll_counted _ _ c.args.rolls.generators.accepted) g.group _ signs.clash signs.step signs.stabilizer))

pub returns : goal.returns
unfolding asked_of
returns c =
    let g = c.group_of-g.ensures in
    let factor = rw g.count at c.factor-factoring.ensures in
    let standards = span_list _ c.paulis.ensures.list c.standards.ensures in
    let signs = rw standards at c.signs_of-signs.ensures in record {
      told = factor.told (asked_of _ _ (roll_counted _ _ c.args.rolls.generators.accepted) (rw (← c.qubits.ensures.list) at g.group) (promise_of c.args.promise) signs.clash signs.step signs.stabilizer);
      area = c.clear.ensures _ c.told-w;
    }
