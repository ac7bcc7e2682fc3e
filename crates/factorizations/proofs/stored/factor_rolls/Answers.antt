-- The group is built, and the elements are put to it.
use Rattle.pauli_group.specs.Promises.{promise_of}
use Rattle.pauli_group.proofs.area.AreaLaws.{span_list}
use Rattle.pauli_group.proofs.group.GroupLaws.{described, facts_are}
use Rattle.pauli_group.proofs.member.FactorLaws.{asked_of}
use Rattle.pauli_group.proofs.source.SourceLaws.{roll_counted}
use Rattle.factorizations.proofs.stored.factor_rolls.Goals as goal

pub factor_all-requires : goal.factor_all-requires
factor_all-requires c =
    let g = c.group_of-g.ensures in
    let standards = span_list _ c.paulis.ensures.list c.standards.ensures in
    let signs = rw standards at c.signs_of-signs.ensures in
    rw (c.qubits.ensures.list, g.count) (asked_of _ _ (roll_counted _ _ c.args.rolls.generators.accepted) g.group _ signs.clash signs.step signs.stabilizer)

pub returns : goal.returns
unfolding asked_of
returns c =
    let g = c.group_of-g.ensures in
    let standards = span_list _ c.paulis.ensures.list c.standards.ensures in
    let signs = rw standards at c.signs_of-signs.ensures in
    let factored = rw g.count at c.factor_all.ensures in
    let asked = asked_of _ _ (roll_counted _ _ c.args.rolls.generators.accepted) (rw (← c.qubits.ensures.list) at g.group) (promise_of c.args.promise) signs.clash signs.step signs.stabilizer in record {
      told = facts_are _ _ (described g.group _ _ _ _ signs.clash signs.step signs.stabilizer);
      results = factored asked;
    }
