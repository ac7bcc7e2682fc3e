use Rattle.std.proofs.Common.{ap, ◌∙◌, arith}
use Rattle.pauli.specs.Pauli.{indexed_product}
use Rattle.pauli.proofs.signed.SignedLaws.{stored_value, indexed_value}
use Rattle.pauli_group.proofs.area.AreaLaws.{span_list}
use Rattle.pauli_group.proofs.moved.MoveLaws.{loaded_movable}
use Rattle.pauli_group.proofs.common.SharedLaws.{target_low, exponent_none, exponent_set}
use Rattle.pauli_group.proofs.common.exponent_of.Goals as goal

pub move_pauli-p-requires : goal.move_pauli-p-requires
move_pauli-p-requires c =
    let p = c.requires in
    let m = loaded_movable _ _ (stored_value _ c.load.ensures) _ _ _ (p.3, p.4) p.5 in
    (omega (arith, p.1.small, p.2), m.0, m.1, m.2)

pub solve-requires : goal.solve-requires
solve-requires c =
    let p = c.requires in
    let low = target_low _ _ _ c.args.at _ _ _ p.1 p.2 _ _ (stored_value _ c.load.ensures) c.move_pauli-p.ensures in
    (low.0, low.1, p.1.solvable)

pub returns-in-None-clause-told : goal.returns-in-None-clause-told
returns-in-None-clause-told c =
    exponent_none _ _ _ c.args.at _ _ _ c.requires.1 c.requires.2 _ _ (stored_value _ c.load.ensures) c.move_pauli-p.ensures c.in-None.ensures.told

pub returns-in-Some-clause-told : goal.returns-in-Some-clause-told
returns-in-Some-clause-told c =
    let list = span_list _ c.paulis.ensures.list c.generators.ensures in
    exponent_set _ _ _ c.args.at _ _ _ c.requires.1 c.requires.2 _ _ (stored_value _ c.load.ensures) c.move_pauli-p.ensures _ c.in-Some.ensures.told _ c.solve.ensures.rest _
    (indexed_value _ _ c.indexed_product.ensures ∙ ap (indexed_product _) list)
