-- The product is made over the places of the generators' support.
use Rattle.std.proofs.Common.{ap, ◌∙◌}
use Rattle.pauli.specs.Pauli.{indexed_product}
use Rattle.pauli.proofs.signed.SignedLaws.{indexed_value}
use Rattle.pauli_group.specs.Promises.{promise_of}
use Rattle.pauli_group.proofs.area.AreaLaws.{span_list}
use Rattle.pauli_group.proofs.member.FactorLaws.{asked_of}
use Rattle.pauli_group.proofs.source.SourceLaws.{roll_counted}
use Rattle.claims.proofs.membership.ClaimLaws.{group_same, accepted_same, accepted_other}
use Rattle.claims.proofs.membership.holds.Goals as goal

pub returns-then-same-clause-told : goal.returns-then-same-clause-told
unfolding asked_of
returns-then-same-clause-told c =
    let g = c.group_of-g.ensures in
    let counted = roll_counted _ _ c.args.rolls.generators.accepted in
    let signs = rw (span_list _ c.paulis.ensures.list c.standards.ensures) at c.signs_of-signs.ensures in
    let asked = asked_of _ _ counted g.group (promise_of c.args.promise) signs.clash signs.step signs.stabilizer in
    let list = span_list _ c.paulis-2.ensures.list c.generators.ensures in
    let product = indexed_value _ _ c.indexed_product-product.ensures ∙ ap (indexed_product _) list in
    let same = group_same _ _ counted g.group _ _ (rw (c.index_set.ensures, g.count) at product) _ _ _ (rw c.qubits.ensures.list at c.is_claimed-same.ensures) in
    accepted_same _ _ _ _ _ _ (c.step.ensures.0 ∙ asked.step_is) _ same c.if-same.true

pub returns-else-same-clause-told : goal.returns-else-same-clause-told
unfolding asked_of
returns-else-same-clause-told c =
    let g = c.group_of-g.ensures in
    let counted = roll_counted _ _ c.args.rolls.generators.accepted in
    let signs = rw (span_list _ c.paulis.ensures.list c.standards.ensures) at c.signs_of-signs.ensures in
    let asked = asked_of _ _ counted g.group (promise_of c.args.promise) signs.clash signs.step signs.stabilizer in
    let list = span_list _ c.paulis-2.ensures.list c.generators.ensures in
    let product = indexed_value _ _ c.indexed_product-product.ensures ∙ ap (indexed_product _) list in
    let same = group_same _ _ counted g.group _ _ (rw (c.index_set.ensures, g.count) at product) _ _ _ (rw c.qubits.ensures.list at c.is_claimed-same.ensures) in
    accepted_other _ _ _ _ _ _ (c.step.ensures.0 ∙ asked.step_is) _ same c.if-same.false
