use Rattle.std.proofs.Common.{ap, ◌∙◌, arith}
use Rattle.pauli.specs.Pauli.{indexed_product}
use Rattle.pauli.proofs.signed.SignedLaws.{indexed_value}
use Rattle.pauli_group.proofs.form.FormLaws.{named_count, row_room, product_value}
use Rattle.pauli_group.proofs.list.ListLaws.{stored_none, stored_step, stored_all}
use Rattle.pauli_group.specs.Inner.Lists.{products_by}
use Rattle.pauli_group.proofs.form.put_products.Goals as goal

pub loop-i-init : goal.loop-i-init
loop-i-init c = stored_none _ _ _ _ _

pub overflow_mul-first : goal.overflow_mul-first
overflow_mul-first c =
    rw c.stride_of-stride.ensures (omega (arith, row_room _ _ _ _ _ _ _ c.requires.0 c.requires.1 c.requires.2 c.told-w c.requires.3 c.requires.4 _ _ c.loop-i-test.true c.loop-i.invariant.rest))

pub named_by-set-requires : goal.named_by-set-requires
named_by-set-requires c =
    (c.requires.0, rw c.stride_of-stride.ensures (omega (arith, c.told-w, c.loop-i.invariant.rest.size, row_room _ _ _ _ _ _ _ c.requires.0 c.requires.1 c.requires.2 c.told-w c.requires.3 c.requires.4 _ _ c.loop-i-test.true c.loop-i.invariant.rest)))

pub loop-i-preserved : goal.loop-i-preserved
loop-i-preserved c =
    let l = c.loop-i in
    stored_step _ _ _ _ _ _ _ l.invariant (named_count _ _ _ _ _ _ _ c.requires.0 c.requires.1 c.requires.2 c.told-w c.requires.3 c.requires.4) 0 _ c.loop-i-test.true (omega (arith, c.told-w, c.args.to.inside))
    (product_value _ _ _ _ _ _ _ c.requires.0 c.requires.1 c.requires.2 c.told-w c.requires.3 c.requires.4 _ _ c.loop-i-test.true l.invariant.rest _ _ (rw c.stride_of-stride.ensures at c.named_by-set.ensures)
    (indexed_value _ _ c.indexed_product-product.ensures ∙ ap (indexed_product _) c.paulis.ensures.list)) _ c.store.ensures

pub returns-clause-list : goal.returns-clause-list
unfolding products_by
returns-clause-list c =
    stored_all _ _ _ _ _ _ _ c.loop-i.invariant (named_count _ _ _ _ _ _ _ c.requires.0 c.requires.1 c.requires.2 c.told-w c.requires.3 c.requires.4) c.loop-i.auto.i-end c.loop-i-test.false
