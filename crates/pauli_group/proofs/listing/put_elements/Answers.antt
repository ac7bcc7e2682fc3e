use Rattle.std.proofs.Common.{ℕ, ◌+◌, ◌*◌, ◌%◌, ◌^◌, ap, ap₂, ◌∙◌}
use Rattle.pauli.specs.Pauli.{indexed_product}
use Rattle.pauli.proofs.signed.SignedLaws.{indexed_value}
use Rattle.pauli_group.proofs.area.AreaLaws.{span_list}
use Rattle.pauli_group.proofs.listing.PageLaws.{listed_none, listed_next, listed_all}
use Rattle.pauli_group.proofs.listing.put_elements.Goals as goal

pub loop-i-init : goal.loop-i-init
loop-i-init c = listed_none _ _ _ _ _

pub loop-i-preserved : goal.loop-i-preserved
loop-i-preserved c =
    let set = rw c.count-count.ensures.0 at c.subset_at-set.ensures in
    let exponent =
    ap₂ (λ (s : ℕ) (k : ℕ). (c.indexed_product-product.result.exponent + s * ((c.args.start + c.loop-i.i) % k)) % 2 ^ 8) c.step-step.ensures.0 c.count-count.ensures.0 in
    let product = indexed_value _ _ c.indexed_product-product.ensures ∙ ap (indexed_product _) (span_list _ c.paulis.ensures.list c.at-generators.ensures) in
    listed_next _ _ _ _ _ _ _ c.loop-i.invariant c.told-w c.requires.0 c.requires.1 c.loop-i-test.true _ set _ product _ exponent _ c.store.ensures

pub returns-clause-list : goal.returns-clause-list
returns-clause-list c = listed_all _ _ _ _ _ _ _ c.loop-i.invariant c.loop-i.auto.i-end c.loop-i-test.false
