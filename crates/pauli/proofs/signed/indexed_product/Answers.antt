use Rattle.std.proofs.Common.{ℕ, List, ◌∙◌, sym, ap, ap₂}
use borrow.Author.Tests.{ltb-true, ltb-false}
use Rattle.pauli.proofs.signed.SignedLaws.{product_at, product_start, product_hit, product_past, product_end}
use Rattle.pauli.specs.Pauli.{Pauli}
use Rattle.pauli.specs.PlaceSet.{set_in}
use Rattle.pauli.specs.Signed.{held}
use Rattle.pauli.proofs.signed.indexed_product.Goals as goal

pub loop-p-init : goal.loop-p-init
loop-p-init c =
    let ls = c.args.list.now in
    let all = c.into_iter-p-iterator.ensures.into_iter_gives ∙ c.iter-p-items.ensures in
    (tt, tt, product_start ls (set_in c.args.set) ∙ ap₂ (λ (is : List ℕ) (p : Pauli). product_at ls is p) (sym all) (sym c.identity-product.ensures))

pub loop-p-preserved-in-Some-get : goal.loop-p-preserved-in-Some-get
loop-p-preserved-in-Some-get c =
    let ls = c.args.list.now in
    let words = c.in-Some-get in (
      tt,
      tt,
      c.loop-p.invariant.2 ∙ ap (λ is. product_at ls is (held c.loop-p.product)) c.in-Some.ensures.steps
          ∙ product_hit ls c.in-Some.p.0 _ _ (ltb-true _ _ (sym words.ensures.lookup.0)) words.words.now (held c.from_words.result) (held c.times.result.pauli)
          words.ensures.lookup.1 c.from_words.ensures c.times.ensures.pauli,
    )

pub loop-p-preserved : goal.loop-p-preserved
loop-p-preserved c =
    let ls = c.args.list.now in
    (tt, tt, c.loop-p.invariant.2 ∙ ap (λ is. product_at ls is (held c.loop-p.product)) c.in-Some.ensures.steps ∙ product_past ls c.in-Some.p.0 _ _ (ltb-false _ _ (sym c.in_default.ensures.lookup.0)))

pub returns : goal.returns
returns c =
    let ls = c.args.list.now in
    sym (c.loop-p.invariant.2 ∙ ap (λ is. product_at ls is (held c.loop-p.product)) c.in-None.ensures.steps.0 ∙ product_end ls _)
