-- The product is stored over the places of the support and written from there.
use Rattle.std.proofs.Common.{Bool, ap, ◌∙◌, refl, arith}
use Rattle.pauli.proofs.join.ProductLaws.{written_told, written_left, written_places}
use Rattle.pauli.proofs.refusal.HandedOn.{handed_on}
use Rattle.pauli.specs.Condense.{list_of}
use Rattle.pauli.specs.JoinCalls.{made_with}
use Rattle.pauli.specs.ProductAnswers.{made_in}
use Rattle.pauli.specs.Refusals.{told_by}
use Rattle.pauli.specs.Told.{answer, map_told}
use Rattle.pauli.proofs.product.write_product.Goals as goal

pub write_roll-requires : goal.write_roll-requires
write_roll-requires c =
    let a = c.args in (
      omega arith,
      c.requires.2,
      written_places a.support.now (list_of a.left.bytes.now) a.i (list_of a.right.bytes.now) a.j _ _ _ _
          c.condense_from-p.ensures c.condense_from-q.ensures c.multiply-product.ensures.pauli c.store.ensures _ refl,
    )

pub returns-in_err-bytes-clause-told : goal.returns-in_err-bytes-clause-told
unfolding made_with map_told
returns-in_err-bytes-clause-told c =
    let a = c.args in
    ap (told_by made_in) (handed_on _ _ c.from_residual.ensures.1)
    ∙ written_told a.support.now (list_of a.left.bytes.now) a.i (list_of a.right.bytes.now) a.j _ _ _ _
    c.condense_from-p.ensures c.condense_from-q.ensures c.multiply-product.ensures.pauli c.store.ensures a.out.now _ c.in_err-bytes.ensures.told

pub returns-in_err-bytes-clause-left : goal.returns-in_err-bytes-clause-left
returns-in_err-bytes-clause-left c =
    let a = c.args in
    written_left a.support.now (list_of a.left.bytes.now) a.i (list_of a.right.bytes.now) a.j _ _ _ _
    c.condense_from-p.ensures c.condense_from-q.ensures c.multiply-product.ensures.pauli c.store.ensures a.out.now _ c.in_err-bytes.ensures.left

pub returns-clause-told : goal.returns-clause-told
unfolding made_with map_told
returns-clause-told c =
    let a = c.args in
    ap (λ (b : Bool). answer (record { bytes = c.in_ok-bytes.bytes; anticommute = b })) c.multiply-product.ensures.anticommute
    ∙ written_told a.support.now (list_of a.left.bytes.now) a.i (list_of a.right.bytes.now) a.j _ _ _ _
    c.condense_from-p.ensures c.condense_from-q.ensures c.multiply-product.ensures.pauli c.store.ensures a.out.now _ c.in_ok-bytes.ensures.told

pub returns-clause-left : goal.returns-clause-left
returns-clause-left c =
    let a = c.args in
    written_left a.support.now (list_of a.left.bytes.now) a.i (list_of a.right.bytes.now) a.j _ _ _ _
    c.condense_from-p.ensures c.condense_from-q.ensures c.multiply-product.ensures.pauli c.store.ensures a.out.now _ c.in_ok-bytes.ensures.left
