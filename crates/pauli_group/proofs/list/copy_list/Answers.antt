use Rattle.std.proofs.Common.{sym, ap, ◌∙◌, ⊎_elim, arith}
use Rattle.pauli.specs.Pauli.{normal, I}
use Rattle.pauli.specs.Signed.{list_in}
use Rattle.pauli.proofs.signed.SignedLaws.{stored_value}
use Rattle.pauli_group.proofs.list.ListLaws.{stored_none, stored_step, stored_all, list_at_lem, pauli_kept, pauli_kept_after}
use Rattle.pauli.proofs.write.Writers.{length_list}
use Rattle.pauli_group.proofs.list.copy_list.Goals as goal

pub loop-i-init : goal.loop-i-init
loop-i-init c = stored_none normal _ _ _ _

pub loop-i-preserved : goal.loop-i-preserved
loop-i-preserved c =
    let loop = c.loop-i in
    let w = c.args.w.now in
    let from = c.args.from.base in
    let n = c.args.from.count in
    stored_step normal (list_in w from n) _ n w loop.i loop.w loop.invariant (length_list w from n) I c.load-p.result c.loop-i-test.true
    (omega (arith, c.told-w, c.requires.0))
    (stored_value _ c.load-p.ensures
    ∙ ap normal
    (⊎_elim (λ below. pauli_kept_after loop.invariant.rest _ (omega (arith, below))) (λ above. pauli_kept loop.invariant.rest _ (omega (arith, above, c.loop-i-test.true))) c.requires.1
    ∙ sym (list_at_lem w from n loop.i I c.loop-i-test.true)))
    _ c.store.ensures

pub returns-clause-list : goal.returns-clause-list
returns-clause-list c =
    stored_all _ _ _ _ _ _ _ c.loop-i.invariant (length_list _ _ _) c.loop-i.auto.i-end c.loop-i-test.false
