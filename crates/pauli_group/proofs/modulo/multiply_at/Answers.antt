use Rattle.std.proofs.Common.{sym, ap, ◌∙◌, arith}
use Rattle.pauli.specs.Pauli.{I, normal}
use Rattle.pauli.proofs.write.Writers.{length_list}
use Rattle.pauli.proofs.signed.SignedLaws.{stored_value}
use Rattle.pauli_group.proofs.list.ListLaws.{stored_none, stored_step, stored_all, list_at_lem, pauli_kept_after, outside_refl, store_further}
use Rattle.pauli_group.proofs.modulo.RemainderLaws.{at_value, multiplied_value}
use Rattle.pauli_group.proofs.modulo.multiply_at.Goals as goal

pub loop-i-init : goal.loop-i-init
loop-i-init c = (omega arith, stored_none _ _ _ _ _, outside_refl _ _ _)

pub loop-i-preserved : goal.loop-i-preserved
loop-i-preserved c =
    let l = c.loop-i in
    let first = c.args.w.now in
    let same = stored_value _ c.load-p.ensures ∙ ap normal (pauli_kept_after l.invariant.2 _ (omega arith) ∙ sym (list_at_lem first c.args.list.base c.args.list.count l.i I c.loop-i-test.true)) in (
      omega arith,
      stored_step _ _ _ _ _ _ _ l.invariant.1 (length_list first c.args.list.base c.args.list.count) I _ c.loop-i-test.true (rw c.told-w c.args.list.inside)
          (at_value _ _ _ _ c.multiplied.ensures ∙ multiplied_value _ _ _ _ _ same) _ c.store.ensures,
      store_further first l.w c.args.list.base l.i _ l.invariant.2 _ c.store.ensures,
    )

pub returns-clause-list : goal.returns-clause-list
returns-clause-list c =
    stored_all _ _ _ _ _ _ _ c.loop-i.invariant.1 (length_list _ _ _) c.loop-i.invariant.0 c.loop-i-test.false
