use Rattle.std.proofs.Common.{sym, ap, ◌∙◌, arith}
use Rattle.pauli.specs.Pauli.{normal, I}
use Rattle.pauli.specs.Signed.{held, list_in}
use Rattle.pauli.proofs.write.Writers.{length_list}
use Rattle.pauli.proofs.signed.SignedLaws.{stored_value}
use Rattle.pauli_theory.specs.Symplectic.{cleared}
use Rattle.pauli_theory.proofs.Symplectic.{cleared_length}
use Rattle.pauli_group.proofs.list.ListLaws.{stored_none, stored_step, stored_all, list_at_lem, pauli_kept_after, outside_refl, store_further}
use Rattle.pauli_group.proofs.symplectic.PairLaws.{clear_after, clear_before}
use Rattle.pauli_group.proofs.symplectic.clear_pair.Goals as goal
use Rattle.pauli_group.proofs.symplectic.clear_pair.Goals.{then-i-k, else-i-k}

pub loop-i-init : goal.loop-i-init
loop-i-init c = (stored_none normal _ _ _ _, outside_refl _ _ _)

pub loop-i-preserved : goal.loop-i-preserved
loop-i-preserved c = let loop = c.loop-i in
    let load = c.load-g in
    let w = c.args.w.now in
    let base = c.args.list.base in
    let n = c.args.list.count in
    let k = c.args.k in
    let x = held c.args.x in
    let z = held c.args.z in
    let gs = list_in w base n in
    let i = loop.i in
    let less = c.loop-i-test.true in
    let count = length_list w base n in
    let same = stored_value _ load.ensures ∙ ap normal (pauli_kept_after loop.invariant.1 _ (omega arith) ∙ sym (list_at_lem w base n i I less)) in (
      stored_step normal (cleared k x z gs) base n w i loop.w loop.invariant.0 (cleared_length k x z gs ∙ count) I c.times_if.result less (omega (arith, c.told-w, c.args.list.inside))
          (elim c.if-i-k.branch [
            | then-i-k h ↦ clear_after k n i x z gs count less (held load.result) (held c.if-i-k.g) (held c.times_if.result) same c.times_if.ensures h.if-i-k.true (ap held h.g-is ∙ h.times_if-g.ensures)
            | else-i-k h ↦ clear_before k n i x z gs count less (held load.result) (held c.if-i-k.g) (held c.times_if.result) same c.times_if.ensures (omega (arith, h.if-i-k.false)) (ap held h.g-is)
          ])
          _ c.store.ensures,
      store_further w loop.w base i c.times_if.result loop.invariant.1 _ c.store.ensures,
    )

pub returns-clause-list : goal.returns-clause-list
returns-clause-list c =
    stored_all _ _ _ _ _ _ _ c.loop-i.invariant.0 (cleared_length _ _ _ _ ∙ length_list _ _ _) c.loop-i.auto.i-end c.loop-i-test.false
