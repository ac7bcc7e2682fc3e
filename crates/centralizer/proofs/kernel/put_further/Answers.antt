use Rattle.std.proofs.Common.{sym, ◌∙◌, arith}
use Rattle.centralizer.proofs.kernel.FurtherLaws.{further_none, further_all, further_skip, further_more}
use Rattle.centralizer.proofs.kernel.put_further.Goals as goal
use Rattle.centralizer.proofs.kernel.put_further.Goals.{then-not-contains, else-not-contains}

pub loop-i-init : goal.loop-i-init
loop-i-init c = further_none _ _ _ _

pub store-requires : goal.store-requires
store-requires c = omega (arith, c.told-w, c.loop-i.invariant.put.rest.size)

pub store-requires-then-not-contains : goal.store-requires-then-not-contains
store-requires-then-not-contains c = omega (arith, c.told-w, c.loop-i.invariant.put.rest.size, c.store.auto.w)

pub loop-i-preserved : goal.loop-i-preserved
loop-i-preserved c =
    let s = c.loop-i.invariant in
    let h = c.loop-i-test.true in
    elim c.if-not-contains.branch [
      | then-not-contains w ↦
          rw w.count-is
          (further_more _ _ _ _ _ _ _ s h c.requires.2 (sym c.contains.ensures.value ∙ w.if-not-contains.true) (omega (arith, c.told-w))
          _ w.unit_at.ensures _ w.store.ensures _ w.unit_at-then-not-contains.ensures _ (w.w-is ∙ w.store-then-not-contains.ensures))
      | else-not-contains w ↦
          rw (w.count-is, w.w-is) (further_skip _ _ _ _ _ _ _ s h (sym c.contains.ensures.value ∙ w.if-not-contains.false))
    ]

pub returns : goal.returns
returns c =
    let all = further_all _ _ _ _ _ _ _ c.loop-i.invariant c.loop-i-test.false in
    record { count = all.0; list = all.1; rest = all.2 }
