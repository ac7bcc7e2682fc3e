use Rattle.std.proofs.Common.{sym, ◌∙◌, arith}
use Rattle.centralizer.proofs.stacked.StackedLaws.{units_none, units_all, units_skip, units_more}
use Rattle.centralizer.proofs.stacked.put_unnamed.Goals as goal
use Rattle.centralizer.proofs.stacked.put_unnamed.Goals.{then-not-contains, else-not-contains}

pub loop-i-init : goal.loop-i-init
loop-i-init c = units_none _ _ _ _ _

pub store-requires : goal.store-requires
store-requires c = omega (arith, c.told-w, c.loop-i.invariant.put.rest.size)

pub loop-i-preserved : goal.loop-i-preserved
loop-i-preserved c =
    let s = c.loop-i.invariant in
    let h = c.loop-i-test.true in
    elim c.if-not-contains.branch [
      | then-not-contains w ↦
          rw w.count-is
          (units_more _ _ _ _ _ _ _ _ s h c.requires.2 (sym c.contains.ensures.value ∙ w.if-not-contains.true) (omega (arith, c.told-w))
          _ w.unit_at.ensures _ (w.w-is ∙ w.store.ensures))
      | else-not-contains w ↦
          rw (w.count-is, w.w-is) (units_skip _ _ _ _ _ _ _ _ s h (sym c.contains.ensures.value ∙ w.if-not-contains.false))
    ]

pub returns : goal.returns
returns c =
    let all = units_all _ _ _ _ _ _ _ _ c.loop-i.invariant c.loop-i-test.false in
    record { count = all.0; list = all.1; rest = all.2 }
