use Rattle.std.proofs.Common.{sym, ap, ◌∙◌, length, ◌+◌, arith}
use Rattle.centralizer.proofs.named.NamedLaws.{kept_few, kept_all, kept_not, kept_more}
use Rattle.centralizer.proofs.named.further.Goals as goal
use Rattle.centralizer.proofs.named.further.Goals.{then-not-contains, else-not-contains}

pub loop-number-init : goal.loop-number-init
loop-number-init c = omega (arith, kept_few c.args.own.now c.args.named.now 0)

pub overflow_add-count : goal.overflow_add-count
overflow_add-count c = let l = c.loop-number in omega (arith, l.invariant, kept_few c.args.own.now c.args.named.now l.number-index)

pub loop-number-preserved : goal.loop-number-preserved
loop-number-preserved c =
    let l = c.loop-number in
    let h = c.loop-number-test.true in
    elim c.if-not-contains.branch [
      | then-not-contains w ↦
          w.count-is ∙ ap (◌+ 1) l.invariant ∙ sym (kept_more _ _ _ h (sym c.contains.ensures.value ∙ w.if-not-contains.true))
      | else-not-contains w ↦
          w.count-is ∙ l.invariant ∙ sym (ap length (kept_not _ _ _ h (sym c.contains.ensures.value ∙ w.if-not-contains.false)))
    ]

pub returns : goal.returns
returns c = c.loop-number.invariant ∙ ap length (kept_all _ _ _ c.loop-number-test.false)
