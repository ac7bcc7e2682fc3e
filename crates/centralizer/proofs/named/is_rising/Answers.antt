use Rattle.centralizer.proofs.named.NamedLaws.{rises_all, rises_next, falls_below}
use Rattle.centralizer.proofs.named.is_rising.Goals as goal

pub returns-then-number-least : goal.returns-then-number-least
returns-then-number-least c = falls_below _ _ _ c.loop-number.invariant c.loop-number-test.true c.if-number-least.true

pub loop-number-preserved : goal.loop-number-preserved
loop-number-preserved c = rises_next _ _ _ c.loop-number.invariant c.loop-number-test.true c.if-number-least.false

pub returns : goal.returns
returns c = rises_all _ _ _ c.loop-number.invariant c.loop-number-test.false
