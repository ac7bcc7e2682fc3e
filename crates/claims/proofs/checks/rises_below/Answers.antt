use Rattle.claims.proofs.checks.FormLaws.{rises_all, falls_below, past_list, rises_next}
use Rattle.claims.proofs.checks.rises_below.Goals as goal

pub returns-then-index-least : goal.returns-then-index-least
returns-then-index-least c = falls_below _ _ _ _ c.loop-index.invariant c.loop-index-test.true c.if-index-least.true

pub returns-then-index-count : goal.returns-then-index-count
returns-then-index-count c = past_list _ _ _ _ c.loop-index.invariant c.loop-index-test.true c.if-index-least.false c.if-index-count.true

pub loop-index-preserved : goal.loop-index-preserved
loop-index-preserved c = rises_next _ _ _ _ c.loop-index.invariant c.loop-index-test.true c.if-index-least.false c.if-index-count.false

pub returns : goal.returns
returns c = rises_all _ _ _ _ c.loop-index.invariant c.loop-index-test.false
