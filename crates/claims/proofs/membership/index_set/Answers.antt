use Rattle.claims.proofs.membership.ClaimLaws.{all_put, next_put}
use Rattle.claims.proofs.membership.index_set.Goals as goal

pub loop-index-preserved : goal.loop-index-preserved
loop-index-preserved c = next_put _ _ _ c.loop-index.invariant c.loop-index-test.true _ c.with_place-set.ensures

pub returns : goal.returns
returns c = all_put _ _ _ c.loop-index.invariant c.loop-index-test.false
