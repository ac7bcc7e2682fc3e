-- The numbers of right are put in behind the support of left.
use Rattle.pauli.proofs.joined.JoinLaws.{own_few, both_gathered}
use Rattle.pauli.proofs.joined.join_support.Goals as goal

pub returns : goal.returns
returns c = both_gathered _ _ (own_few _ _ c.args.left.accepted) _ (rw c.new-support.ensures at c.gather.ensures) _ c.gather-2.ensures
