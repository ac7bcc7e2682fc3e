-- By the three cases of chosen_at.
use Rattle.std.proofs.Common.{arith}
use Rattle.pauli_group.proofs.listing.ListingLaws.{choose_none, choose_with, choose_without, one_shifted}
use Rattle.pauli_group.proofs.listing.choose.Goals as goal

pub returns-then-size-eq0-clause-same : goal.returns-then-size-eq0-clause-same
returns-then-size-eq0-clause-same c = choose_none _ _ _ _ _ c.if-size-eq0.true

pub returns-then-number-with-clause-same : goal.returns-then-number-with-clause-same
returns-then-number-with-clause-same c =
    rw (one_shifted c.args.p (omega arith)) (choose_with _ _ _ _ _ c.if-size-eq0.false (rw (← c.binomial-with.ensures) c.if-number-with.true))

pub returns-clause-same : goal.returns-clause-same
returns-clause-same c = rw c.binomial-with.ensures (choose_without _ _ _ _ _ c.if-size-eq0.false (rw (← c.binomial-with.ensures) c.if-number-with.false))
