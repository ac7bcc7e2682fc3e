use Rattle.std.proofs.Common.{sym, ◌∙◌, arith}
use Rattle.pauli_group.proofs.listing.ListingLaws.{size_start, size_hit, size_miss, size_last}
use Rattle.pauli_group.proofs.listing.subset_at.Goals as goal

pub loop-k-init : goal.loop-k-init
loop-k-init c = (omega arith, size_start _ _)

pub returns-then-number-of_size : goal.returns-then-number-of_size
returns-then-number-of_size c = c.chosen_at.ensures ∙ sym (c.loop-k.invariant.1 ∙ size_hit _ _ _ c.loop-k-test.true (rw (← c.binomial-of_size.ensures) c.if-number-of_size.true))

pub loop-k-preserved : goal.loop-k-preserved
loop-k-preserved c = (omega arith, c.loop-k.invariant.1 ∙ rw c.binomial-of_size.ensures (size_miss _ _ _ c.loop-k-test.true (rw (← c.binomial-of_size.ensures) c.if-number-of_size.false)))

pub returns : goal.returns
returns c = c.chosen_at-2.ensures ∙ sym (c.loop-k.invariant.1 ∙ size_last _ _ _ c.loop-k.invariant.0 c.loop-k-test.false)
