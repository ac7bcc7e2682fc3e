use Rattle.std.proofs.Common.{arith, length-set}
use Rattle.pauli_group.proofs.listing.ListingLaws.{row_small, row_step, row_end}
use Rattle.pauli_group.proofs.listing.next_row.Goals as goal

pub overflow_add-row : goal.overflow_add-row
overflow_add-row c = omega (arith, row_small _ _ _ c.loop-k.invariant.1 c.requires.1)

pub loop-k-preserved : goal.loop-k-preserved
loop-k-preserved c = (omega arith, row_step _ _ _ c.loop-k.invariant.1 (omega arith), simp length-set c.loop-k.invariant.2)

pub returns : goal.returns
returns c = row_end _ _ _ c.loop-k.invariant.1 (omega arith)
