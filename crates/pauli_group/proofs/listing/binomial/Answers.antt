use Rattle.std.proofs.Common.{arith}
use Rattle.pauli_group.proofs.listing.ListingLaws.{row_first}
use Rattle.pauli_group.proofs.listing.binomial.Goals as goal

pub loop-i-init : goal.loop-i-init
loop-i-init c = (omega arith, row_first)
