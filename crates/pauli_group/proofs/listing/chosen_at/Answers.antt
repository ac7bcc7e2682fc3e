use Rattle.std.proofs.Common.{arith}
use Rattle.pauli.specs.PlaceSet.{set_in}
use Rattle.pauli_group.proofs.listing.ListingLaws.{choice_end}
use Rattle.pauli_group.proofs.listing.chosen_at.Goals as goal

pub returns : goal.returns
unfolding set_in
returns c = omega (arith, choice_end c.args.n c.loop-p.p c.loop-p.c.size c.loop-p.c.number c.loop-p.c.bits c.loop-p-test.false, c.loop-p.invariant.3)
