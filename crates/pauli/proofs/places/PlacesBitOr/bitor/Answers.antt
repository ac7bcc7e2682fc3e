-- By halves.
use Rattle.pauli.proofs.places.Halves.{or_halves}
use Rattle.pauli.specs.PlaceSet.{set_in}
use Rattle.std.proofs.Common.{arith}
use Rattle.pauli.proofs.places.PlacesBitOr.bitor.Goals as goal

pub returns : goal.returns
unfolding set_in
returns c = or_halves c.args.self c.args.other (record { low = omega arith; high = omega arith }) (record { low = omega arith; high = omega arith })
