-- Both words are zero.
use Rattle.pauli.proofs.places.Halves.{zero_halves}
use Rattle.std.proofs.Common.{arith}
use Rattle.pauli.proofs.places.Places.is_zero.Goals as goal

pub returns : goal.returns
returns c = zero_halves c.args.self (record { low = omega arith; high = omega arith })
