-- By halves.
use Rattle.pauli.proofs.places.Halves.{dot_halves}
use Rattle.std.proofs.Common.{arith}
use Rattle.pauli.proofs.places.Places.dot.Goals as goal

pub returns : goal.returns
returns c = (dot_halves c.args.self c.args.other (record { low = omega arith; high = omega arith }) (record { low = omega arith; high = omega arith }), omega arith)
