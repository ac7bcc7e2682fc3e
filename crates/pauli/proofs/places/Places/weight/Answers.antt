-- The ones of both words.
use Rattle.std.proofs.Common.{sym, arith}
use Rattle.pauli.proofs.places.Halves.{weight_halves}
use lib.Count.{ones-le}
use Rattle.pauli.proofs.places.Places.weight.Goals as goal

pub returns : goal.returns
returns c = (sym (weight_halves c.args.self (record { low = omega arith; high = omega arith })), omega (arith, ones-le 64 c.args.self.low (omega arith), ones-le 64 c.args.self.high (omega arith)))
