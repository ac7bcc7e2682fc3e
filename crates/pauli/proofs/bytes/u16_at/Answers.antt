-- The sum of the bytes, by place.
use Rattle.pauli.specs.Bytes.{u16_at}
use Rattle.std.proofs.Common.{arith}
use Rattle.pauli.proofs.bytes.u16_at.Goals as goal

pub returns : goal.returns
unfolding u16_at
returns c = omega arith
