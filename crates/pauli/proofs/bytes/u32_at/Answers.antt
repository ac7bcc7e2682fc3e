-- The sum of the bytes, by place.
use Rattle.pauli.specs.Bytes.{u32_at}
use Rattle.std.proofs.Common.{arith}
use Rattle.pauli.proofs.bytes.u32_at.Goals as goal

pub returns : goal.returns
unfolding u32_at
returns c = omega arith
