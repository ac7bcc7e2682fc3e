use Rattle.std.proofs.Common.{refl, arith, add-zero, add_assoc, drop_of_length-le}
use Rattle.pauli.proofs.write.Puts.{left_start, left_done, byte_copied}
use Rattle.pauli.proofs.write.put_slice.Goals as goal

pub loop-k-init : goal.loop-k-init
loop-k-init c = (omega arith, rw add-zero (left_start _ _ _ _ refl c.requires))

pub loop-k-preserved : goal.loop-k-preserved
loop-k-preserved c = (omega arith, rw add_assoc at (byte_copied c.args.bytes.now c.loop-k.k c.loop-k-test.true c.loop-k.invariant.1))

pub returns : goal.returns
returns c = (left_done c.loop-k.invariant.1 (drop_of_length-le c.args.bytes.now (omega arith))).0
