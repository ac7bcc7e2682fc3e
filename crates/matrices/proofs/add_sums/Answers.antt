-- Rows below 2 * half lie in the slice, each apart from the others.
use Rattle.std.proofs.Common.{◌+◌, ◌-◌, arith}
use Rattle.binar.proofs.echelon.Matrix.{two_rows}
use Rattle.matrices.proofs.add_sums.Goals as goal

pub bitxor_assign-requires-in-loop-i : goal.bitxor_assign-requires-in-loop-i
bitxor_assign-requires-in-loop-i c = two_rows _ (c.args.half + c.args.half) _ (c.args.half + c.loop-i.i) (c.args.half - 1 - c.loop-i.i) (omega arith) (omega arith) (omega arith)
