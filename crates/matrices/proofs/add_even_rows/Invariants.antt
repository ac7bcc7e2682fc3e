use Rattle.std.proofs.Common.{◌-◌}
use Rattle.matrices.proofs.add_even_rows.Given as goal

abbrev pub decreases-loop-i : goal.decreases-loop-i
decreases-loop-i l = l.shape.rows - l.i
