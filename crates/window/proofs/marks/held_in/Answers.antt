use Rattle.std.proofs.Common.{arith}
use Rattle.window.specs.MarkHistory.{most_marks}
use Rattle.window.specs.MarkLayout.{held_in}
use Rattle.window.proofs.marks.held_in.Goals as goal

pub returns : goal.returns
unfolding held_in most_marks
returns c = (c.min.ensures, omega (arith, c.min.ensures))
