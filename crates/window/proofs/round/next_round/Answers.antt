use Rattle.std.proofs.Common.{arith}
use Rattle.window.specs.MarkHistory.{most_round}
use Rattle.window.specs.MarkLayout.{next_round}
use Rattle.window.proofs.round.next_round.Goals as goal

pub returns : goal.returns
unfolding next_round most_round
returns c = omega (arith, c.saturating_add.ensures)
