use Rattle.std.proofs.Common.{arith}
use Rattle.window.specs.History.{widest}
use Rattle.window.specs.Layout.{width_in}
use Rattle.window.proofs.layout.width_in.Goals as goal

pub returns : goal.returns
unfolding width_in widest
returns c = (omega (arith, c.max.ensures, c.min.ensures, c.u16_at.ensures.0), omega (arith, c.max.ensures), omega (arith, c.max.ensures, c.min.ensures))
