use Rattle.std.proofs.Common.{ap, ◌∙◌}
use Rattle.std.specs.Int.{w64, from_le_bytes}
use Rattle.window.specs.MarkLayout.{round_in}
use Rattle.window.proofs.round.round_in.Goals as goal

pub returns : goal.returns
unfolding round_in
returns c = c.from_le_bytes.ensures ∙ ap (from_le_bytes w64) c.copy_from_slice.ensures.after
