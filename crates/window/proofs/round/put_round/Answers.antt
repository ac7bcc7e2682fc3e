use Rattle.std.proofs.Common.{refl, ◌∙◌}
use Rattle.std.specs.Int.{w64, to_le_bytes}
use Rattle.pauli.proofs.write.Puts.{put_part}
use Rattle.window.specs.MarkLayout.{with_round}
use Rattle.window.proofs.round.put_round.Goals as goal

pub returns : goal.returns
unfolding with_round
returns c = put_part _ _ (to_le_bytes w64 c.args.round) _ _ (c.copy_from_slice.ensures.after ∙ c.to_le_bytes.ensures) refl
