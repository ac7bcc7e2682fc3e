-- Measure: how much of the script is left.
use Rattle.std.proofs.Common.{length}
use Rattle.replay.proofs.script.run_steps.Given as goal

abbrev pub decreases-loop-rest : goal.decreases-loop-rest
decreases-loop-rest g l = length l.rest
