-- Invariant: the list rises if the numbers that are left do, from the one after the last.
use Rattle.std.proofs.Common.{◌≡◌, drop}
use Rattle.centralizer.specs.Calls.{rises_from}
use Rattle.centralizer.proofs.named.is_rising.Given as goal

abbrev pub invariant-loop-number : goal.invariant-loop-number
invariant-loop-number l = rises_from 0 l.named ≡ rises_from l.least (drop l.number-index l.named)
