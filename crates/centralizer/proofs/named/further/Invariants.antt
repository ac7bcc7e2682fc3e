-- Invariant: so many of the first numbers are not among the list's own.
use Rattle.std.proofs.Common.{◌≡◌, length}
use Rattle.centralizer.proofs.named.NamedLaws.{kept}
use Rattle.centralizer.proofs.named.further.Given as goal

abbrev pub invariant-loop-number : goal.invariant-loop-number
invariant-loop-number l = l.count ≡ length (kept l.own l.named l.number-index)
