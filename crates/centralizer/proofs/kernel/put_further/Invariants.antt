-- Invariant: X and Z on those of the first i named qubits that are not among the list's own are put.
use Rattle.centralizer.proofs.kernel.FurtherLaws.{FurtherUpTo}
use Rattle.centralizer.proofs.kernel.put_further.Given as goal

abbrev pub invariant-loop-i : goal.invariant-loop-i
invariant-loop-i l = FurtherUpTo l.own l.named l.first l.initial.w l.i l.count l.w
