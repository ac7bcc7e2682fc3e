-- Invariant: the places of the first i numbers that are not named are put.
use Rattle.centralizer.proofs.stacked.StackedLaws.{UnitsUpTo}
use Rattle.centralizer.proofs.stacked.put_unnamed.Given as goal

abbrev pub invariant-loop-i : goal.invariant-loop-i
invariant-loop-i l = UnitsUpTo l.is_x l.named l.own l.first l.initial.w l.i l.count l.w
