-- Invariant: the first i elements are written.
use Rattle.pauli_group.specs.Inner.Lists.{step_told}
use Rattle.pauli_group.proofs.listing.PageLaws.{Listed}
use Rattle.pauli_group.proofs.listing.put_elements.Given as goal

abbrev pub invariant-loop-i : goal.invariant-loop-i
invariant-loop-i l = Listed l.initial.w l.rank (step_told l.fn.phases) l.start l.n l.i l.w
