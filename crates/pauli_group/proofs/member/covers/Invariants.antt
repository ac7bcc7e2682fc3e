-- Invariant: the answer is that for the numbers left.
use Rattle.pauli_group.proofs.member.MemberLaws.{CoveredFrom}
use Rattle.pauli_group.proofs.member.covers.Given as goal

abbrev pub invariant-loop-bytes : goal.invariant-loop-bytes
invariant-loop-bytes l = CoveredFrom l.support l.numbers l.from.0 l.last.0 l.bytes-index
