-- Invariant: the first i rows are written, and the list behind the rows is as it was.
use Rattle.pauli_group.proofs.rows.RowLaws.{RowsUpTo}
use Rattle.pauli_group.proofs.rows.put_rows.Given as goal

abbrev pub invariant-loop-i : goal.invariant-loop-i
invariant-loop-i l = RowsUpTo l.s l.stride l.list.base l.list.count l.initial.w l.i l.w
