-- Invariant: row i of the triangle.
use Rattle.std.proofs.Common.{◌≤◌}
use Rattle.pauli_group.specs.Inner.Listed.{RowOf}
use Rattle.pauli_group.proofs.listing.binomial.Given as goal

abbrev pub invariant-loop-i : goal.invariant-loop-i
invariant-loop-i l = (l.i ≤ l.n) × RowOf l.i l.row
