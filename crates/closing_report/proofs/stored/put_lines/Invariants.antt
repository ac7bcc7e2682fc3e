-- Invariant: the lines from element i on are left to put.
use Rattle.std.proofs.Common.{◌≤◌, length}
use Rattle.pauli.proofs.write.Puts.{Left}
use Rattle.factorizations.specs.Stored.{results_in}
use Rattle.factorizations.proofs.stored.PieceLaws.{pieces_from}
use Rattle.closing_report.specs.Lines.{member_lines}
use Rattle.closing_report.proofs.stored.StoredLaws.{lines}
use Rattle.closing_report.proofs.stored.put_lines.Given as goal

abbrev pub invariant-loop-i : goal.invariant-loop-i
invariant-loop-i l =
    (l.i ≤ length l.results) × Left l.initial.out l.at (member_lines 0 (results_in l.results)) l.out l.next (pieces_from lines l.results l.i)
