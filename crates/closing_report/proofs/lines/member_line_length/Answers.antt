-- The lengths of the pieces.
use native.Mathlib.Omega.{arith}
use lib.ListN.{length-append}
use Rattle.closing_report.specs.Decimal.{ascii}
use Rattle.closing_report.specs.Lines.{member_line, labelled, line_feed}
use Rattle.closing_report.proofs.lines.member_line_length.Goals as goal

pub returns : goal.returns
unfolding member_line labelled ascii line_feed
returns c = (simp length-append (omega arith), omega arith)
