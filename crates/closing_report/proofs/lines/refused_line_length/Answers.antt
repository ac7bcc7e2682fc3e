-- The lengths of the pieces.
use native.Mathlib.Omega.{arith}
use lib.ListN.{length-append}
use Rattle.closing_report.specs.Decimal.{ascii}
use Rattle.closing_report.specs.Lines.{refused_line, labelled, line_feed}
use Rattle.closing_report.proofs.lines.refused_line_length.Goals as goal

pub returns : goal.returns
unfolding refused_line labelled ascii line_feed
returns c = simp length-append (rw (← c.number_of.ensures) (omega arith, omega arith))
