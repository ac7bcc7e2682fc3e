-- The lengths of the pieces.
use Rattle.std.proofs.Common.{arith, length, length-append, ap}
use Rattle.closing_report.specs.Decimal.{ascii}
use Rattle.closing_report.specs.Lines.{first_line, labelled, line_feed}
use Rattle.closing_report.proofs.lines.first_line_length.Goals as goal

pub returns : goal.returns
unfolding first_line labelled ascii line_feed
returns c =
    let phases = ap length c.phases_word.ensures.0 in
    let abelian = ap length c.abelian_word.ensures.0 in
    (simp length-append (omega (arith, phases, abelian)), omega arith)
