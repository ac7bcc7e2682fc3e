-- The pieces are put one behind the other.
use Rattle.closing_report.specs.Decimal.{ascii, digits}
use Rattle.closing_report.specs.Lines.{member_line, line_feed}
use Rattle.closing_report.proofs.lines.LineLaws.{other_pieces}
use Rattle.factorizations.proofs.records.PutLaws.{joined, room, begun, next_room, next_put}
use Rattle.closing_report.proofs.lines.put_other_line.Goals as goal

pub put_number-text-requires : goal.put_number-text-requires
unfolding member_line other_pieces joined ascii line_feed
put_number-text-requires c =
    room _ _ (digits c.args.i) other_pieces c.requires

pub put_text-behind-requires : goal.put_text-behind-requires
unfolding member_line other_pieces joined ascii line_feed
put_text-behind-requires c =
    let one = begun other_pieces c.requires c.put_number-text.ensures in
    next_room one

pub put_text-requires : goal.put_text-requires
unfolding member_line other_pieces joined ascii line_feed
put_text-requires c =
    let one = begun other_pieces c.requires c.put_number-text.ensures in
    let two = next_put one c.put_text-behind.ensures in
    next_room two

pub returns : goal.returns
unfolding member_line other_pieces joined ascii line_feed
returns c =
    let one = begun other_pieces c.requires c.put_number-text.ensures in
    let two = next_put one c.put_text-behind.ensures in
    (next_put two c.put_text.ensures).put
