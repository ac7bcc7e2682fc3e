-- The pieces are put one behind the other.
use Rattle.pauli.specs.PlaceSet.{set_in}
use Rattle.closing_report.specs.Decimal.{ascii, digits}
use Rattle.closing_report.specs.Lines.{member_line, line_feed}
use Rattle.closing_report.proofs.lines.LineLaws.{member_pieces}
use Rattle.factorizations.proofs.records.PutLaws.{joined, room, begun, next_room, next_put}
use Rattle.closing_report.proofs.lines.put_member_line.Goals as goal

pub put_number-member-requires : goal.put_number-member-requires
unfolding member_line member_pieces joined ascii line_feed
put_number-member-requires c =
    room _ _ (digits c.args.i) (member_pieces (set_in c.args.found.set) c.args.found.exponent) c.requires

pub put_text-indexes-requires : goal.put_text-indexes-requires
unfolding member_line member_pieces joined ascii line_feed
put_text-indexes-requires c =
    let one = begun (member_pieces (set_in c.args.found.set) c.args.found.exponent) c.requires c.put_number-member.ensures in
    next_room one

pub put_indexes-phase-requires : goal.put_indexes-phase-requires
unfolding member_line member_pieces joined ascii line_feed
put_indexes-phase-requires c =
    let one = begun (member_pieces (set_in c.args.found.set) c.args.found.exponent) c.requires c.put_number-member.ensures in
    let two = next_put one c.put_text-indexes.ensures in
    next_room two

pub put_labelled-end-requires : goal.put_labelled-end-requires
unfolding member_line member_pieces joined ascii line_feed
put_labelled-end-requires c =
    let one = begun (member_pieces (set_in c.args.found.set) c.args.found.exponent) c.requires c.put_number-member.ensures in
    let two = next_put one c.put_text-indexes.ensures in
    let three = next_put two c.put_indexes-phase.ensures in
    next_room three

pub put_text-requires : goal.put_text-requires
unfolding member_line member_pieces joined ascii line_feed
put_text-requires c =
    let one = begun (member_pieces (set_in c.args.found.set) c.args.found.exponent) c.requires c.put_number-member.ensures in
    let two = next_put one c.put_text-indexes.ensures in
    let three = next_put two c.put_indexes-phase.ensures in
    let four = next_put three c.put_labelled-end.ensures in
    next_room four

pub returns : goal.returns
unfolding member_line member_pieces joined ascii line_feed
returns c =
    let one = begun (member_pieces (set_in c.args.found.set) c.args.found.exponent) c.requires c.put_number-member.ensures in
    let two = next_put one c.put_text-indexes.ensures in
    let three = next_put two c.put_indexes-phase.ensures in
    let four = next_put three c.put_labelled-end.ensures in
    (next_put four c.put_text.ensures).put
