-- The pieces are put one behind the other.
use Rattle.pauli.specs.Refusals.{number_of}
use Rattle.closing_report.specs.Decimal.{ascii}
use Rattle.closing_report.specs.Lines.{refused_line, labelled, line_feed}
use Rattle.closing_report.proofs.lines.LineLaws.{refused_pieces}
use Rattle.factorizations.proofs.records.PutLaws.{joined, room, begun, next_room, next_put}
use Rattle.closing_report.proofs.lines.put_refused_line.Goals as goal

pub put_labelled-place-requires : goal.put_labelled-place-requires
unfolding refused_line refused_pieces joined ascii line_feed
put_labelled-place-requires c =
    rw c.number_of.ensures (room _ _ (labelled (ascii "refused ") (number_of c.args.refusal.reason)) (refused_pieces c.args.refusal.place c.args.roll) c.requires)

pub put_labelled-roll_at-requires : goal.put_labelled-roll_at-requires
unfolding refused_line refused_pieces joined ascii line_feed
put_labelled-roll_at-requires c =
    let one = begun (refused_pieces c.args.refusal.place c.args.roll) c.requires (rw c.number_of.ensures at c.put_labelled-place.ensures) in
    next_room one

pub put_labelled-end-requires : goal.put_labelled-end-requires
unfolding refused_line refused_pieces joined ascii line_feed
put_labelled-end-requires c =
    let one = begun (refused_pieces c.args.refusal.place c.args.roll) c.requires (rw c.number_of.ensures at c.put_labelled-place.ensures) in
    let two = next_put one c.put_labelled-roll_at.ensures in
    next_room two

pub put_text-requires : goal.put_text-requires
unfolding refused_line refused_pieces joined ascii line_feed
put_text-requires c =
    let one = begun (refused_pieces c.args.refusal.place c.args.roll) c.requires (rw c.number_of.ensures at c.put_labelled-place.ensures) in
    let two = next_put one c.put_labelled-roll_at.ensures in
    let three = next_put two c.put_labelled-end.ensures in
    next_room three

pub returns : goal.returns
unfolding refused_line refused_pieces joined ascii line_feed
returns c =
    let one = begun (refused_pieces c.args.refusal.place c.args.roll) c.requires (rw c.number_of.ensures at c.put_labelled-place.ensures) in
    let two = next_put one c.put_labelled-roll_at.ensures in
    let three = next_put two c.put_labelled-end.ensures in
    (next_put three c.put_text.ensures).put
