-- The pieces are put one behind the other.
use Rattle.pauli_group.specs.Inner.Lists.{step_told}
use Rattle.pauli_group.specs.Answers.{yes_number}
use Rattle.closing_report.specs.Decimal.{ascii}
use Rattle.closing_report.specs.Lines.{first_line, labelled, line_feed}
use Rattle.closing_report.proofs.lines.LineLaws.{first_pieces}
use Rattle.factorizations.proofs.records.PutLaws.{joined, room, begun, next_room, next_put}
use Rattle.closing_report.proofs.lines.put_first_line.Goals as goal

pub put_labelled-phases-requires : goal.put_labelled-phases-requires
unfolding first_line first_pieces joined ascii line_feed
put_labelled-phases-requires c =
    room _ _ (labelled (ascii "rank ") c.args.group.rank) (first_pieces (step_told c.args.group.signs.phases) (yes_number c.args.group.signs.clash)) c.requires

pub put_text-step_at-requires : goal.put_text-step_at-requires
unfolding first_line first_pieces joined ascii line_feed
put_text-step_at-requires c =
    let one = begun (first_pieces (step_told c.args.group.signs.phases) (yes_number c.args.group.signs.clash)) c.requires c.put_labelled-phases.ensures in
    next_room one

pub put_text-abelian-requires : goal.put_text-abelian-requires
unfolding first_line first_pieces joined ascii line_feed
put_text-abelian-requires c =
    let one = begun (first_pieces (step_told c.args.group.signs.phases) (yes_number c.args.group.signs.clash)) c.requires c.put_labelled-phases.ensures in
    let two = next_put one c.put_text-step_at.ensures in
    rw c.phases_word.ensures.0 (next_room two)

pub put_text-clash_at-requires : goal.put_text-clash_at-requires
unfolding first_line first_pieces joined ascii line_feed
put_text-clash_at-requires c =
    let one = begun (first_pieces (step_told c.args.group.signs.phases) (yes_number c.args.group.signs.clash)) c.requires c.put_labelled-phases.ensures in
    let two = next_put one c.put_text-step_at.ensures in
    let three = next_put two (rw c.phases_word.ensures.0 at c.put_text-abelian.ensures) in
    next_room three

pub put_text-end-requires : goal.put_text-end-requires
unfolding first_line first_pieces joined ascii line_feed
put_text-end-requires c =
    let one = begun (first_pieces (step_told c.args.group.signs.phases) (yes_number c.args.group.signs.clash)) c.requires c.put_labelled-phases.ensures in
    let two = next_put one c.put_text-step_at.ensures in
    let three = next_put two (rw c.phases_word.ensures.0 at c.put_text-abelian.ensures) in
    let four = next_put three c.put_text-clash_at.ensures in
    rw c.abelian_word.ensures.0 (next_room four)

pub put_text-requires : goal.put_text-requires
unfolding first_line first_pieces joined ascii line_feed
put_text-requires c =
    let one = begun (first_pieces (step_told c.args.group.signs.phases) (yes_number c.args.group.signs.clash)) c.requires c.put_labelled-phases.ensures in
    let two = next_put one c.put_text-step_at.ensures in
    let three = next_put two (rw c.phases_word.ensures.0 at c.put_text-abelian.ensures) in
    let four = next_put three c.put_text-clash_at.ensures in
    let five = next_put four (rw c.abelian_word.ensures.0 at c.put_text-end.ensures) in
    next_room five

pub returns : goal.returns
unfolding first_line first_pieces joined ascii line_feed
returns c =
    let one = begun (first_pieces (step_told c.args.group.signs.phases) (yes_number c.args.group.signs.clash)) c.requires c.put_labelled-phases.ensures in
    let two = next_put one c.put_text-step_at.ensures in
    let three = next_put two (rw c.phases_word.ensures.0 at c.put_text-abelian.ensures) in
    let four = next_put three c.put_text-clash_at.ensures in
    let five = next_put four (rw c.abelian_word.ensures.0 at c.put_text-end.ensures) in
    (next_put five c.put_text.ensures).put
