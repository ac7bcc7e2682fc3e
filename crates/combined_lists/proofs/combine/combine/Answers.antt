-- The first refusal of the checks is told; after them the line is worked out.
use Rattle.std.proofs.Common.{length-take-le}
use Rattle.combined_lists.specs.Combining.{line_words}
use Rattle.combined_lists.proofs.combine.CombineLaws.{line_stops, ready, tree_is, rolls_stop, words_stop, line_passes, turned_back, worked_out}
use Rattle.combined_lists.proofs.combine.combine.Goals as goal

pub returns-in_err-check_line : goal.returns-in_err-check_line
returns-in_err-check_line c = turned_back _ _ _ _ _ _ c.from_residual.ensures.1 (line_stops _ _ _ _ _ c.in_err-check_line.ensures)

pub returns-in_err-sent : goal.returns-in_err-sent
returns-in_err-sent c =
    turned_back _ _ _ _ _ _ c.from_residual-in_err-sent.ensures.1 (rolls_stop _ _ _ c.in_ok-check_line.ensures _ _ _ c.in_err-sent.ensures.told)

pub returns-in_err-check_words : goal.returns-in_err-check_words
returns-in_err-check_words c =
    turned_back _ _ _ _ _ _ c.from_residual-in_err-check_words.ensures.1
    (words_stop _ _ _ c.in_ok-check_line.ensures _ c.in_ok-sent.ensures.told _ _ c.in_err-check_words.ensures.told)

pub write_line-requires : goal.write_line-requires
write_line-requires c = ready _ _ 0 c.in_ok-check_line.ensures c.in_ok-sent.ensures.rolls

pub returns : goal.returns
returns c =
    let line = c.in_ok-check_line.ensures in
    let work = c.args.work.now in
    let room = c.in_ok-check_words.ensures.room in
    let tree = tree_is _ _ _ line in
    worked_out _ _ work _ line c.in_ok-sent.ensures.rolls (line_passes _ _ _ line _ c.in_ok-sent.ensures.told room) _ _ _ room
    (c.write_line.ensures.told _ tree) (c.write_line.ensures.left _ tree) (c.write_line.ensures.area _ (length-take-le line_words work room))
