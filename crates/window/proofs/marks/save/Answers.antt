use Rattle.std.proofs.Common.{ap}
use Rattle.pauli.specs.Refusals.{told_refusal}
use Rattle.window.proofs.marks.MarkCalls.{save_full, save_done}
use Rattle.window.proofs.marks.save.Goals as goal

pub returns-then-place-eq-MOST_MARKS : goal.returns-then-place-eq-MOST_MARKS
returns-then-place-eq-MOST_MARKS c =
    save_full c.args.w.now c.args.name.now c.told-w c.place_of-place.result c.place_of-place.ensures.0 _ c.if-place-eq-MOST_MARKS.true (ap told_refusal c.into.ensures)

pub returns : goal.returns
returns c =
    save_done c.args.w.now c.args.name.now c.told-w c.place_of-place.result c.place_of-place.ensures.0 c.told-name c.if-place-eq-MOST_MARKS.false c.held_in.result c.max-held.result
    c.held_in.ensures.0 c.max-held.ensures _ c.put_mark.ensures
