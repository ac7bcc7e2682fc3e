use Rattle.std.proofs.Common.{ap, sym, ◌∙◌}
use Rattle.pauli.specs.Refusals.{told_refusal}
use Rattle.window.proofs.marks.MarkCalls.{delete_unknown, delete_done}
use Rattle.window.proofs.marks.delete.Goals as goal

pub returns-then-place-held : goal.returns-then-place-held
returns-then-place-held c =
    delete_unknown c.args.w.now c.args.name.now c.told-w c.place_of-place.result c.place_of-place.ensures.0 _ (c.if-place-held.true ∙ c.held_in-held.ensures.0) (ap told_refusal c.into.ensures)

pub returns : goal.returns
returns c =
    delete_done c.args.w.now c.args.name.now c.told-w c.place_of-place.result c.place_of-place.ensures.0 (λ e. c.if-place-held.false (e ∙ sym c.held_in-held.ensures.0))
    c.held_in-held.result c.held_in-held.ensures.0 _ c.copy_within.ensures.after
