use Rattle.std.proofs.Common.{ap, sym, ◌∙◌}
use Rattle.pauli.specs.Refusals.{told_refusal}
use Rattle.window.proofs.marks.MarkCalls.{return_unknown, return_done}
use Rattle.window.proofs.marks.return_to.Goals as goal

pub returns-then-place-held_in : goal.returns-then-place-held_in
returns-then-place-held_in c =
    return_unknown c.args.w.now c.args.name.now c.told-w c.place_of-place.result c.place_of-place.ensures.0 _ (c.if-place-held_in.true ∙ c.held_in.ensures.0) (ap told_refusal c.into.ensures)

pub returns : goal.returns
returns c =
    return_done c.args.w.now c.args.name.now c.told-w c.place_of-place.result c.place_of-place.ensures.0 (λ e. c.if-place-held_in.false (e ∙ sym c.held_in.ensures.0))
    _ _ c.copy_within.ensures.after c.copy_within-2.ensures.after
