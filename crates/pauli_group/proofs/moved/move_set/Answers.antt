use Rattle.std.proofs.Common.{◌∙◌}
use Rattle.pauli_group.proofs.moved.MoveLaws.{moving_start, moving_place, moving_next, moving_end}
use Rattle.pauli_group.proofs.moved.move_set.Goals as goal

pub loop-p-init : goal.loop-p-init
loop-p-init c =
    let p = c.requires in
    let all = c.into_iter-p-iterator.ensures.into_iter_gives ∙ c.iter-p-items.ensures in
    (tt, tt, rw all (moving_start _ _ _ _ p.1 p.2 c.none-moved.ensures))

pub with_place-moved-requires : goal.with_place-moved-requires
with_place-moved-requires c =
    let p = c.requires in
    rw c.place_from-place.ensures (moving_place p.2 c.loop-p.invariant.2 _ _ c.in-Some.ensures.steps p.0 _ c.qubit_at.ensures)

pub loop-p-preserved : goal.loop-p-preserved
loop-p-preserved c =
    let p = c.requires in
    (tt, tt, moving_next p.2 c.loop-p.invariant.2 _ _ c.in-Some.ensures.steps p.0 _ c.qubit_at.ensures _ _ c.place_from-place.ensures c.with_place-moved.ensures)

pub returns : goal.returns
returns c = moving_end c.requires.2 c.loop-p.invariant.2 c.in-None.ensures.steps.0
