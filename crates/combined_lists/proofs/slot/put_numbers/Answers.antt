use Rattle.std.proofs.Common.{◌∙◌, arith}
use Rattle.combined_lists.proofs.slot.SlotLaws.{putting_start, putting_in, putting_room, putting_next, putting_end, putting_fit}
use Rattle.combined_lists.proofs.slot.put_numbers.Goals as goal

pub loop-p-init : goal.loop-p-init
loop-p-init c =
    let all = c.into_iter-p-iterator.ensures.into_iter_gives ∙ c.iter-p-items.ensures in
    (tt, tt, rw all (putting_start _ _ _ c.told-slot c.requires.1))

pub qubit_at-requires : goal.qubit_at-requires
qubit_at-requires c = putting_in _ _ c.requires.0 c.loop-p.invariant.2 _ _ c.in-Some.ensures.steps

pub overflow_add-slot : goal.overflow_add-slot
overflow_add-slot c = omega (arith, putting_room _ _ c.requires.0 c.loop-p.invariant.2 _ _ c.in-Some.ensures.steps)

pub offset_bounds-slot-count : goal.offset_bounds-slot-count
offset_bounds-slot-count c = omega (arith, putting_room _ _ c.requires.0 c.loop-p.invariant.2 _ _ c.in-Some.ensures.steps)

pub bounds-slot-count : goal.bounds-slot-count
bounds-slot-count c = omega (arith, putting_room _ _ c.requires.0 c.loop-p.invariant.2 _ _ c.in-Some.ensures.steps)

pub overflow_add-count : goal.overflow_add-count
overflow_add-count c = omega (arith, putting_room _ _ c.requires.0 c.loop-p.invariant.2 _ _ c.in-Some.ensures.steps)

pub loop-p-preserved : goal.loop-p-preserved
loop-p-preserved c = (tt, tt, putting_next _ _ c.requires.0 c.loop-p.invariant.2 _ _ c.in-Some.ensures.steps _ c.qubit_at.ensures (omega (arith, c.qubit_at.ensures, c.type_inv.joint c.in-Some.p.0)))

pub returns : goal.returns
returns c = record {
  qubits = putting_end _ _ c.requires.0 c.loop-p.invariant.2 c.in-None.ensures.steps.0;
  fit = putting_fit _ _ c.requires.0 c.loop-p.invariant.2 c.in-None.ensures.steps.0;
}
