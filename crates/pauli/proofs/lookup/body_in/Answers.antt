-- The body stands where the entry says, within the roll.
use Rattle.pauli.proofs.joined.JoinLaws.{accepted_room, accepted_start, accepted_body}
use Rattle.std.proofs.Common.{ℕ, refl, ap, arith}
use Rattle.pauli.specs.JoinCalls.{bytes_past}
use Rattle.pauli.proofs.lookup.body_in.Goals as goal

pub overflow_mul-start : goal.overflow_mul-start
overflow_mul-start c = omega (arith, accepted_room c.args.roll.bytes.now c.args.roll.count c.args.roll.accepted c.args.i c.requires c.entry-e.result c.entry-e.ensures.0)

pub overflow_add-start : goal.overflow_add-start
overflow_add-start c = omega (arith, accepted_room c.args.roll.bytes.now c.args.roll.count c.args.roll.accepted c.args.i c.requires c.entry-e.result c.entry-e.ensures.0)

pub overflow_mul-start-2 : goal.overflow_mul-start-2
overflow_mul-start-2 c = omega (arith, accepted_room c.args.roll.bytes.now c.args.roll.count c.args.roll.accepted c.args.i c.requires c.entry-e.result c.entry-e.ensures.0)

pub overflow_add-start-2 : goal.overflow_add-start-2
overflow_add-start-2 c = omega (arith, accepted_room c.args.roll.bytes.now c.args.roll.count c.args.roll.accepted c.args.i c.requires c.entry-e.result c.entry-e.ensures.0)

pub overflow_add-end-2 : goal.overflow_add-end-2
overflow_add-end-2 c = omega (arith, accepted_room c.args.roll.bytes.now c.args.roll.count c.args.roll.accepted c.args.i c.requires c.entry-e.result c.entry-e.ensures.0)

pub slice_bounds-result-end : goal.slice_bounds-result-end
slice_bounds-result-end c = omega (arith, accepted_room c.args.roll.bytes.now c.args.roll.count c.args.roll.accepted c.args.i c.requires c.entry-e.result c.entry-e.ensures.0)

pub returns : goal.returns
returns c =
    let b = c.args.roll.bytes in
    let start = accepted_start b.now c.args.roll.count c.args.roll.accepted c.args.i c.requires c.entry-e.result c.entry-e.ensures.0 0 _ refl in
    let body = accepted_body b.now c.args.roll.count c.args.roll.accepted c.args.i c.requires c.entry-e.result c.entry-e.ensures.0 _ _ refl refl in record { bytes = body; place = ap (λ (k : ℕ). bytes_past k b.ref_ptr) start }
