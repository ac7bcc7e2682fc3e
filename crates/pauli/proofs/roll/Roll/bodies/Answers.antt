-- By the length of an accepted roll.
use Rattle.std.proofs.Common.{◌≡◌, ◌+◌, ◌-◌, ◌*◌, length, take, drop, sym, ap, ◌∙◌, arith, take_all, length-drop, drop-drop}
use Rattle.pauli.proofs.joined.JoinLaws.{accepted_length, accepted_bodies}
use Rattle.pauli.proofs.roll.Roll.bodies.Goals as goal

pub overflow_mul-result : goal.overflow_mul-result
overflow_mul-result c = omega (arith, accepted_length c.args.self.bytes.now c.args.self.count c.args.self.accepted, c.requires)

pub overflow_add-result : goal.overflow_add-result
overflow_add-result c = omega (arith, accepted_length c.args.self.bytes.now c.args.self.count c.args.self.accepted, c.requires)

pub overflow_mul-result-2 : goal.overflow_mul-result-2
overflow_mul-result-2 c = omega (arith, accepted_length c.args.self.bytes.now c.args.self.count c.args.self.accepted, c.requires)

pub overflow_add-result-2 : goal.overflow_add-result-2
overflow_add-result-2 c = omega (arith, accepted_length c.args.self.bytes.now c.args.self.count c.args.self.accepted, c.requires)

pub slice_bounds-result-count : goal.slice_bounds-result-count
slice_bounds-result-count c = omega (arith, accepted_length c.args.self.bytes.now c.args.self.count c.args.self.accepted, c.requires)

pub slice_bounds-result-start : goal.slice_bounds-result-start
slice_bounds-result-start c = omega (arith, accepted_length c.args.self.bytes.now c.args.self.count c.args.self.accepted, c.requires)

pub returns : goal.returns
returns c =
    let b = c.args.self.bytes.now in
    let table = 2 + 10 * c.args.self.count in
    let start = table + 4 * c.args.past in
    let whole : take (length b - start) (drop start b) ≡ drop start b = take_all (length b - start) (drop start b) (omega (arith, length-drop start b)) in
    whole ∙ sym (drop-drop (4 * c.args.past) table b) ∙ ap (drop (4 * c.args.past)) (sym (accepted_bodies b c.args.self.count c.args.self.accepted c.args.self.low))
