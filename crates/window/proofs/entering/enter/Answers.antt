-- What stays is written, then joined with the check's roll.
use Rattle.std.proofs.Common.{◌+◌, ◌-◌, ℕ, ap, sym, ◌∙◌, arith, length, length-take-le}
use Rattle.pauli.proofs.joined.JoinLaws.{accepted_few}
use Rattle.pauli.proofs.refusal.HandedOn.{handed_on}
use Rattle.pauli.specs.Refusals.{told_of}
use Rattle.pauli.specs.Roll.{most_paulis, count_of}
use Rattle.window.proofs.entering.EnteringLaws.{enter_room, enter_told, enter_left, told_forged, left_forged}
use Rattle.window.proofs.later.LaterLaws.{later_short}
use Rattle.window.proofs.entering.enter.Goals as goal

pub returns-in_err-inside-clause-told : goal.returns-in_err-inside-clause-told
returns-in_err-inside-clause-told c =
    ap told_of (handed_on _ _ c.from_residual.ensures.1)
    ∙ told_forged c.args.w.now c.args.b.now c.requires _ _ (sym (c.in_err-inside.ensures.count ∙ ap count_of c.roll_in.ensures.0))

pub returns-in_err-inside-clause-left : goal.returns-in_err-inside-clause-left
returns-in_err-inside-clause-left c =
    left_forged c.args.w.now c.args.b.now c.requires _ _ (sym (c.in_err-inside.ensures.count ∙ ap count_of c.roll_in.ensures.0))

pub leaving-requires : goal.leaving-requires
unfolding most_paulis
leaving-requires c = let roll = c.in_ok-inside.inside in omega (arith, accepted_few roll.bytes.now roll.count roll.accepted)

pub slice_bounds-staying-end : goal.slice_bounds-staying-end
slice_bounds-staying-end c =
    let roll = c.in_ok-inside.inside in
    let same = ap (λ r. length r.now) c.in_ok-inside.ensures.bytes in
    omega (arith, c.write_later-size.ensures.size, later_short roll.bytes.now roll.count roll.accepted c.leaving.result, same, c.roll_in.ensures.1, c.write_later-size.auto.out)

pub slice_bounds-put_joined-end : goal.slice_bounds-put_joined-end
slice_bounds-put_joined-end c =
    let roll = c.in_ok-inside.inside in
    let same = ap (λ r. length r.now) c.in_ok-inside.ensures.bytes in
    sym (length-take-le c.write_later-size.result c.write_later-size.new.out
    (omega (arith, c.write_later-size.ensures.size, later_short roll.bytes.now roll.count roll.accepted c.leaving.result, same, c.roll_in.ensures.1, c.write_later-size.auto.out)))

pub put_joined-requires : goal.put_joined-requires
put_joined-requires c =
    let roll = c.in_ok-inside.inside in
    enter_room c.args.w.now c.args.b.now c.requires roll.count (sym (c.in_ok-inside.ensures.count ∙ ap count_of c.roll_in.ensures.0)) c.leaving.result
    (c.leaving.ensures ∙ ap (λ (v : ℕ). roll.count + 1 - v) c.width_in-width.ensures.0) roll.bytes.now (ap (λ r. r.now) c.in_ok-inside.ensures.bytes ∙ c.roll_in.ensures.0)
    _ c.write_later-size.new.out c.write_later-size.ensures.left c.write_later-size.result c.write_later-size.ensures.size

pub returns-clause-told : goal.returns-clause-told
returns-clause-told c =
    let roll = c.in_ok-inside.inside in
    c.put_joined.ensures.told ∙ enter_told c.args.w.now c.args.b.now c.requires roll.count (sym (c.in_ok-inside.ensures.count ∙ ap count_of c.roll_in.ensures.0)) c.leaving.result
    (c.leaving.ensures ∙ ap (λ (v : ℕ). roll.count + 1 - v) c.width_in-width.ensures.0) roll.bytes.now (ap (λ r. r.now) c.in_ok-inside.ensures.bytes ∙ c.roll_in.ensures.0)
    _ c.write_later-size.new.out c.write_later-size.ensures.left c.write_later-size.result c.write_later-size.ensures.size

pub returns-clause-left : goal.returns-clause-left
returns-clause-left c =
    let roll = c.in_ok-inside.inside in
    c.put_joined.ensures.left ∙ enter_left c.args.w.now c.args.b.now c.requires roll.count (sym (c.in_ok-inside.ensures.count ∙ ap count_of c.roll_in.ensures.0)) c.leaving.result
    (c.leaving.ensures ∙ ap (λ (v : ℕ). roll.count + 1 - v) c.width_in-width.ensures.0) roll.bytes.now (ap (λ r. r.now) c.in_ok-inside.ensures.bytes ∙ c.roll_in.ensures.0)
    _ c.write_later-size.new.out c.write_later-size.ensures.left c.write_later-size.result c.write_later-size.ensures.size
