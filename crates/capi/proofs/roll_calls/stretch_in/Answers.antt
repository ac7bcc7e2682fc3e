use mathlib.Core.Path.{sym, ap, ◌∙◌}
use native.Mathlib.Omega.{arith}
use Rattle.pauli.specs.Told.{answer}
use Rattle.pauli.proofs.joined.JoinLaws.{accepted_room}
use Rattle.capi.specs.Code.{code_body}
use Rattle.pauli.specs.JoinCalls.{Stretch}
use Rattle.capi.proofs.roll_calls.StretchLaws.{stretch_is}
use Rattle.capi.proofs.roll_calls.stretch_in.Goals as goal

pub overflow_mul-roll : goal.overflow_mul-roll
overflow_mul-roll c = omega (arith, accepted_room c.args.roll.bytes.now c.args.roll.count c.args.roll.accepted c.args.i c.requires c.entry-e.result c.entry-e.ensures.0)

pub overflow_add-roll : goal.overflow_add-roll
overflow_add-roll c = omega (arith, accepted_room c.args.roll.bytes.now c.args.roll.count c.args.roll.accepted c.args.i c.requires c.entry-e.result c.entry-e.ensures.0)

pub overflow_mul-e : goal.overflow_mul-e
overflow_mul-e c = omega (arith, accepted_room c.args.roll.bytes.now c.args.roll.count c.args.roll.accepted c.args.i c.requires c.entry-e.result c.entry-e.ensures.0)

pub overflow_add-roll-2 : goal.overflow_add-roll-2
overflow_add-roll-2 c = omega (arith, accepted_room c.args.roll.bytes.now c.args.roll.count c.args.roll.accepted c.args.i c.requires c.entry-e.result c.entry-e.ensures.0)

pub returns : goal.returns
returns c = c.code_values.ensures ∙ ap (λ (s : Stretch). code_body (answer s)) (sym (stretch_is c.args.side c.args.roll.bytes.now c.args.roll.count c.args.roll.accepted c.args.i c.entry-e.result c.entry-e.ensures.0))
