-- The body stands where the entry says, within the roll.
use Rattle.std.proofs.Common.{ℕ, List, sym, ap, ◌∙◌, arith}
use Rattle.pauli.proofs.signed.Algebra.{pauli_path}
use Rattle.pauli.proofs.condense.BodyLaws.{body_room, exponent_is, xs_is, zs_is}
use Rattle.pauli.specs.Condense.{list_of, nothing, condensed}
use Rattle.pauli.specs.Sets.{condense, set_of, pauli_of}
use Rattle.pauli.specs.Signed.{held}
use Rattle.pauli.proofs.condense.condense_from.Goals as goal

pub overflow_mul-at : goal.overflow_mul-at
overflow_mul-at c = omega (arith, body_room c.args.roll.bytes.now (list_of c.args.roll.bytes.now) c.requires.0.accepted c.args.roll.count c.requires.0.count c.args.i c.requires.0.number c.entry-e.result c.entry-e.ensures.0)

pub overflow_add-at : goal.overflow_add-at
overflow_add-at c = omega (arith, body_room c.args.roll.bytes.now (list_of c.args.roll.bytes.now) c.requires.0.accepted c.args.roll.count c.requires.0.count c.args.i c.requires.0.number c.entry-e.result c.entry-e.ensures.0)

pub overflow_mul-at-2 : goal.overflow_mul-at-2
overflow_mul-at-2 c = omega (arith, body_room c.args.roll.bytes.now (list_of c.args.roll.bytes.now) c.requires.0.accepted c.args.roll.count c.requires.0.count c.args.i c.requires.0.number c.entry-e.result c.entry-e.ensures.0)

pub overflow_add-at-2 : goal.overflow_add-at-2
overflow_add-at-2 c = omega (arith, body_room c.args.roll.bytes.now (list_of c.args.roll.bytes.now) c.requires.0.accepted c.args.roll.count c.requires.0.count c.args.i c.requires.0.number c.entry-e.result c.entry-e.ensures.0)

pub numbers_at-requires : goal.numbers_at-requires
numbers_at-requires c = omega (arith, body_room c.args.roll.bytes.now (list_of c.args.roll.bytes.now) c.requires.0.accepted c.args.roll.count c.requires.0.count c.args.i c.requires.0.number c.entry-e.result c.entry-e.ensures.0)

pub places_of-x-requires : goal.places_of-x-requires
places_of-x-requires c = (c.requires.1, rw c.numbers_at.ensures (rw (xs_is c.args.roll.bytes.now (list_of c.args.roll.bytes.now) c.requires.0.accepted c.args.roll.count c.requires.0.count c.args.i c.requires.0.number c.entry-e.result c.entry-e.ensures.0 nothing) at c.requires.0.x))

pub overflow_add-at-3 : goal.overflow_add-at-3
overflow_add-at-3 c = omega (arith, body_room c.args.roll.bytes.now (list_of c.args.roll.bytes.now) c.requires.0.accepted c.args.roll.count c.requires.0.count c.args.i c.requires.0.number c.entry-e.result c.entry-e.ensures.0)

pub numbers_at-requires-2 : goal.numbers_at-requires-2
numbers_at-requires-2 c = omega (arith, body_room c.args.roll.bytes.now (list_of c.args.roll.bytes.now) c.requires.0.accepted c.args.roll.count c.requires.0.count c.args.i c.requires.0.number c.entry-e.result c.entry-e.ensures.0)

pub places_of-z-requires : goal.places_of-z-requires
places_of-z-requires c = (c.requires.1, rw c.numbers_at-2.ensures (rw (zs_is c.args.roll.bytes.now (list_of c.args.roll.bytes.now) c.requires.0.accepted c.args.roll.count c.requires.0.count c.args.i c.requires.0.number c.entry-e.result c.entry-e.ensures.0 nothing) at c.requires.0.z))

pub returns : goal.returns
unfolding held condensed pauli_of
returns c =
    let over = λ (ns : List ℕ). condense c.args.support.now (set_of ns) in
    pauli_path (sym (exponent_is c.args.roll.bytes.now (list_of c.args.roll.bytes.now) c.requires.0.accepted c.args.roll.count c.requires.0.count c.args.i c.requires.0.number c.entry-e.result c.entry-e.ensures.0 nothing))
    (c.places_of-x.ensures ∙ ap over (c.numbers_at.ensures ∙ sym (xs_is c.args.roll.bytes.now (list_of c.args.roll.bytes.now) c.requires.0.accepted c.args.roll.count c.requires.0.count c.args.i c.requires.0.number c.entry-e.result c.entry-e.ensures.0 nothing)))
    (c.places_of-z.ensures ∙ ap over (c.numbers_at-2.ensures ∙ sym (zs_is c.args.roll.bytes.now (list_of c.args.roll.bytes.now) c.requires.0.accepted c.args.roll.count c.requires.0.count c.args.i c.requires.0.number c.entry-e.result c.entry-e.ensures.0 nothing)))
