-- The body stands where the entry says, within the roll.
use Rattle.std.proofs.Common.{ℕ, List, sym, ap, ◌∙◌, arith}
use Rattle.pauli.proofs.signed.Algebra.{pauli_path}
use Rattle.pauli.proofs.condense.BodyLaws.{exponent_is, xs_is, zs_is}
use Rattle.pauli.proofs.joined.JoinLaws.{accepted, accepted_room}
use Rattle.pauli.specs.Condense.{list_of, nothing, condensed}
use Rattle.pauli.specs.Sets.{condense, set_of, pauli_of}
use Rattle.pauli.specs.Signed.{held}
use Rattle.claims.proofs.restricted.WithinLaws.{sets_rise}
use Rattle.claims.proofs.restricted.restrict_from.Goals as goal

pub overflow_mul-at : goal.overflow_mul-at
overflow_mul-at c = omega (arith, accepted_room _ c.args.roll.count c.args.roll.accepted c.args.i c.requires.0 _ c.entry-e.ensures.0)

pub overflow_add-at : goal.overflow_add-at
overflow_add-at c = omega (arith, accepted_room _ c.args.roll.count c.args.roll.accepted c.args.i c.requires.0 _ c.entry-e.ensures.0)

pub overflow_mul-at-2 : goal.overflow_mul-at-2
overflow_mul-at-2 c = omega (arith, accepted_room _ c.args.roll.count c.args.roll.accepted c.args.i c.requires.0 _ c.entry-e.ensures.0)

pub overflow_add-at-2 : goal.overflow_add-at-2
overflow_add-at-2 c = omega (arith, accepted_room _ c.args.roll.count c.args.roll.accepted c.args.i c.requires.0 _ c.entry-e.ensures.0)

pub numbers_at-requires : goal.numbers_at-requires
numbers_at-requires c = omega (arith, accepted_room _ c.args.roll.count c.args.roll.accepted c.args.i c.requires.0 _ c.entry-e.ensures.0)

pub places_within-x-requires : goal.places_within-x-requires
places_within-x-requires c =
    let b = c.args.roll.bytes.now in
    let n = c.args.roll.count in
    let a = accepted b n c.args.roll.accepted in
    (c.requires.1, rw (c.numbers_at.ensures, ← xs_is b (list_of b) a.0 n a.1 c.args.i c.requires.0 c.entry-e.result c.entry-e.ensures.0 nothing) (sets_rise b n c.args.roll.accepted c.args.i c.requires.0).0, c.requires.2)

pub overflow_add-at-3 : goal.overflow_add-at-3
overflow_add-at-3 c = omega (arith, accepted_room _ c.args.roll.count c.args.roll.accepted c.args.i c.requires.0 _ c.entry-e.ensures.0)

pub numbers_at-requires-2 : goal.numbers_at-requires-2
numbers_at-requires-2 c = omega (arith, accepted_room _ c.args.roll.count c.args.roll.accepted c.args.i c.requires.0 _ c.entry-e.ensures.0)

pub places_within-z-requires : goal.places_within-z-requires
places_within-z-requires c =
    let b = c.args.roll.bytes.now in
    let n = c.args.roll.count in
    let a = accepted b n c.args.roll.accepted in
    (c.requires.1, rw (c.numbers_at-2.ensures, ← zs_is b (list_of b) a.0 n a.1 c.args.i c.requires.0 c.entry-e.result c.entry-e.ensures.0 nothing) (sets_rise b n c.args.roll.accepted c.args.i c.requires.0).1, c.requires.2)

pub returns : goal.returns
unfolding held condensed pauli_of
returns c =
    let b = c.args.roll.bytes.now in
    let n = c.args.roll.count in
    let a = accepted b n c.args.roll.accepted in
    let e = c.entry-e in
    let over = λ (ns : List ℕ). condense c.args.support.now (set_of ns) in
    pauli_path (sym (exponent_is b (list_of b) a.0 n a.1 c.args.i c.requires.0 e.result e.ensures.0 nothing))
    (c.places_within-x.ensures ∙ ap over (c.numbers_at.ensures ∙ sym (xs_is b (list_of b) a.0 n a.1 c.args.i c.requires.0 e.result e.ensures.0 nothing)))
    (c.places_within-z.ensures ∙ ap over (c.numbers_at-2.ensures ∙ sym (zs_is b (list_of b) a.0 n a.1 c.args.i c.requires.0 e.result e.ensures.0 nothing)))
