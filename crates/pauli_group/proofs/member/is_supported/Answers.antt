-- The numbers of the Pauli's two sets stand one behind the other.
use Rattle.pauli.proofs.joined.JoinLaws.{accepted_room}
use Rattle.pauli_group.proofs.member.MemberLaws.{body_numbers}
use Rattle.pauli_group.specs.Inner.Members.{covered}
use Rattle.std.proofs.Common.{ap, ◌∙◌, arith}
use Rattle.pauli_group.proofs.member.is_supported.Goals as goal

pub overflow_mul-at : goal.overflow_mul-at
overflow_mul-at c =
    omega (arith, accepted_room _ c.args.roll.count c.args.roll.accepted c.args.i c.requires.0 _ c.entry-e.ensures.0)

pub overflow_add-at : goal.overflow_add-at
overflow_add-at c =
    omega (arith, accepted_room _ c.args.roll.count c.args.roll.accepted c.args.i c.requires.0 _ c.entry-e.ensures.0)

pub overflow_mul-at-2 : goal.overflow_mul-at-2
overflow_mul-at-2 c =
    omega (arith, accepted_room _ c.args.roll.count c.args.roll.accepted c.args.i c.requires.0 _ c.entry-e.ensures.0)

pub overflow_add-at-2 : goal.overflow_add-at-2
overflow_add-at-2 c =
    omega (arith, accepted_room _ c.args.roll.count c.args.roll.accepted c.args.i c.requires.0 _ c.entry-e.ensures.0)

pub numbers_at-requires : goal.numbers_at-requires
numbers_at-requires c =
    let room = accepted_room _ c.args.roll.count c.args.roll.accepted c.args.i c.requires.0 _ c.entry-e.ensures.0 in
    omega (arith, room)

pub returns : goal.returns
returns c =
    c.covers.ensures
    ∙ ap (covered c.args.support.now)
    (c.numbers_at.ensures ∙ body_numbers _ c.args.roll.count c.args.roll.accepted c.args.i c.requires.0 _ c.entry-e.ensures.0)
