-- Two stores, the index count and the indexes.
use Rattle.std.proofs.Common.{arith, length-set}
use Rattle.pauli.specs.PlaceSet.{set_in}
use Rattle.factorizations.proofs.records.RecordLaws.{member_room, member_put}
use Rattle.factorizations.proofs.records.put_member.Goals as goal

pub bounds-out-at : goal.bounds-out-at
bounds-out-at c =
    omega (arith, member_room c.args.out.now c.args.at (set_in c.args.set) c.args.exponent c.requires)

pub bounds-out-at-2 : goal.bounds-out-at-2
bounds-out-at-2 c =
    let room = member_room c.args.out.now c.args.at (set_in c.args.set) c.args.exponent c.requires in
    simp length-set (omega (arith, room))

pub put_u16-requires : goal.put_u16-requires
put_u16-requires c =
    let room = member_room c.args.out.now c.args.at (set_in c.args.set) c.args.exponent c.requires in
    (simp length-set (omega (arith, room)), omega (arith, c.weight-count.ensures.1))

pub put_indexes-requires : goal.put_indexes-requires
put_indexes-requires c =
    let room = member_room c.args.out.now c.args.at (set_in c.args.set) c.args.exponent c.requires in
    rw c.put_u16.auto.out (simp length-set (omega (arith, room)))

pub returns : goal.returns
returns c =
    member_put c.args.out.now c.args.at (set_in c.args.set) c.args.exponent c.requires _ c.weight-count.ensures.0 _ _
    c.put_u16.ensures c.put_indexes.ensures
