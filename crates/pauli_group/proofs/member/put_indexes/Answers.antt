use Rattle.std.proofs.Common.{◌∙◌, arith}
use Rattle.pauli.proofs.places.Halves.{two_words}
use Rattle.pauli_theory.proofs.IndexSets.{members_below}
use Rattle.pauli_group.proofs.member.MemberLaws.{indexes_start, indexes_done, indexes_room, indexes_next}
use Rattle.pauli_group.proofs.member.put_indexes.Goals as goal

pub loop-p-init : goal.loop-p-init
loop-p-init c =
    let all = c.into_iter-p-iterator.ensures.into_iter_gives ∙ c.iter-p-items.ensures in
    let few = members_below 128 _ (two_words c.args.set (record { low = omega arith; high = omega arith })) in
    (tt, tt, rw all few, rw all (indexes_start _ _ _ c.requires))

pub put_u16-requires : goal.put_u16-requires
put_u16-requires c =
    let i = c.loop-p.invariant in
    let next = c.in-Some.ensures.steps in
    let few = rw next at i.2 in
    (indexes_room _ _ i.3 _ _ next, omega (arith, few.0))

pub loop-p-preserved : goal.loop-p-preserved
loop-p-preserved c =
    let i = c.loop-p.invariant in
    let next = c.in-Some.ensures.steps in
    let few = rw next at i.2 in
    (tt, tt, few.1, indexes_next _ _ i.3 _ _ next _ c.put_u16.ensures c.put_u16.auto.out)

pub returns : goal.returns
returns c = indexes_done _ _ c.loop-p.invariant.3 c.in-None.ensures.steps.0
