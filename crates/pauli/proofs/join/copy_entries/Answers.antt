use Rattle.std.proofs.Common.{arith, refl}
use Rattle.pauli.proofs.joined.JoinLaws.{accepted_few, entry_fits, entry_copied, entries_start, entries_done, numbers_next, numbers_done}
use Rattle.pauli.proofs.write.Puts.{left_done}
use Rattle.pauli.specs.Roll.{most_paulis}
use Rattle.pauli.proofs.join.copy_entries.Goals as goal

pub loop-i-init : goal.loop-i-init
loop-i-init c =
    let roll = c.args.roll in
    (c.requires.0, omega arith, refl, entries_start roll.bytes.now roll.count roll.accepted c.args.out.now c.args.at c.args.from c.args.before c.requires.1)

pub overflow_cast-start : goal.overflow_cast-start
unfolding most_paulis
overflow_cast-start c =
    let roll = c.args.roll in
    omega (arith, accepted_few roll.bytes.now roll.count roll.accepted, c.requires.2, c.loop-i.invariant.1, c.loop-i-test.true)

pub put_entry-requires : goal.put_entry-requires
put_entry-requires c =
    let roll = c.args.roll in
    (entry_fits roll.bytes.now roll.count roll.accepted c.loop-i.i c.loop-i-test.true c.entry-e.result c.entry-e.ensures.0 c.loop-i.start c.loop-i.invariant.3, c.entry-e.ensures.1, c.entry-e.ensures.2)

pub overflow_add-start-in-loop-i : goal.overflow_add-start-in-loop-i
unfolding most_paulis
overflow_add-start-in-loop-i c =
    let roll = c.args.roll in
    omega (arith, accepted_few roll.bytes.now roll.count roll.accepted, c.requires.2, c.loop-i.invariant.1, c.loop-i-test.true, c.entry-e.ensures.1, c.entry-e.ensures.2)

pub loop-i-preserved : goal.loop-i-preserved
unfolding most_paulis
loop-i-preserved c =
    let roll = c.args.roll in
    let e = c.entry-e in
    let i = c.loop-i.i in
    let h = c.loop-i-test.true in (
      omega (arith, h),
      omega (arith, accepted_few roll.bytes.now roll.count roll.accepted, c.requires.2, c.loop-i.invariant.1, h, e.ensures.1, e.ensures.2),
      omega (arith, numbers_next roll.bytes.now roll.count roll.accepted i h e.result e.ensures.0, c.loop-i.invariant.2),
      entry_copied roll.bytes.now roll.count roll.accepted i h e.result e.ensures.0 c.loop-i.start c.loop-i.invariant.3 _ c.put_entry.ensures c.put_entry.auto.out,
    )

pub returns-clause-left : goal.returns-clause-left
returns-clause-left c =
    let roll = c.args.roll in
    (left_done c.loop-i.invariant.3 (entries_done roll.bytes.now roll.count roll.accepted c.loop-i.start c.loop-i.i (omega (arith, c.loop-i-test.false)))).0

pub returns-clause-numbers : goal.returns-clause-numbers
returns-clause-numbers c =
    let roll = c.args.roll in
    omega (arith, c.loop-i.invariant.2, numbers_done roll.bytes.now roll.count roll.accepted c.loop-i.i (omega (arith, c.loop-i-test.false)))
