use Rattle.std.proofs.Common.{◌-◌, arith}
use Rattle.pauli.specs.Condense.{list_of}
use Rattle.pauli.specs.Roll.{most_paulis}
use Rattle.pauli.proofs.joined.JoinLaws.{accepted_few, accepted_length}
use Rattle.window.proofs.later.LaterLaws.{drop_numbers, later_size, later_short, later_puts}
use Rattle.window.proofs.later.write_later.Goals as goal

pub overflow_mul-table : goal.overflow_mul-table
unfolding most_paulis
overflow_mul-table c = let roll = c.args.roll in omega (arith, accepted_few roll.bytes.now roll.count roll.accepted)

pub overflow_add-table : goal.overflow_add-table
unfolding most_paulis
overflow_add-table c = let roll = c.args.roll in omega (arith, accepted_few roll.bytes.now roll.count roll.accepted)

pub put_u16-requires : goal.put_u16-requires
unfolding most_paulis
put_u16-requires c =
    let roll = c.args.roll in
    (omega (arith, accepted_length roll.bytes.now roll.count roll.accepted, c.requires.1), omega (arith, accepted_few roll.bytes.now roll.count roll.accepted))

pub copy_entries-numbers-requires : goal.copy_entries-numbers-requires
copy_entries-numbers-requires c =
    let roll = c.args.roll in
    (c.requires.0, omega (arith, accepted_length roll.bytes.now roll.count roll.accepted, c.requires.1, c.put_u16.auto.out), omega arith)

pub overflow_sub-numbers : goal.overflow_sub-numbers
overflow_sub-numbers c =
    omega (arith, c.copy_entries-numbers.ensures.numbers, c.numbers.ensures.0, drop_numbers c.args.from (list_of c.args.roll.bytes.now))

pub copy_bodies-requires : goal.copy_bodies-requires
copy_bodies-requires c =
    let roll = c.args.roll in
    let left = c.copy_entries-numbers.ensures.numbers in
    let all = c.numbers.ensures.0 in
    let fewer = drop_numbers c.args.from (list_of roll.bytes.now) in (
      omega (arith, all),
      omega (arith, all, left, fewer, later_size roll.bytes.now roll.count roll.accepted c.args.from, later_short roll.bytes.now roll.count roll.accepted c.args.from, c.requires.1, c.put_u16.auto.out, c.copy_entries-numbers.auto.out),
    )

pub overflow_mul-result : goal.overflow_mul-result
overflow_mul-result c =
    omega (arith, c.copy_entries-numbers.ensures.numbers, c.numbers.ensures, drop_numbers c.args.from (list_of c.args.roll.bytes.now))

pub overflow_add-result : goal.overflow_add-result
unfolding most_paulis
overflow_add-result c =
    let roll = c.args.roll in
    omega (arith, accepted_few roll.bytes.now roll.count roll.accepted, c.copy_entries-numbers.ensures.numbers, c.numbers.ensures, drop_numbers c.args.from (list_of roll.bytes.now))

pub returns-clause-left : goal.returns-clause-left
returns-clause-left c =
    let roll = c.args.roll in
    let k = c.copy_entries-numbers.ensures.numbers in
    let all = c.numbers.ensures.0 in
    later_puts roll.bytes.now roll.count roll.accepted c.args.from c.copy_entries-numbers.result (c.numbers.result - c.copy_entries-numbers.result) (omega (arith, k)) (omega (arith, all)) c.args.out.now _ _ _ c.requires.1
    c.put_u16.ensures c.put_u16.auto.out c.copy_entries-numbers.ensures.left c.copy_entries-numbers.auto.out c.copy_bodies.ensures c.copy_bodies.auto.out

pub returns-clause-size : goal.returns-clause-size
returns-clause-size c =
    let roll = c.args.roll in omega (arith, later_size roll.bytes.now roll.count roll.accepted c.args.from, c.copy_entries-numbers.ensures.numbers)
