-- Its numbers stand one after the other behind the table.
use Rattle.std.proofs.Common.{arith}
use Rattle.pauli.proofs.joined.JoinLaws.{accepted_length, accepted_numbers}
use Rattle.pauli.proofs.roll.Roll.gather.Goals as goal

pub overflow_mul-self : goal.overflow_mul-self
overflow_mul-self c = omega (arith, accepted_length c.args.self.bytes.now c.args.self.count c.args.self.accepted)

pub overflow_add-self : goal.overflow_add-self
overflow_add-self c = omega (arith, accepted_length c.args.self.bytes.now c.args.self.count c.args.self.accepted)

pub numbers_at-requires : goal.numbers_at-requires
numbers_at-requires c = omega (arith, c.numbers.ensures.0, accepted_length c.args.self.bytes.now c.args.self.count c.args.self.accepted)

pub returns : goal.returns
returns c = rw (c.numbers_at.ensures, c.numbers.ensures.0, accepted_numbers c.args.self.bytes.now c.args.self.count c.args.self.accepted) at c.gather.ensures
