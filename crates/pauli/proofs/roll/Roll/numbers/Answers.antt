-- The bodies fill what follows the table.
use Rattle.pauli.proofs.joined.JoinLaws.{accepted_length, accepted_few, accepted_bound}
use Rattle.pauli.specs.Roll.{most_paulis}
use Rattle.std.proofs.Common.{arith}
use Rattle.pauli.proofs.roll.Roll.numbers.Goals as goal

pub overflow_mul-result : goal.overflow_mul-result
overflow_mul-result c = omega (arith, accepted_length c.args.self.bytes.now c.args.self.count c.args.self.accepted)

pub overflow_add-result : goal.overflow_add-result
overflow_add-result c = omega (arith, accepted_length c.args.self.bytes.now c.args.self.count c.args.self.accepted)

pub overflow_sub-result : goal.overflow_sub-result
overflow_sub-result c = omega (arith, accepted_length c.args.self.bytes.now c.args.self.count c.args.self.accepted)

pub returns : goal.returns
unfolding most_paulis
returns c =
    let a = accepted_length c.args.self.bytes.now c.args.self.count c.args.self.accepted in
    (omega (arith, a), omega (arith, a, accepted_few c.args.self.bytes.now c.args.self.count c.args.self.accepted, accepted_bound c.args.self.bytes.now c.args.self.count c.args.self.accepted c.args.self.low))
