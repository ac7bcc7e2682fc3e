-- The table has 10 bytes for each Pauli, and the bodies 4 for each number.
use Rattle.pauli.proofs.joined.JoinLaws.{accepted_few, accepted_bound, joined_size}
use Rattle.pauli.specs.Roll.{most_paulis}
use Rattle.std.proofs.Common.{sym, arith}
use Rattle.pauli.proofs.joined.joined_bytes.Goals as goal

pub overflow_add-result : goal.overflow_add-result
unfolding most_paulis
overflow_add-result c = omega (arith, accepted_few _ _ c.args.left.accepted, accepted_few _ _ c.args.right.accepted)

pub overflow_mul-result : goal.overflow_mul-result
unfolding most_paulis
overflow_mul-result c = omega (arith, accepted_few _ _ c.args.left.accepted, accepted_few _ _ c.args.right.accepted)

pub overflow_add-result-2 : goal.overflow_add-result-2
unfolding most_paulis
overflow_add-result-2 c = omega (arith, accepted_few _ _ c.args.left.accepted, accepted_few _ _ c.args.right.accepted)

pub overflow_add-result-4 : goal.overflow_add-result-4
unfolding most_paulis
overflow_add-result-4 c = omega (arith, accepted_few _ _ c.args.left.accepted, accepted_few _ _ c.args.right.accepted, accepted_bound _ _ c.args.left.accepted c.args.left.low, accepted_bound _ _ c.args.right.accepted c.args.right.low, c.numbers.ensures.0, c.numbers-2.ensures.0)

pub returns : goal.returns
returns c = sym (joined_size c.args.left.bytes.now c.args.right.bytes.now _ _ c.args.left.accepted c.args.right.accepted _ c.numbers.ensures.0 _ c.numbers-2.ensures.0)
