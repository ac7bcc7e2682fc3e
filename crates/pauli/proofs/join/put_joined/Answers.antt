-- Five pieces, one behind the other.
use Rattle.pauli.proofs.joined.JoinLaws.{accepted_few, accepted_bound, joined_size, joined_puts}
use Rattle.pauli.specs.Roll.{most_paulis, numbers}
use Rattle.pauli.specs.Condense.{list_of}
use Rattle.std.proofs.Common.{length, refl, arith}
use Rattle.pauli.proofs.join.put_joined.Goals as goal

pub overflow_mul-middle : goal.overflow_mul-middle
unfolding most_paulis
overflow_mul-middle c = omega (arith, accepted_few c.args.left.bytes.now c.args.left.count c.args.left.accepted, accepted_few c.args.right.bytes.now c.args.right.count c.args.right.accepted)

pub overflow_add-middle : goal.overflow_add-middle
unfolding most_paulis
overflow_add-middle c = omega (arith, accepted_few c.args.left.bytes.now c.args.left.count c.args.left.accepted, accepted_few c.args.right.bytes.now c.args.right.count c.args.right.accepted)

pub overflow_mul-end : goal.overflow_mul-end
unfolding most_paulis
overflow_mul-end c = omega (arith, accepted_few c.args.left.bytes.now c.args.left.count c.args.left.accepted, accepted_few c.args.right.bytes.now c.args.right.count c.args.right.accepted)

pub overflow_add-end : goal.overflow_add-end
unfolding most_paulis
overflow_add-end c = omega (arith, accepted_few c.args.left.bytes.now c.args.left.count c.args.left.accepted, accepted_few c.args.right.bytes.now c.args.right.count c.args.right.accepted)

pub overflow_add-left : goal.overflow_add-left
unfolding most_paulis
overflow_add-left c = omega (arith, accepted_few c.args.left.bytes.now c.args.left.count c.args.left.accepted, accepted_few c.args.right.bytes.now c.args.right.count c.args.right.accepted)

pub put_u16-requires : goal.put_u16-requires
unfolding most_paulis
put_u16-requires c = (omega (arith, joined_size c.args.left.bytes.now c.args.right.bytes.now c.args.left.count c.args.right.count c.args.left.accepted c.args.right.accepted c.numbers-kl.result c.numbers-kl.ensures.0 (length (numbers (list_of c.args.right.bytes.now))) refl, c.requires), omega (arith, accepted_few c.args.left.bytes.now c.args.left.count c.args.left.accepted, accepted_few c.args.right.bytes.now c.args.right.count c.args.right.accepted))

pub copy_entries-requires : goal.copy_entries-requires
copy_entries-requires c = (omega arith, omega (arith, joined_size c.args.left.bytes.now c.args.right.bytes.now c.args.left.count c.args.right.count c.args.left.accepted c.args.right.accepted c.numbers-kl.result c.numbers-kl.ensures.0 (length (numbers (list_of c.args.right.bytes.now))) refl, c.requires, c.put_u16.auto.out), omega arith)

pub copy_entries-requires-2 : goal.copy_entries-requires-2
unfolding most_paulis
copy_entries-requires-2 c = (omega arith, omega (arith, joined_size c.args.left.bytes.now c.args.right.bytes.now c.args.left.count c.args.right.count c.args.left.accepted c.args.right.accepted c.numbers-kl.result c.numbers-kl.ensures.0 (length (numbers (list_of c.args.right.bytes.now))) refl, c.requires, c.copy_entries.auto.out, c.put_u16.auto.out), omega (arith, accepted_few c.args.left.bytes.now c.args.left.count c.args.left.accepted, accepted_few c.args.right.bytes.now c.args.right.count c.args.right.accepted, accepted_bound c.args.left.bytes.now c.args.left.count c.args.left.accepted c.args.left.low, c.numbers-kl.ensures.0))

pub copy_bodies-requires : goal.copy_bodies-requires
copy_bodies-requires c = (omega arith, omega (arith, joined_size c.args.left.bytes.now c.args.right.bytes.now c.args.left.count c.args.right.count c.args.left.accepted c.args.right.accepted c.numbers-kl.result c.numbers-kl.ensures.0 (length (numbers (list_of c.args.right.bytes.now))) refl, c.requires, c.numbers-kl.ensures.0, c.copy_entries-2.auto.out, c.copy_entries.auto.out, c.put_u16.auto.out))

pub overflow_add-end-2 : goal.overflow_add-end-2
unfolding most_paulis
overflow_add-end-2 c = omega (arith, accepted_few c.args.left.bytes.now c.args.left.count c.args.left.accepted, accepted_few c.args.right.bytes.now c.args.right.count c.args.right.accepted, accepted_bound c.args.left.bytes.now c.args.left.count c.args.left.accepted c.args.left.low, c.numbers-kl.ensures.0)

pub copy_bodies-requires-2 : goal.copy_bodies-requires-2
copy_bodies-requires-2 c = (omega arith, omega (arith, joined_size c.args.left.bytes.now c.args.right.bytes.now c.args.left.count c.args.right.count c.args.left.accepted c.args.right.accepted c.numbers-kl.result c.numbers-kl.ensures.0 (length (numbers (list_of c.args.right.bytes.now))) refl, c.requires, c.copy_bodies.auto.out, c.copy_entries-2.auto.out, c.copy_entries.auto.out, c.put_u16.auto.out))

pub returns : goal.returns
returns c = joined_puts c.args.left.bytes.now c.args.right.bytes.now c.args.left.count c.args.right.count c.args.left.accepted c.args.right.accepted c.numbers-kl.result c.numbers-kl.ensures.0 c.args.out.now _ _ _ _ _ c.requires c.put_u16.ensures c.put_u16.auto.out c.copy_entries.ensures.left c.copy_entries.auto.out c.copy_entries-2.ensures.left c.copy_entries-2.auto.out c.copy_bodies.ensures c.copy_bodies.auto.out c.copy_bodies-2.ensures c.copy_bodies-2.auto.out
