-- The list is read over the places of its support, paired and written, and the area is cleared.
use Rattle.std.proofs.Common.{ℕ, List, ap, ◌∙◌, arith}
use Rattle.pauli.proofs.joined.JoinLaws.{accepted_few, own_few}
use Rattle.pauli.specs.Roll.{most_paulis}
use Rattle.pauli.specs.Told.{answer}
use Rattle.pauli.specs.Writing.{told_bytes, left_in}
use Rattle.pauli_group.proofs.area.AreaLaws.{span_list}
use Rattle.pauli_group.proofs.group.GroupLaws.{own_gathered, places_few, part_readable}
use Rattle.pauli_group.proofs.symplectic.PairLaws.{pairs_on, pairs_written}
use Rattle.pauli_group.proofs.symplectic.write_symplectic.Goals as goal

pub read_list-requires : goal.read_list-requires
unfolding most_paulis
read_list-requires c =
    let roll = c.args.roll in
    let g = own_gathered _ _ (rw (c.new-known.ensures, ← c.qubits-qubits.ensures.list) at c.gather.ensures) in
    let few = own_few roll.bytes.now roll.count roll.accepted in (
      part_readable _ _ g few roll.bytes.now roll.count roll.accepted (λ p m. m),
      places_few _ _ g few,
      omega (arith, accepted_few roll.bytes.now roll.count roll.accepted),
    )

pub pair_up-requires : goal.pair_up-requires
unfolding most_paulis
pair_up-requires c = accepted_few c.args.roll.bytes.now c.args.roll.count c.args.roll.accepted

pub at-paired-requires : goal.at-paired-requires
unfolding most_paulis
at-paired-requires c = omega (arith, accepted_few c.args.roll.bytes.now c.args.roll.count c.args.roll.accepted)

pub write_roll-wrote-requires : goal.write_roll-wrote-requires
unfolding most_paulis
write_roll-wrote-requires c =
    let roll = c.args.roll in
    let g = own_gathered _ _ (rw (c.new-known.ensures, ← c.qubits-qubits.ensures.list) at c.gather.ensures) in
    let few = own_few roll.bytes.now roll.count roll.accepted in
    let list = span_list _ c.paulis.ensures.list c.at-paired.ensures in (
      omega (arith, accepted_few roll.bytes.now roll.count roll.accepted, c.paulis.ensures.count, c.at-paired.ensures),
      places_few _ _ g few,
      rw list (pairs_on roll.bytes.now roll.count roll.accepted _ g _ c.read_list.ensures.list _ c.pair_up.ensures),
    )

pub returns : goal.returns
returns c =
    let roll = c.args.roll in
    let out = c.args.out.now in
    let g = own_gathered _ _ (rw (c.new-known.ensures, ← c.qubits-qubits.ensures.list) at c.gather.ensures) in
    let wrote = rw (span_list _ c.paulis.ensures.list c.at-paired.ensures) at c.write_roll-wrote.ensures in
    let same = pairs_written roll.bytes.now roll.count roll.accepted _ g _ c.read_list.ensures.list _ c.pair_up.ensures in record {
      told = wrote.told ∙ ap (λ (bs : List ℕ). told_bytes (answer bs) out) same;
      left = wrote.left ∙ ap (λ (bs : List ℕ). left_in (answer bs) out) same;
      area = c.clear.ensures _ c.told-w;
    }
