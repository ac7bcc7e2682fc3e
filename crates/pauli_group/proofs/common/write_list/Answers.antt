use Rattle.std.proofs.Common.{ℕ, List, ap, ◌∙◌, arith}
use Rattle.pauli.specs.Writing.{told_bytes, left_in, roll_over}
use Rattle.pauli.specs.Told.{answer}
use Rattle.pauli_group.proofs.area.AreaLaws.{span_list}
use Rattle.pauli_group.proofs.member.FactorLaws.{places_known}
use Rattle.pauli_group.proofs.group.GroupedLaws.{group_places}
use Rattle.pauli_group.proofs.common.SharedLaws.{list_on, list_written}
use Rattle.pauli_group.proofs.source.SourceLaws.{source_counted}
use Rattle.pauli_group.proofs.common.write_list.Goals as goal

pub write_roll-wrote-requires : goal.write_roll-wrote-requires
write_roll-wrote-requires c =
    let g = c.group_of-group.ensures in
    let list = rw g.count at (span_list _ c.paulis.ensures.list c.generators.ensures) in (
      omega (arith, c.paulis.ensures.count, c.generators.ensures.1, c.group_of-group.result.few.0),
      rw (c.qubits.ensures.list, ← places_known g.group) (group_places _ _ (source_counted c.args.source) g.group),
      rw (list, c.qubits.ensures.list, ← places_known g.group) (list_on _ _ (source_counted c.args.source) g.group c.group_of-group.array_long),
    )

pub returns : goal.returns
returns c =
    let g = c.group_of-group.ensures in
    let wrote = c.write_roll-wrote.ensures in
    let list = rw g.count at (span_list _ c.paulis.ensures.list c.generators.ensures) in
    let roll = ap (roll_over c.qubits.result.now) list ∙ rw (← c.qubits.ensures.list) at (list_written _ _ (source_counted c.args.source) g.group c.group_of-group.array_long) in record {
      told = wrote.told ∙ ap (λ (bs : List ℕ). told_bytes (answer bs) c.args.out.now) roll;
      left = wrote.left ∙ ap (λ (bs : List ℕ). left_in (answer bs) c.args.out.now) roll;
      area = c.clear.ensures;
    }
