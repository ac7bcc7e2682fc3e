use Rattle.std.proofs.Common.{arith}
use Rattle.pauli_group.specs.Inner.Area.{further_at}
use Rattle.pauli_group.proofs.area.AreaLaws.{form_room, span_list}
use Rattle.pauli_group.proofs.list.ListLaws.{outside_join, outside_wider}
use Rattle.pauli_group.proofs.member.FactorLaws.{places_known}
use Rattle.pauli_group.proofs.group.GroupLaws.{described}
use Rattle.pauli_group.proofs.common.SharedLaws.{group_solving, group_further, group_movable, group_noted}
use Rattle.pauli_group.proofs.source.SourceLaws.{source_counted}
use Rattle.pauli_group.proofs.common.note_by.Goals as goal

pub note_exponents-requires : goal.note_exponents-requires
note_exponents-requires c =
    let g = c.group_of-group.ensures in
    let p = c.requires in (
      p.0,
      rw g.count (group_solving _ _ (source_counted c.args.source) g.group c.group_of-group.array_long),
      rw c.qubits.ensures.list (places_known g.group),
      group_further _ _ (source_counted c.args.source) g.group c.group_of-group.array_long g.rest c.args.joint.now _ _ p.1,
      rw c.qubits.ensures.list (group_movable _ _ (source_counted c.args.source) g.group c.group_of-group.array_long g.rest _ _ p.2),
    )

pub returns : goal.returns
returns c =
    let g = c.group_of-group.ensures in
    let standards = span_list _ c.paulis.ensures.list c.standards.ensures in
    let signs = rw standards at c.signs_of-signs.ensures in record {
      step = (described g.group _ _ _ _ signs.clash signs.step signs.stabilizer).step_is;
      by = group_noted _ _ (source_counted c.args.source) g.group c.group_of-group.array_long g.rest _ _ _ (rw (c.qubits.ensures.list, g.count) at c.note_exponents.ensures.by);
      low = c.note_exponents.ensures.low;
      rest = outside_join g.rest (outside_wider 0 further_at c.note_exponents.ensures.rest (omega arith) (omega (arith, (form_room _ c.group_of-group.result.few.0).1)));
    }
