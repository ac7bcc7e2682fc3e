use Rattle.std.proofs.Common.{arith}
use Rattle.pauli_group.proofs.member.FactorLaws.{places_known}
use Rattle.pauli_group.proofs.group.GroupedLaws.{group_total, group_on}
use Rattle.pauli_group.proofs.basis.BasisLaws.{grouped_movable, joint_rises, joint_left, joint_right, stack_is}
use Rattle.pauli_group.proofs.source.SourceLaws.{source_counted}
use Rattle.pauli_group.proofs.basis.stack_standard.Goals as goal

pub move_list-requires : goal.move_list-requires
move_list-requires c =
    let g = c.group_of-a.ensures.group in
    let J = c.requires in
    let total = group_total _ _ (source_counted c.args.pair.left) g in
    rw (c.standards.ensures.0, c.standards.ensures.1, c.qubits.ensures.list) (
      omega (arith, total),
      omega (arith, total),
      J.few,
      rw (← places_known g) (group_on _ _ (source_counted c.args.pair.left) g),
      grouped_movable g _ (joint_rises _ _ _ J) (joint_left _ _ _ J),
    )

pub move_list-requires-2 : goal.move_list-requires-2
move_list-requires-2 c =
    let g = c.group_of-b.ensures.group in
    let J = c.requires in
    let total = group_total _ _ (source_counted c.args.pair.right) g in
    let first = group_total _ _ (source_counted c.args.pair.left) c.group_of-a.ensures.group in
    rw (c.standards-2.ensures.0, c.standards-2.ensures.1, c.qubits-2.ensures.list) (
      omega (arith, total, first),
      omega (arith, total, first),
      J.few,
      rw (← places_known g) (group_on _ _ (source_counted c.args.pair.right) g),
      grouped_movable g _ (joint_rises _ _ _ J) (joint_right _ _ _ J),
    )

pub returns : goal.returns
returns c =
    let first = rw (c.standards.ensures.0, c.standards.ensures.1, c.qubits.ensures.list) at c.move_list.ensures.list in
    let second = rw (c.standards-2.ensures.0, c.standards-2.ensures.1, c.qubits-2.ensures.list) at c.move_list-2.ensures.list in
    let rest = rw c.standards-2.ensures.1 at c.move_list-2.ensures.rest in
    stack_is _ _ _ c.requires c.group_of-a.ensures.group _ first c.group_of-b.ensures.group c.group_of-b.ensures.rest _ second rest
