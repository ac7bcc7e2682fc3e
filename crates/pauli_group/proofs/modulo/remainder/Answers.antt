use Rattle.std.proofs.Common.{sym, ◌∙◌, arith}
use Rattle.pauli_group.specs.Inner.Area.{further_at}
use Rattle.pauli_group.specs.Inner.Sources.{sparse_in, listed}
use Rattle.pauli_group.proofs.basis.BasisLaws.{joint_is}
use Rattle.pauli_group.specs.Promises.{promise_of}
use Rattle.pauli_group.proofs.area.AreaLaws.{span_list}
use Rattle.pauli_group.proofs.group.GroupLaws.{described}
use Rattle.pauli_group.proofs.group.GroupedLaws.{list_length, list_few, group_total, group_on}
use Rattle.pauli_group.proofs.list.ListLaws.{list_kept_after}
use Rattle.pauli_group.proofs.member.FactorLaws.{places_known}
use Rattle.pauli_group.proofs.modulo.ModuloLaws.{left_moves, moved_low, left_list, right_other, remainder_left}
use Rattle.pauli_group.proofs.source.SourceLaws.{source_counted}
use Rattle.pauli_group.proofs.modulo.remainder.Goals as goal

pub move_list-requires : goal.move_list-requires
move_list-requires c =
    let J = joint_is (sparse_in c.args.pair.left) (sparse_in c.args.pair.right) _ (rw (← c.qubits-joint.ensures.list) at c.gather.ensures) c.args.pair.qubits in
    let g = c.group_of-a.ensures.group in
    let total = group_total _ _ (source_counted c.args.pair.left) g in
    let on = group_on _ _ (source_counted c.args.pair.left) g in
    rw (c.standards.ensures.0, c.standards.ensures.1, c.qubits.ensures.list)
    (omega (arith, total), omega (arith, total), J.few, rw (← places_known g) on, left_moves _ _ _ J.support g on)

pub multiply_all-requires : goal.multiply_all-requires
multiply_all-requires c =
    let J = joint_is (sparse_in c.args.pair.left) (sparse_in c.args.pair.right) _ (rw (← c.qubits-joint.ensures.list) at c.gather.ensures) c.args.pair.qubits in
    let group = c.group_of-b in
    let g = group.ensures.group in
    let n = list_length _ _ (source_counted c.args.pair.right) ∙ sym group.ensures.count in
    let moved = rw (c.standards.ensures.0, c.standards.ensures.1, c.qubits.ensures.list) at c.move_list.ensures.list in
    let other = right_other (listed c.args.pair.left) _ _ J.support g (list_few _ _ (source_counted c.args.pair.right)) group.result.few.1 (omega arith) (group_total _ _ (source_counted c.args.pair.right) g) (group_on _ _ (source_counted c.args.pair.right) g) in (
      group_total _ _ (source_counted c.args.pair.left) c.group_of-a.ensures.group,
      rw c.qubits-2.ensures.list (places_known g),
      J.few,
      rw (c.qubits-2.ensures.list, ← n) other,
      rw (list_kept_after group.ensures.rest further_at c.group_of-a.result.total (omega arith)) (moved_low _ _ _ J.support c.group_of-a.ensures.group _ moved),
    )

pub returns : goal.returns
returns c =
    let J = joint_is (sparse_in c.args.pair.left) (sparse_in c.args.pair.right) _ (rw (← c.qubits-joint.ensures.list) at c.gather.ensures) c.args.pair.qubits in
    let group = c.group_of-b in
    let g = group.ensures.group in
    let left = c.group_of-a in
    let few = group_total _ _ (source_counted c.args.pair.left) left.ensures.group in
    let n = list_length _ _ (source_counted c.args.pair.right) ∙ sym group.ensures.count in
    let standards = span_list _ c.paulis.ensures.list c.standards-2.ensures in
    let signs = c.signs_of-signs.ensures in
    let step = c.step.ensures.0 ∙ (described g (promise_of c.args.promise) _ _ _ (rw standards at signs.clash) (rw standards at signs.step) (rw standards at signs.stabilizer)).step_is in
    let copied = rw (c.standards.ensures.0, c.standards.ensures.1, c.qubits.ensures.list) at c.move_list.ensures.list in
    let moved = list_kept_after group.ensures.rest further_at left.result.total (omega arith) ∙ left_list _ _ _ J.support left.ensures.group _ copied in
    let taken = rw (c.at.ensures.0, c.at.ensures.1) at c.take_mod.ensures.list in
    rw (← c.qubits-joint.ensures.list)
    (remainder_left _ _ _ J.support g (list_few _ _ (source_counted c.args.pair.right)) group.result.few.1 (omega arith) (group_total _ _ (source_counted c.args.pair.right) g) (group_on _ _ (source_counted c.args.pair.right) g) _ moved
    _ _ step _ _ _ (rw (n, ← c.qubits-2.ensures.list) c.multiply_all.ensures.list) taken few J.few)
