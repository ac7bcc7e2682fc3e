use Rattle.std.proofs.Common.{arith}
use Rattle.pauli_group.proofs.basis.BasisLaws.{joint_is}
use Rattle.pauli_group.proofs.common.PartLaws.{list_on, part_further}
use Rattle.pauli_group.proofs.common.part_of.Goals as goal

pub put_part-n-requires : goal.put_part-n-requires
put_part-n-requires c = joint_is _ _ _ (rw (← c.qubits-joint.ensures.list) at c.gather.ensures) c.args.pair.qubits

pub build-group-requires : goal.build-group-requires
build-group-requires c =
    let J = joint_is _ _ _ (rw (← c.qubits-joint.ensures.list) at c.gather.ensures) c.args.pair.qubits in
    let P = c.put_part-n.ensures in
    (omega (arith, P.few), J.few, list_on _ _ _ J _ _ P.list)

pub returns : goal.returns
returns c =
    let J = joint_is _ _ _ (rw (← c.qubits-joint.ensures.list) at c.gather.ensures) c.args.pair.qubits in
    let P = c.put_part-n.ensures in
    let few = c.build-group.result.few in
    rw (← c.qubits-joint.ensures.list)
    (part_further _ _ _ J _ _ P.list _ _ _ c.build-group.ensures.built (omega (arith, few.2)) _ (rw (c.standards.ensures.0, c.standards.ensures.1) at c.copy_list.ensures.list))
