use Rattle.pauli_theory.specs.WholeCommon.{whole_common}
use Rattle.pauli_group.specs.Inner.Further.{SomeCommon}
use Rattle.pauli_group.specs.Calls.{common_bytes}
use Rattle.pauli_group.specs.Inner.Sources.{listed}
use Rattle.pauli_group.proofs.common.write_common.Goals as goal

pub write_part-requires : goal.write_part-requires
write_part-requires c =
    let lists = c.rolled-lists.result in
    record { list = whole_common (listed lists.left) (listed lists.right); is = rw c.qubits.ensures.list c.common_of-part.ensures }

pub returns : goal.returns
unfolding common_bytes
returns c =
    let lists = c.rolled-lists.result in
    let p : SomeCommon _ _ _ _ _ = record { list = whole_common (listed lists.left) (listed lists.right); is = rw c.qubits.ensures.list c.common_of-part.ensures } in
    let wrote = c.write_part.ensures in record {
      told = rw (c.rolled-lists.ensures.0, c.rolled-lists.ensures.1) at (wrote.told p);
      left = rw (c.rolled-lists.ensures.0, c.rolled-lists.ensures.1) at (wrote.left p);
      area = wrote.area _ c.told-w;
    }
