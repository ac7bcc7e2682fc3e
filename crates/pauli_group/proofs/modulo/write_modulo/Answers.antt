use Rattle.pauli_group.specs.Inner.Further.{SomeFurther}
use Rattle.pauli_group.proofs.further.FurtherLaws.{further_same}
use Rattle.pauli_group.proofs.modulo.write_modulo.Goals as goal

pub write_further-requires : goal.write_further-requires
write_further-requires c = record { list = _; has = further_same c.remainder-count.ensures _ c.qubits.ensures.list }

pub returns : goal.returns
returns c =
    let f : SomeFurther _ _ _ = record { list = _; has = further_same c.remainder-count.ensures _ c.qubits.ensures.list } in
    let wrote = c.write_further.ensures in record {
      told = rw (c.rolled.ensures.0, c.rolled.ensures.1) at (wrote.told f);
      left = rw (c.rolled.ensures.0, c.rolled.ensures.1) at (wrote.left f);
      area = wrote.area _ c.told-w;
    }
