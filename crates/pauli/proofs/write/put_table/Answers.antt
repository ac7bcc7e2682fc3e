use Rattle.std.proofs.Common.{ap, arith}
use Rattle.pauli.proofs.write.Puts.{left_start, left_done}
use Rattle.pauli.proofs.write.Writers.{loaded, paulis_start, paulis_end, table_step, table_length}
use Rattle.pauli.specs.Writing.{table_of}
use Rattle.pauli.proofs.write.put_table.Goals as goal

pub loop-i-init : goal.loop-i-init
loop-i-init c = (omega arith, omega arith, left_start _ _ _ _ (ap (table_of 0) (paulis_start c.args.list.now)) (rw (table_length c.args.list.now) c.requires.1))

pub loop-i-preserved : goal.loop-i-preserved
loop-i-preserved c = (omega arith, omega (arith, c.weight-xcount.ensures.1, c.weight-zcount.ensures.1), table_step c.args.list.now c.loop-i.i c.loop-i.before c.loop-i-test.true c.from_words-p.result (loaded c.from_words-p.result _ c.from_words-p.ensures) c.weight-xcount.result c.weight-zcount.result c.weight-xcount.ensures.0 c.weight-zcount.ensures.0 c.loop-i.invariant.2 _ c.put_entry.ensures c.put_entry.auto.out)

pub returns : goal.returns
unfolding table_of
returns c = (left_done c.loop-i.invariant.2 (ap (table_of c.loop-i.before) (paulis_end c.args.list.now c.loop-i.i (omega arith)))).0
