-- Two stores, and three numbers behind them.
use Rattle.pauli.proofs.write.Puts.{entry_all}
use Rattle.pauli.proofs.write.put_entry.Goals as goal

pub returns : goal.returns
returns c = entry_all c.args.out.now c.args.at c.args.exponent c.args.start c.args.xcount c.args.zcount c.requires.0 _ _ _ c.put_u32.ensures c.put_u16.ensures c.put_u16-2.ensures
