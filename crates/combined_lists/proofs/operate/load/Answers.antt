use Rattle.combined_lists.proofs.operate.OperateLaws.{roll_keeps}
use Rattle.combined_lists.proofs.operate.load.Goals as goal

pub keep_further-requires : goal.keep_further-requires
keep_further-requires c = (c.requires, record { list = _; keeps = roll_keeps c.args.roll _ _ _ c.read_one-n.ensures })

pub returns-clause-list : goal.returns-clause-list
returns-clause-list c = c.keep_further.ensures.list _ (roll_keeps c.args.roll _ _ _ c.read_one-n.ensures)
