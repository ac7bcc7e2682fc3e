-- Its ten bytes lie in the table.
use Rattle.pauli.proofs.joined.JoinLaws.{accepted_table}
use Rattle.pauli.proofs.roll.Roll.entry.Goals as goal

pub entry_at-requires : goal.entry_at-requires
entry_at-requires c = accepted_table c.args.self.bytes.now c.args.self.count c.args.self.accepted c.args.i c.requires
