-- The entry of Pauli i tells its exponent and its counts.
use Rattle.pauli.proofs.joined.JoinLaws.{accepted_entry}
use Rattle.std.proofs.Common.{sym}
use Rattle.pauli.proofs.lookup.looked_up.Goals as goal

pub returns : goal.returns
returns c = sym (accepted_entry c.args.roll.bytes.now c.args.roll.count c.args.roll.accepted c.args.i c.requires c.entry-e.result c.entry-e.ensures.0)
