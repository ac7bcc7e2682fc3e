-- The law of the table, at this entry.
use Rattle.pauli.proofs.one_qubit.TableLaws.{entry_is}
use Rattle.pauli.proofs.one_qubit.entry.Goals as goal

pub returns : goal.returns
returns c = entry_is c.args.a c.args.b c.requires.0 c.requires.1
