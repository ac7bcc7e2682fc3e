-- Nothing is shifted, a whole word is, or a part of one.
use Rattle.pauli_group.proofs.rows.RowLaws.{shift_some}
use Rattle.std.proofs.Common.{arith}
use Rattle.pauli_group.proofs.rows.shifted.Goals as goal

pub returns : goal.returns
returns c = shift_some c.args.word c.args.k c.requires (omega arith)
