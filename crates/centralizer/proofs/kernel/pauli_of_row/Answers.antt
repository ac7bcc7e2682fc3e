use Rattle.centralizer.proofs.kernel.KernelLaws.{row_fits, row_is, row_empty}
use Rattle.centralizer.proofs.kernel.pauli_of_row.Goals as goal

pub returns-then-s-eq0 : goal.returns-then-s-eq0
returns-then-s-eq0 c = row_empty _ _ _ (rw c.told-w c.requires.0) c.requires.1 c.requires.2 c.if-s-eq0.true _ c.identity.ensures

pub overflow_add-result : goal.overflow_add-result
overflow_add-result c = record { fits = row_fits c.args.w.now c.args.at c.args.s (rw c.told-w c.requires.0) c.requires.1 c.requires.2 }

pub returns : goal.returns
returns c = row_is c.args.w.now c.args.at c.args.s (rw c.told-w c.requires.0) c.requires.1 c.requires.2
