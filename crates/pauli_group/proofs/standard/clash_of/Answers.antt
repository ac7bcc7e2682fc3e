-- Promise by promise.
use Rattle.pauli_group.specs.Inner.Lists.{clash_of}
use Rattle.pauli_group.proofs.standard.clash_of.Goals as goal

pub returns-in-Abelian : goal.returns-in-Abelian
unfolding clash_of
returns-in-Abelian c = rw c.in-Abelian.is

pub returns-in-NotAbelian : goal.returns-in-NotAbelian
unfolding clash_of
returns-in-NotAbelian c = rw c.in-NotAbelian.is

pub returns-in-None : goal.returns-in-None
unfolding clash_of
returns-in-None c = rw c.in-None.is c.some_anticommute.ensures
