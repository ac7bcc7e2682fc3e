use Rattle.std.proofs.Common.{sym, arith}
use Rattle.pauli_group.proofs.promise.PromiseLaws.{numbered_abelian, numbered_not_abelian, numbered_none}
use Rattle.pauli_group.proofs.promise.PromiseFromU64.from.Goals as goal

pub returns-in-1 : goal.returns-in-1
returns-in-1 c = sym (numbered_abelian c.args.number (omega arith))

pub returns-in-2 : goal.returns-in-2
returns-in-2 c = sym (numbered_not_abelian c.args.number (omega arith))

pub returns-in_default : goal.returns-in_default
returns-in_default c = sym (numbered_none c.args.number (λ e. omega arith) (λ e. omega arith))
