-- By the exponent and the overlap.
use Rattle.std.proofs.Common.{ℕ, ◌+◌, ◌%◌, eqb, ap}
use Rattle.pauli.specs.Pauli.{order_four}
use Rattle.pauli.specs.Signed.{held}
use Rattle.pauli.proofs.signed.Pauli.is_order_two.Goals as goal

pub returns : goal.returns
unfolding held order_four
returns c = ap (λ (x : ℕ). eqb ((c.args.self.exponent + x) % 2) 0) c.dot.ensures.0
