use Rattle.std.proofs.Common.{ap, ltb, ◌∙◌, sym, arith, length, length-take-le}
use Rattle.pauli.specs.Support.{most_qubits}
use Rattle.pauli.proofs.support.Support.is_past_limit.Goals as goal

pub returns : goal.returns
unfolding most_qubits
returns c = ap (ltb 128) (sym (length-take-le c.self.inside.count c.self.inside.numbers (omega arith)) ∙ ap length c.self.view_is)
