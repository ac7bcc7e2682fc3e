use Rattle.std.proofs.Common.{sym, ap, ◌∙◌}
use Rattle.pauli_group.specs.Inner.Lists.{found}
use Rattle.pauli_group.proofs.whole.WholeLaws.{shared_none, shared_some}
use Rattle.pauli_group.proofs.noted.Noted.shared.Goals as goal

pub returns-in-Some : goal.returns-in-Some
returns-in-Some c =
    shared_some _ _ c.args.self _ (ap found (sym c.in-Some.is) ∙ c.shared_exponent.ensures.first) c.in-Some.ensures.below _ c.with_exponent.ensures

pub returns-in-None : goal.returns-in-None
returns-in-None c = shared_none _ _ c.args.self (ap found (sym c.in-None.is) ∙ c.shared_exponent.ensures.first)
