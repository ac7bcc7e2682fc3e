use Rattle.std.proofs.Common.{◌∙◌, ap₂}
use Rattle.pauli.specs.Signed.{times_stored}
use Rattle.pauli_group.specs.Inner.Whole.{noted_in}
use Rattle.pauli_group.proofs.whole.WholeLaws.{product_is}
use Rattle.pauli_group.proofs.noted.Noted.times.Goals as goal

pub returns : goal.returns
unfolding noted_in
returns c =
    product_is c.args.self c.args.other _ _ (c.times-left.ensures.pauli ∙ ap₂ times_stored c.with_exponent.ensures c.with_exponent-2.ensures)
    (c.times-right.ensures.pauli ∙ ap₂ times_stored c.with_exponent-3.ensures c.with_exponent-4.ensures)
