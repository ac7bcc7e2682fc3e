-- The indexes first, then the exponent.
use Rattle.std.proofs.Common.{sym, ap, ◌∙◌, arith}
use Rattle.pauli.specs.Refusals.{told_refusal}
use Rattle.pauli.specs.Told.{answer}
use Rattle.claims.proofs.checks.FormLaws.{formed_not, formed_high, formed_well, indexes_below}
use Rattle.claims.proofs.checks.check_form.Goals as goal

pub returns-then-not-rises_below-clause-told : goal.returns-then-not-rises_below-clause-told
returns-then-not-rises_below-clause-told c = λ gs size.
    ap told_refusal c.into.ensures ∙ sym (formed_not gs _ _ _ size (answer tt) (sym c.rises_below.ensures ∙ c.if-not-rises_below.true))

pub returns-then-exponent-gt-HIGHEST_EXPONENT-clause-told : goal.returns-then-exponent-gt-HIGHEST_EXPONENT-clause-told
returns-then-exponent-gt-HIGHEST_EXPONENT-clause-told c = λ gs size.
    ap told_refusal c.into-then-exponent-gt-HIGHEST_EXPONENT.ensures
    ∙ sym (formed_high gs _ _ _ size (answer tt) (sym c.rises_below.ensures ∙ c.if-not-rises_below.false) c.if-exponent-gt-HIGHEST_EXPONENT.true)

pub returns-clause-told : goal.returns-clause-told
returns-clause-told c = λ gs size.
    sym (formed_well gs _ _ _ size (answer tt) (sym c.rises_below.ensures ∙ c.if-not-rises_below.false) c.if-exponent-gt-HIGHEST_EXPONENT.false)

pub returns-clause-below : goal.returns-clause-below
returns-clause-below c =
    (indexes_below _ 0 _ (sym c.rises_below.ensures ∙ c.if-not-rises_below.false), omega (arith, c.if-exponent-gt-HIGHEST_EXPONENT.false))
