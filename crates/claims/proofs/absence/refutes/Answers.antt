-- The generators first, then the element.
use Rattle.std.proofs.Common.{sym, ◌∙◌}
use Rattle.claims.proofs.absence.WitnessLaws.{refused_clash, refuted}
use Rattle.claims.proofs.absence.refutes.Goals as goal

pub returns-then-clashes_with_some : goal.returns-then-clashes_with_some
returns-then-clashes_with_some c = refused_clash _ _ _ (sym c.clashes_with_some.ensures ∙ c.if-clashes_with_some.true)

pub returns : goal.returns
returns c = c.clashes_with.ensures ∙ refuted _ _ _ (sym c.clashes_with_some.ensures ∙ c.if-clashes_with_some.false)
