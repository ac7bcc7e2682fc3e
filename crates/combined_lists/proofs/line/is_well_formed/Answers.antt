use Rattle.std.proofs.Common.{◌∙◌}
use Rattle.combined_lists.proofs.line.Checks.{formed, not_formed}
use Rattle.combined_lists.proofs.line.is_well_formed.Goals as goal

pub returns-in-Some : goal.returns-in-Some
returns-in-Some c = c.is_empty.ensures ∙ formed _ _ c.in-Some.ensures

pub returns-in-None : goal.returns-in-None
returns-in-None c = not_formed _ c.in-None.ensures
