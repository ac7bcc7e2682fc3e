use Rattle.std.proofs.Common.{sym, ◌∙◌, arith}
use Rattle.combined_lists.proofs.sent.DepthLaws.{opens, closes, as_deep}
use Rattle.combined_lists.proofs.sent.depth_after.Goals as goal

pub returns-in-40 : goal.returns-in-40
returns-in-40 c = sym (opens _ _ c.in-40.is)

pub returns-in-41 : goal.returns-in-41
returns-in-41 c = c.saturating_sub.ensures ∙ sym (closes _ _ c.in-41.is)

pub returns-in_default : goal.returns-in_default
returns-in_default c = sym (as_deep c.args.depth c.args.b (λ e. omega arith) (λ e. omega arith))
