use Rattle.std.proofs.Common.{arith, ltb-true}
use Rattle.combined_lists.proofs.form.LevelLaws.{first_hit, first_miss, first_none}
use Rattle.combined_lists.proofs.form.after.Goals.{in_default-via-then-line-lt1, in_default-via-in-len1-up+else-first-b}
use Rattle.combined_lists.proofs.form.after.Goals as goal

pub returns-in-len1-up : goal.returns-in-len1-up
returns-in-len1-up c = first_hit _ _ c.in-len1-up.len_at_least c.if-first-b.true

pub returns-in_default : goal.returns-in_default
returns-in_default c =
    elim c.in_default.branch [
      | in_default-via-then-line-lt1 w ↦ first_none c.args.b c.args.line.now (omega (arith, ltb-true))
      | in_default-via-in-len1-up+else-first-b w ↦ first_miss _ _ w.in-len1-up.len_at_least w.if-first-b.false
    ]
