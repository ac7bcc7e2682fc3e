use Rattle.std.proofs.Common.{ap, ◌∙◌, arith}
use Rattle.pauli.specs.Refusals.{told_refusal}
use Rattle.combined_lists.proofs.line.Checks.{too_long, no_form, not_sent, too_deep, passes}
use Rattle.combined_lists.proofs.line.check_line.Goals.{then-line-gt-LONGEST_LINE-via-then-line-gt-LONGEST_LINE, then-line-gt-LONGEST_LINE-via-else-line-gt-LONGEST_LINE+then-not-is_well_formed, then-line-gt-LONGEST_LINE-via-else-line-gt-LONGEST_LINE+else-not-is_well_formed+then-not-all_sent}
use Rattle.combined_lists.proofs.line.check_line.Goals as goal

pub returns-then-line-gt-LONGEST_LINE : goal.returns-then-line-gt-LONGEST_LINE
returns-then-line-gt-LONGEST_LINE c =
    ap told_refusal c.into.ensures
    ∙ elim c.then-line-gt-LONGEST_LINE.branch [
      | then-line-gt-LONGEST_LINE-via-then-line-gt-LONGEST_LINE w ↦ too_long _ _ w.if-line-gt-LONGEST_LINE.true
      | then-line-gt-LONGEST_LINE-via-else-line-gt-LONGEST_LINE+then-not-is_well_formed w ↦
          no_form _ _ w.if-line-gt-LONGEST_LINE.false w.if-not-is_well_formed.ensures
      | then-line-gt-LONGEST_LINE-via-else-line-gt-LONGEST_LINE+else-not-is_well_formed+then-not-all_sent w ↦
          not_sent _ _ w.if-line-gt-LONGEST_LINE.false w.if-not-is_well_formed.ensures w.if-not-all_sent.ensures
    ]

pub returns-then-deepest-gt-DEEPEST_LINE : goal.returns-then-deepest-gt-DEEPEST_LINE
returns-then-deepest-gt-DEEPEST_LINE c =
    ap told_refusal c.into-then-deepest-gt-DEEPEST_LINE.ensures
    ∙ too_deep _ _ c.if-line-gt-LONGEST_LINE.false c.if-not-is_well_formed.ensures c.if-not-all_sent.ensures (omega arith)

pub returns : goal.returns
returns c = passes _ _ c.if-line-gt-LONGEST_LINE.false c.if-not-is_well_formed.ensures c.if-not-all_sent.ensures (omega arith)
