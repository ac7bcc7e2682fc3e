use Rattle.std.proofs.Common.{sym, ap, ◌∙◌}
use borrow.Author.Tests.{lt-ltb, le-ltb}
use Rattle.pauli.specs.Refusals.{told_refusal}
use Rattle.pauli.specs.Told.{answer}
use Rattle.pauli.proofs.roll.Told.{test_pass, test_refuses}
use Rattle.pauli_group.specs.Calls.{most_listed}
use Rattle.sizes.proofs.page.page_of.Goals as goal

pub returns-then-rank-gt-MOST_LISTED : goal.returns-then-rank-gt-MOST_LISTED
returns-then-rank-gt-MOST_LISTED c = ap told_refusal c.into.ensures ∙ sym (test_refuses _ 10 0 _ (lt-ltb most_listed c.args.rank c.if-rank-gt-MOST_LISTED.true))

pub returns : goal.returns
returns c =
    let low = le-ltb most_listed c.args.rank c.if-rank-gt-MOST_LISTED.false in
    ap answer (rw c.step.ensures.0 at c.page_elements.ensures.0) ∙ sym (test_pass _ 10 0 _ low)
