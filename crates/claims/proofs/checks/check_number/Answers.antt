-- The number against the count.
use Rattle.std.proofs.Common.{sym, ap, ◌∙◌, le-leb}
use borrow.Author.Tests.{lt-leb}
use Rattle.pauli.specs.Refusals.{told_refusal}
use Rattle.pauli.proofs.roll.Told.{test_pass, test_refuses}
use Rattle.claims.proofs.checks.check_number.Goals as goal

pub returns-then-number-count : goal.returns-then-number-count
returns-then-number-count c = ap told_refusal c.into.ensures ∙ sym (test_refuses _ 8 0 _ (le-leb c.args.count c.args.number c.if-number-count.true))

pub returns : goal.returns
returns c = sym (test_pass _ 8 0 _ (lt-leb c.args.count c.args.number c.if-number-count.false))
