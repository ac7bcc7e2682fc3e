use Rattle.std.proofs.Common.{sym, ap, ◌∙◌, le-ltb, lt-ltb}
use Rattle.pauli.specs.Refusals.{told_refusal}
use Rattle.pauli.proofs.roll.Told.{test_pass, test_refuses}
use Rattle.combined_lists.proofs.combine.check_words.Goals as goal

pub returns-then-words-lt-LINE_WORDS-clause-told : goal.returns-then-words-lt-LINE_WORDS-clause-told
returns-then-words-lt-LINE_WORDS-clause-told c = ap told_refusal c.into.ensures ∙ sym (test_refuses _ 9 0 _ (lt-ltb _ _ c.if-words-lt-LINE_WORDS.true))

pub returns-clause-told : goal.returns-clause-told
returns-clause-told c = sym (test_pass _ 9 0 _ (le-ltb _ _ c.if-words-lt-LINE_WORDS.false))
