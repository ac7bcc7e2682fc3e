-- Of left, of right, or past both.
use Rattle.pauli.proofs.joined.JoinLaws.{counts_joining, entry_refused, entry_left, entry_right, entry_past}
use Rattle.pauli.specs.Told.{answer}
use Rattle.std.proofs.Common.{sym, ap, ◌∙◌, arith}
use Rattle.pauli.specs.Lookups.{looked_in}
use Rattle.pauli.specs.Refusals.{told_by, told_refusal}
use Rattle.pauli.proofs.refusal.HandedOn.{handed_on}
use Rattle.pauli.proofs.lookup.joined_entry.Goals as goal

pub returns-in_err-pair : goal.returns-in_err-pair
returns-in_err-pair c = ap (told_by looked_in) (handed_on _ _ c.from_residual.ensures.1) ∙ sym (entry_refused c.args.left.now c.args.right.now c.args.n _ _ (sym c.in_err-pair.ensures.counts))

pub returns-then-n-l : goal.returns-then-n-l
returns-then-n-l c = ap answer (rw c.in_ok-pair.ensures.rolls.0 at c.looked_up.ensures) ∙ sym (entry_left c.args.left.now c.args.right.now c.args.n _ _ (counts_joining c.args.left.now c.args.right.now _ (sym c.in_ok-pair.ensures.counts)) c.if-n-l.true)

pub returns-then-n-l-2 : goal.returns-then-n-l-2
returns-then-n-l-2 c = ap answer (rw c.in_ok-pair.ensures.rolls.1 at c.looked_up-then-n-l-2.ensures) ∙ sym (entry_right c.args.left.now c.args.right.now c.args.n _ _ (counts_joining c.args.left.now c.args.right.now _ (sym c.in_ok-pair.ensures.counts)) c.if-n-l.false c.if-n-l-2.true)

pub returns : goal.returns
returns c = ap told_refusal c.into.ensures ∙ sym (entry_past c.args.left.now c.args.right.now c.args.n _ _ (counts_joining c.args.left.now c.args.right.now _ (sym c.in_ok-pair.ensures.counts)) (omega (arith, c.if-n-l-2.false, c.if-n-l.false)))
