-- The length is known before the first byte is written.
use Rattle.pauli.proofs.joined.JoinLaws.{counts_joining, join_refused, join_short, join_long}
use Rattle.std.proofs.Common.{sym, refl, ap}
use Rattle.pauli.specs.Refusals.{told_of, told_refusal}
use Rattle.pauli.proofs.refusal.HandedOn.{handed_on}
use Rattle.pauli.proofs.join.join.Goals as goal

pub returns-in_err-pair : goal.returns-in_err-pair
returns-in_err-pair c = join_refused c.args.left.now c.args.right.now c.args.out.now _ _ _ (ap told_of (handed_on _ _ c.from_residual.ensures.1)) (sym c.in_err-pair.ensures.counts)

pub returns-then-out-size : goal.returns-then-out-size
returns-then-out-size c =
    let j = counts_joining c.args.left.now c.args.right.now _ (sym c.in_ok-pair.ensures.counts) in
    join_short c.args.left.now c.args.right.now c.args.out.now _ _ j _ (sym (rw (c.in_ok-pair.ensures.rolls.0, c.in_ok-pair.ensures.rolls.1) at c.joined_bytes-size.ensures)) c.if-out-size.true _ (ap told_refusal c.into.ensures)

pub returns : goal.returns
returns c =
    let j = counts_joining c.args.left.now c.args.right.now _ (sym c.in_ok-pair.ensures.counts) in
    join_long c.args.left.now c.args.right.now c.args.out.now _ _ j _ (sym (rw (c.in_ok-pair.ensures.rolls.0, c.in_ok-pair.ensures.rolls.1) at c.joined_bytes-size.ensures)) c.if-out-size.false _ refl _ (rw (c.in_ok-pair.ensures.rolls.0, c.in_ok-pair.ensures.rolls.1) at c.put_joined.ensures)
