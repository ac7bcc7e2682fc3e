use mathlib.Core.Path.{sym}
use native.Mathlib.Omega.{arith}
use Rattle.pauli.proofs.joined.JoinLaws.{counts_joining}
use Rattle.capi.proofs.roll_calls.StretchLaws.{located_refused, located_past, located_left, located_right}
use Rattle.capi.proofs.roll_calls.howhiruke_joined_body.Goals as goal

pub returns-in-Err : goal.returns-in-Err
returns-in-Err c = located_refused c.args.left.now c.args.right.now c.args.n _ _ _ (sym c.in-Err.ensures.counts) c.code_refusal.ensures

pub returns-then-n-l : goal.returns-then-n-l
returns-then-n-l c = located_left c.args.left.now c.args.right.now c.args.n _ _ _ (counts_joining c.args.left.now c.args.right.now _ (sym c.in-Ok.ensures.counts)) c.if-n-l.true (rw c.in-Ok.ensures.rolls.0 at c.stretch_in.ensures)

pub returns-then-n-l-2 : goal.returns-then-n-l-2
returns-then-n-l-2 c = located_right c.args.left.now c.args.right.now c.args.n _ _ _ (counts_joining c.args.left.now c.args.right.now _ (sym c.in-Ok.ensures.counts)) c.if-n-l.false c.if-n-l-2.true (rw c.in-Ok.ensures.rolls.1 at c.stretch_in-then-n-l-2.ensures)

pub returns : goal.returns
returns c = located_past c.args.left.now c.args.right.now c.args.n _ _ _ (counts_joining c.args.left.now c.args.right.now _ (sym c.in-Ok.ensures.counts)) (omega (arith, c.if-n-l-2.false, c.if-n-l.false)) (rw c.into.ensures at c.code_refusal-2.ensures)
