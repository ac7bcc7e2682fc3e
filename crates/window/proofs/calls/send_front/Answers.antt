use Rattle.std.proofs.Common.{ap, sym}
use Rattle.pauli.proofs.refusal.HandedOn.{handed_on}
use Rattle.pauli.specs.Refusals.{told_of, told_refusal}
use Rattle.window.proofs.calls.CallLaws.{send_refused, send_not_one, send_entered}
use Rattle.window.proofs.calls.send_front.Goals as goal

pub returns-in_err-check-clause-call : goal.returns-in_err-check-clause-call
returns-in_err-check-clause-call c =
    send_refused c.args.w.now c.told-w c.args.b.now _ _ (sym c.in_err-check.ensures.count) _ (ap told_of (handed_on _ _ c.from_residual.ensures.1))

pub returns-then-check-ne1-clause-call : goal.returns-then-check-ne1-clause-call
returns-then-check-ne1-clause-call c =
    send_not_one c.args.w.now c.told-w c.args.b.now _ (sym c.in_ok-check.ensures.count) c.if-check-ne1.true _ (ap told_refusal c.into.ensures)

pub returns-clause-call : goal.returns-clause-call
returns-clause-call c = send_entered c.args.w.now c.told-w c.args.b.now _ _ c.enter.ensures.told c.enter.ensures.left c.enter.array_long
