use Rattle.std.proofs.Common.{ap, ◌∙◌, arith}
use Rattle.pauli.proofs.refusal.HandedOn.{handed_on}
use Rattle.pauli.specs.Refusals.{told_of}
use Rattle.window.proofs.layout.LayoutLaws.{put_refused, put_answered}
use Rattle.window.proofs.layout.put_joined.Goals as goal

pub returns-in_err-size-clause-told : goal.returns-in_err-size-clause-told
returns-in_err-size-clause-told c =
    ap told_of (handed_on _ _ c.from_residual.ensures.1)
    ∙ (put_refused c.args.w.now c.told-w _ c.requires _ _ c.in_err-size.ensures.told _ c.in_err-size.ensures.left).0

pub returns-in_err-size-clause-left : goal.returns-in_err-size-clause-left
returns-in_err-size-clause-left c = (put_refused c.args.w.now c.told-w _ c.requires _ _ c.in_err-size.ensures.told _ c.in_err-size.ensures.left).1

pub overflow_cast-size : goal.overflow_cast-size
overflow_cast-size c = omega (arith, (put_answered c.args.w.now c.told-w _ c.requires _ c.in_ok-size.ensures.told _ c.in_ok-size.ensures.left).0)

pub returns-clause-told : goal.returns-clause-told
returns-clause-told c = (put_answered c.args.w.now c.told-w _ c.requires _ c.in_ok-size.ensures.told _ c.in_ok-size.ensures.left).1

pub returns-clause-left : goal.returns-clause-left
returns-clause-left c = c.put_u32.ensures ∙ (put_answered c.args.w.now c.told-w _ c.requires _ c.in_ok-size.ensures.told _ c.in_ok-size.ensures.left).2
