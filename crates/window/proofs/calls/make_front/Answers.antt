use Rattle.std.proofs.Common.{ap}
use Rattle.pauli.specs.Refusals.{told_refusal}
use Rattle.window.proofs.calls.CallLaws.{make_narrow, make_wide, make_done}
use Rattle.window.proofs.calls.make_front.Goals as goal
use Rattle.window.proofs.calls.make_front.Goals.{then-width-lt1-via-then-width-lt1, then-width-lt1-via-else-width-lt1+then-width-gt-WIDEST}

pub returns-then-width-lt1-clause-call : goal.returns-then-width-lt1-clause-call
returns-then-width-lt1-clause-call c =
    let told = ap told_refusal c.into.ensures in
    elim c.then-width-lt1.branch [
      | then-width-lt1-via-then-width-lt1 w ↦ make_narrow c.args.w.now c.told-w c.args.width w.if-width-lt1.true _ told
      | then-width-lt1-via-else-width-lt1+then-width-gt-WIDEST w ↦ make_wide c.args.w.now c.told-w c.args.width w.if-width-lt1.false w.if-width-gt-WIDEST.true _ told
    ]

pub returns-clause-call : goal.returns-clause-call
returns-clause-call c =
    make_done c.args.w.now c.told-w c.args.width c.if-width-lt1.false c.if-width-gt-WIDEST.false _ _ _ c.put_u16.ensures c.put_u16-2.ensures c.put_u32.ensures
