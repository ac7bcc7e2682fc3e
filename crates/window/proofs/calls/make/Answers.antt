use Rattle.std.proofs.Common.{refl}
use Rattle.pauli.proofs.refusal.HandedOn.{handed_on}
use Rattle.window.proofs.calls.BehindLaws.{make_call, make_refused, make_done}
use Rattle.window.proofs.calls.make.Goals as goal

pub returns-in_err-make_front-clause-call : goal.returns-in_err-make_front-clause-call
returns-in_err-make_front-clause-call c =
    let w = c.args.w.now in
    let long = c.make_front.ensures.size in
    rw (handed_on c.from_residual.result _ c.from_residual.ensures.1) (make_call w c.make_front.new.w c.told-w long c.front_of.result.now c.front_of.ensures.value _ c.args.width c.in_err-make_front.ensures.call _)

pub returns-in_err-make_front-clause-behind : goal.returns-in_err-make_front-clause-behind
returns-in_err-make_front-clause-behind c =
    let w = c.args.w.now in
    let long = c.make_front.ensures.size in
    make_refused w c.make_front.new.w c.told-w long c.front_of.result.now c.front_of.ensures.value _ c.args.width c.in_err-make_front.ensures.call _ _ refl

pub returns-clause-call : goal.returns-clause-call
returns-clause-call c =
    let w = c.args.w.now in
    let long = c.make_front.ensures.size in
    (make_done w c.make_front.new.w c.told-w long c.front_of.result.now c.front_of.ensures.value _ c.args.width c.in_ok-make_front.ensures.call refl c.put_round.new.w c.put_round.ensures).0

pub returns-clause-behind : goal.returns-clause-behind
returns-clause-behind c =
    let w = c.args.w.now in
    let long = c.make_front.ensures.size in
    (make_done w c.make_front.new.w c.told-w long c.front_of.result.now c.front_of.ensures.value _ c.args.width c.in_ok-make_front.ensures.call refl c.put_round.new.w c.put_round.ensures).1
