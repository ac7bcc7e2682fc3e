use Rattle.std.proofs.Common.{refl}
use Rattle.pauli.proofs.refusal.HandedOn.{handed_on}
use Rattle.window.proofs.calls.BehindLaws.{send_call, send_refused, send_done}
use Rattle.window.proofs.calls.send.Goals as goal

pub returns-in_err-send_front-clause-call : goal.returns-in_err-send_front-clause-call
returns-in_err-send_front-clause-call c =
    let w = c.args.w.now in
    let long = c.send_front.ensures.size in
    rw (handed_on c.from_residual.result _ c.from_residual.ensures.1) (send_call w c.send_front.new.w c.told-w long c.front_of.result.now c.front_of.ensures.value _ c.args.b.now c.in_err-send_front.ensures.call _)

pub returns-in_err-send_front-clause-behind : goal.returns-in_err-send_front-clause-behind
returns-in_err-send_front-clause-behind c =
    let w = c.args.w.now in
    let long = c.send_front.ensures.size in
    send_refused w c.send_front.new.w c.told-w long c.front_of.result.now c.front_of.ensures.value _ c.args.b.now c.in_err-send_front.ensures.call _ _ refl

pub returns-clause-call : goal.returns-clause-call
returns-clause-call c =
    let w = c.args.w.now in
    let long = c.send_front.ensures.size in
    (send_done w c.send_front.new.w c.told-w long c.front_of.result.now c.front_of.ensures.value _ c.args.b.now c.in_ok-send_front.ensures.call refl _ _ c.round_in.ensures c.next_round.ensures c.put_round.new.w c.put_round.ensures).0

pub returns-clause-behind : goal.returns-clause-behind
returns-clause-behind c =
    let w = c.args.w.now in
    let long = c.send_front.ensures.size in
    (send_done w c.send_front.new.w c.told-w long c.front_of.result.now c.front_of.ensures.value _ c.args.b.now c.in_ok-send_front.ensures.call refl _ _ c.round_in.ensures c.next_round.ensures c.put_round.new.w c.put_round.ensures).1
