use Rattle.std.proofs.Common.{◌≡◌, ◌+◌, ◌-◌, ◌*◌, take, drop, true, false, sym, refl, ap, ◌∙◌, arith}
use Rattle.std.specs.Prelude.{bytes_eq}
use Rattle.window.proofs.marks.MarkBytes.{place_start, place_here, place_later, place_past}
use Rattle.window.proofs.marks.place_of.Goals as goal

pub loop-i-init : goal.loop-i-init
loop-i-init c = place_start c.args.w.now c.args.name.now

pub returns-then-eq : goal.returns-then-eq
returns-then-eq c =
    let at = 66193 + 66198 * c.loop-i.i in
    let eight : 8 ≡ at + 8 - at = omega arith in
    let e : bytes_eq (take 8 (drop at c.args.w.now)) c.args.name.now ≡ true = ap (λ k. bytes_eq (take k (drop at c.args.w.now)) c.args.name.now) eight ∙ sym c.eq.ensures ∙ c.if-eq.true in
    let h = c.held_in-held.ensures in
    (place_here c.args.w.now c.args.name.now c.held_in-held.result c.loop-i.i h.0 c.loop-i-test.true c.loop-i.invariant e, omega (arith, h, c.loop-i-test.true), omega (arith, h))

pub loop-i-preserved : goal.loop-i-preserved
loop-i-preserved c =
    let at = 66193 + 66198 * c.loop-i.i in
    let eight : 8 ≡ at + 8 - at = omega arith in
    let e : bytes_eq (take 8 (drop at c.args.w.now)) c.args.name.now ≡ false = ap (λ k. bytes_eq (take k (drop at c.args.w.now)) c.args.name.now) eight ∙ sym c.eq.ensures ∙ c.if-eq.false in
    place_later c.args.w.now c.args.name.now c.held_in-held.result c.loop-i.i c.held_in-held.ensures.0 c.loop-i-test.true c.loop-i.invariant e (c.loop-i.i + 1) refl

pub returns : goal.returns
returns c =
    let h = c.held_in-held.ensures in
    let end : c.loop-i.i ≡ c.held_in-held.result = omega (arith, c.loop-i-test.false, c.loop-i.auto) in
    (place_past c.args.w.now c.args.name.now c.held_in-held.result h.0 (rw (← end) c.loop-i.invariant), omega (arith, h), omega (arith, h))
