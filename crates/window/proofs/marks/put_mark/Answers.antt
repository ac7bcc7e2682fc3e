use Rattle.std.proofs.Common.{◌≡◌, ◌+◌, ◌-◌, ◌*◌, ◌∙◌, arith}
use Rattle.pauli.proofs.write.Puts.{put_part}
use Rattle.window.proofs.marks.MarkBytes.{put_state}
use Rattle.window.proofs.marks.put_mark.Goals as goal

pub returns : goal.returns
returns c =
    let at = 66193 + 66198 * c.args.place in
    let eight : 8 ≡ at + 8 - at = omega arith in
    put_state c.args.w.now c.told-w at (omega arith) (omega (arith, c.requires)) c.args.name.now _ c.copy_within.new.self c.copy_within-2.new.self c.told-name
    (put_part c.args.w.now _ c.args.name.now at (at + 8 - at) c.copy_from_slice.ensures.after (c.told-name ∙ eight))
    c.copy_within.ensures.after c.copy_within-2.ensures.after
