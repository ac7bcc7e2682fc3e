use Rattle.std.proofs.Common.{ap, ◌∙◌, min}
use Rattle.window.proofs.layout.LayoutLaws.{roll_part, roll_few}
use Rattle.window.specs.Layout.{room_bytes}
use Rattle.window.proofs.layout.roll_in.Goals as goal

pub returns : goal.returns
returns c =
    let e = roll_part c.args.w.now _ (c.min-size.ensures ∙ ap (λ n. min n room_bytes) c.u32_at.ensures) in
    (e, rw e (roll_few c.args.w.now c.requires))
