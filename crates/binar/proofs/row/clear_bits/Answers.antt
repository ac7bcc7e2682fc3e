use Rattle.std.proofs.Common.{ℕ, ◌≡◌, ◌+◌, ◌-◌, ap, ◌∙◌, arith}
use lib.ListN.{replicate, length-drop}
use lib.Seq.{length-take-le}
use Rattle.binar.proofs.row.Slice.{put_part, zero_words}
use Rattle.binar.proofs.row.clear_bits.Goals as goal

pub returns : goal.returns
returns c =
    let size : c.args.at + c.args.n - c.args.at ≡ c.args.n = omega arith in
    put_part _ _ _ _ _ (c.fill.ensures.after (λ y h. h) ∙ ap (λ (k : ℕ). replicate k 0) (length-take-le _ _ (rw length-drop (omega arith)) ∙ size) ∙ zero_words c.args.n)
