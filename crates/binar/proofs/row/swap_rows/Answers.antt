use Prim.Native.Nat.{◌+◌}
use Rattle.binar.proofs.row.Slice.{words_set, exchanged, exchanged_step, exchanged_none, two_step_both}
use lib.ListN.{length-set}
use mathlib.Core.Path.{sym, ◌∙◌}
use native.Mathlib.Omega.{arith}
use Rattle.binar.proofs.row.swap_rows.Goals as goal

pub loop-k-preserved : goal.loop-k-preserved
loop-k-preserved c =
    let two = c.loop-k.invariant.1 in
    let known = c.loop-k.invariant.0 in (
      words_set _ _ _ (rw length-set (omega (arith, two.second, c.loop-k-test.true))) (known (c.args.i + c.loop-k.k))
          (words_set _ _ _ (omega (arith, two.first, c.loop-k-test.true)) (known (c.args.j + c.loop-k.k)) known),
      two_step_both _ _ _ _ _ c.loop-k-test.true two _ _,
      c.loop-k.invariant.2 ∙ exchanged_step _ _ _ _ _ c.loop-k-test.true two known,
    )

pub returns : goal.returns
unfolding exchanged
returns c = sym (c.loop-k.invariant.2 ∙ exchanged_none _ _ _ _ _ (omega arith))
