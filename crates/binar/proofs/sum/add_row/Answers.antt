use Rattle.std.proofs.Common.{◌≢◌, ◌<◌, length, ◌∙◌, arith, below_more, get_or-set_same, get_or-set_other}
use lib.ListN.{length-set}
use Rattle.binar.proofs.row.Slice.{sum_words, put_part}
use Rattle.binar.specs.Row.{◌⊕◌}
use Rattle.binar.proofs.sum.add_row.Goals as goal

pub loop-k-preserved : goal.loop-k-preserved
unfolding ◌⊕◌
loop-k-preserved g c =
    let l = c.loop-k in
    let inside : l.k < length l.sums = omega arith in (
      l.invariant.0,
      simp length-set l.invariant.1,
      below_more _ _ (λ k h. let other : k ≢ l.k = omega arith in rw get_or-set_other (l.invariant.2 k h))
          (rw get_or-set_same c.added_word.ensures),
    )

pub returns : goal.returns
returns g c =
    let known = c.loop-k.invariant.0 in
    let size = c.loop-k.invariant.1 in
    let t = c.requires.0 in
    let sums = sum_words _ c.requires.1 _ known c.loop-k.sums c.args.to c.args.from (omega (arith, t.first)) (omega (arith, t.second)) (λ k h. c.loop-k.invariant.2 k (omega arith)) in
    put_part _ _ _ _ _ (c.copy_from_slice.ensures.after ∙ rw size at sums)
