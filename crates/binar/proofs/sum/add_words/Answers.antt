use Rattle.binar.proofs.row.Slice.{added_step, added_none, two_step, words_set, added}
use Rattle.binar.specs.Row.{◌⊕◌}
use mathlib.Core.Path.{sym, ◌∙◌}
use native.Mathlib.Omega.{arith}
use Rattle.binar.proofs.sum.add_words.Goals as goal

pub loop-k-preserved : goal.loop-k-preserved
unfolding ◌⊕◌
loop-k-preserved c =
    let l = c.loop-k in
    let known = l.invariant.0 in
    let two = l.invariant.1 in
    let test = c.loop-k-test.true in (
      words_set _ _ _ (omega arith) (omega arith) known,
      two_step _ _ _ _ _ test two _,
      rw c.added_word.ensures (l.invariant.2 ∙ added_step _ _ _ _ _ test two known _ c.requires.1),
    )

pub returns : goal.returns
unfolding added
returns c = sym (c.loop-k.invariant.2 ∙ added_none _ _ _ _ _ (omega arith) _)
