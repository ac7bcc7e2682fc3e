use Rattle.pauli_group.specs.Inner.Whole.{noted_in}
use Rattle.pauli_group.proofs.whole.WholeLaws.{noted_read, whole_none, whole_dropped, whole_kept, still}
use Rattle.pauli_group.proofs.whole.keep_whole.Goals as goal
use Rattle.pauli_group.proofs.whole.keep_whole.Goals.{in-Some, in_default}

pub loop-i-init : goal.loop-i-init
loop-i-init c = whole_none _ _ _ _ _

pub loop-i-preserved : goal.loop-i-preserved
unfolding noted_in
loop-i-preserved c =
    let l = c.loop-i in
    let h = c.loop-i-test.true in
    let read = noted_read _ _ _ _ _ (still _ _ _ _ _ _ _ _ _ l.invariant h c.requires _ c.load.ensures) in
    elim c.match-kept_of.branch [
      | in-Some w ↦ rw (w.w-is, w.kept-is) (whole_kept _ _ _ _ _ _ _ _ _ l.invariant h c.requires _ read _ c.next_dropped-dropped.ensures _ c.kept_of.ensures _ w.in-Some.is c.told-w _ w.store.ensures)
      | in_default w ↦ rw (w.w-is, w.kept-is) (whole_dropped _ _ _ _ _ _ _ _ _ l.invariant h c.requires _ read _ c.next_dropped-dropped.ensures _ c.kept_of.ensures w.in_default.is)
    ]
