use Rattle.pauli_group.proofs.common.SharedLaws.{phases_none, phases_skip, phases_put}
use Rattle.pauli_group.proofs.common.append_phases.Goals as goal
use Rattle.pauli_group.proofs.common.append_phases.Goals.{then-k-a-eq0, else-k-a-eq0}

pub loop-k-init : goal.loop-k-init
loop-k-init c = phases_none _ _ _ _ _

pub loop-k-preserved : goal.loop-k-preserved
loop-k-preserved c = let l = c.loop-k in
    elim c.if-k-a-eq0.branch [
      | then-k-a-eq0 w ↦ rw (w.w-is, w.total-is) (phases_put _ _ _ _ _ _ _ _ l.invariant c.loop-k-test.true (rw (c.step-a.ensures.0, c.step-b.ensures.0) at w.if-k-a-eq0.true) _ w.put_phase.ensures.list w.put_phase.ensures.rest)
      | else-k-a-eq0 w ↦ rw (w.w-is, w.total-is) (phases_skip _ _ _ _ _ _ _ _ l.invariant c.loop-k-test.true (rw (c.step-a.ensures.0, c.step-b.ensures.0) at w.if-k-a-eq0.false))
    ]
