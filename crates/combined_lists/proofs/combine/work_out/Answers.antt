use Rattle.std.proofs.Common.{ap, ◌∙◌}
use Rattle.pauli.specs.Refusals.{told_of}
use Rattle.pauli.specs.Writing.{told_bytes, left_in}
use Rattle.pauli.proofs.refusal.HandedOn.{handed_on}
use Rattle.combined_lists.specs.Inner.Slots.{SlotHolds}
use Rattle.combined_lists.proofs.combine.CombineLaws.{tree_refused, tree_worked}
use Rattle.combined_lists.proofs.combine.work_out.Goals as goal

pub returns-in_err-or_level-clause-told : goal.returns-in_err-or_level-clause-told
unfolding told_bytes
returns-in_err-or_level-clause-told c = λ t is. ap told_of (handed_on _ _ c.from_residual.ensures.1) ∙ rw (tree_refused _ t is _ _ _ c.in_err-or_level.ensures.refused)

pub returns-in_err-or_level-clause-left : goal.returns-in_err-or_level-clause-left
unfolding left_in
returns-in_err-or_level-clause-left c = λ t is. rw (tree_refused _ t is _ _ _ c.in_err-or_level.ensures.refused)

pub returns-clause-told : goal.returns-clause-told
returns-clause-told c = λ t is.
    let worked = c.in_ok-or_level.ensures.worked in
    rw (tree_worked _ t is _ SlotHolds _ _ _ worked) (c.write_slot.ensures.told worked.value worked.holds)

pub returns-clause-left : goal.returns-clause-left
returns-clause-left c = λ t is.
    let worked = c.in_ok-or_level.ensures.worked in
    rw (tree_worked _ t is _ SlotHolds _ _ _ worked) (c.write_slot.ensures.left worked.value worked.holds)
