-- The bytes left fall, and within a level the four functions.
use Rattle.std.proofs.Common.{◌+◌, ◌*◌, length}
use Rattle.combined_lists.specs.Line.{quotient, common, joined}
use Rattle.combined_lists.specs.Inner.Slots.{on_lists, sent_in, lists_in, SlotHolds}
use Rattle.combined_lists.proofs.work.WalkLaws.{Going}
use Rattle.combined_lists.proofs.work.+levels.Given as goal

abbrev pub decreases-atom : goal.decreases-atom
decreases-atom l = 4 * length l.line.now

abbrev pub decreases-quotient_level : goal.decreases-quotient_level
decreases-quotient_level l = 4 * length l.line.now + 1

abbrev pub decreases-and_level : goal.decreases-and_level
decreases-and_level l = 4 * length l.line.now + 2

abbrev pub decreases-or_level : goal.decreases-or_level
decreases-or_level l = 4 * length l.line.now + 3

abbrev pub invariant-quotient_level-loop-right : goal.invariant-quotient_level-loop-right
invariant-quotient_level-loop-right l = Going on_lists (lists_in l.rolls) SlotHolds (sent_in l.rolls) quotient l.line l.top l.rest l.fn.slots l.slots

abbrev pub decreases-quotient_level-loop-right : goal.decreases-quotient_level-loop-right
decreases-quotient_level-loop-right l = length l.rest

abbrev pub invariant-and_level-loop-right : goal.invariant-and_level-loop-right
invariant-and_level-loop-right l = Going on_lists (lists_in l.rolls) SlotHolds (sent_in l.rolls) common l.line l.top l.rest l.fn.slots l.slots

abbrev pub decreases-and_level-loop-right : goal.decreases-and_level-loop-right
decreases-and_level-loop-right l = length l.rest

abbrev pub invariant-or_level-loop-right : goal.invariant-or_level-loop-right
invariant-or_level-loop-right l = Going on_lists (lists_in l.rolls) SlotHolds (sent_in l.rolls) joined l.line l.top l.rest l.fn.slots l.slots

abbrev pub decreases-or_level-loop-right : goal.decreases-or_level-loop-right
decreases-or_level-loop-right l = length l.rest
