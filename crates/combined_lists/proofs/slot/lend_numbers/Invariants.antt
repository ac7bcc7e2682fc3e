-- Invariant: the first i numbers are those of the slot.
use Rattle.std.proofs.Common.{◌≡◌, length, take, drop}
use Rattle.combined_lists.proofs.slot.lend_numbers.Given as goal

abbrev pub invariant-loop-i : goal.invariant-loop-i
invariant-loop-i l = (length l.numbers ≡ 128) × (take l.i l.numbers ≡ take l.i (drop 2 l.slot))
