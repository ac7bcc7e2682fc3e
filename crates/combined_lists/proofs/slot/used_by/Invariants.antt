-- Invariant: the places of the Paulis before words are joined.
use Rattle.pauli.specs.PlaceSet.{set_in}
use Rattle.combined_lists.proofs.slot.SlotLaws.{UsedUpTo}
use Rattle.combined_lists.proofs.slot.used_by.Given as goal

abbrev pub invariant-loop-words : goal.invariant-loop-words
invariant-loop-words l = UsedUpTo l.list l.words-index (set_in l.used)
