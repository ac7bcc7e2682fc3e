use Rattle.combined_lists.proofs.slot.SlotLaws.{lent_listed, lent_written, lent_kept}
use Rattle.combined_lists.proofs.slot.kept_list.Goals as goal

pub invariant_of-result : goal.invariant_of-result
invariant_of-result c = record { kept = lent_kept c.requires.0.has _ c.requires.1 _ c.fives_at.ensures.list c.fives_at.ensures.count }

pub returns : goal.returns
returns c = record {
  listed = λ gs h. lent_listed h _ c.requires.1 _ c.fives_at.ensures.list;
  written = λ gs h. lent_written h _ c.requires.1 _ c.fives_at.ensures.list;
}
