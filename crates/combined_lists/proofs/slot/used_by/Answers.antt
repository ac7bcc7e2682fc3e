use Rattle.combined_lists.proofs.slot.SlotLaws.{used_none, used_next, used_all}
use Rattle.combined_lists.proofs.slot.used_by.Goals as goal

pub loop-words-init : goal.loop-words-init
loop-words-init c = used_none _ _ c.none-used.ensures

pub loop-words-preserved : goal.loop-words-preserved
loop-words-preserved c = used_next _ c.loop-words.invariant c.loop-words-test.true _ c.from_words-p.ensures _ _ c.bitor-used.ensures c.bitor.ensures

pub returns : goal.returns
returns c = used_all _ c.loop-words.invariant c.loop-words-test.false
