use Rattle.std.proofs.Common.{sym, ◌∙◌, arith}
use Rattle.combined_lists.proofs.slot.SlotLaws.{kept_small, kept_own, kept_room, kept_slot}
use Rattle.combined_lists.proofs.slot.keep.Goals as goal

pub put_numbers-requires : goal.put_numbers-requires
put_numbers-requires c =
    let k = c.requires.keepable in
    (k.places, kept_small k _ c.used_by.ensures)

pub move_words-requires : goal.move_words-requires
move_words-requires c =
    let k = c.requires.keepable in
    let own = c.numbers_of-numbers.ensures ∙ c.put_numbers.ensures.qubits in
    kept_room k _ _ _ own (own ∙ kept_own k _ c.used_by.ensures) (omega (arith, c.put_numbers.array_long))

pub returns : goal.returns
returns c gs k =
    let own = c.numbers_of-numbers.ensures in
    kept_slot k _ _ _ c.put_numbers.array_long c.put_numbers.ensures.fit (sym own) (own ∙ c.put_numbers.ensures.qubits ∙ kept_own k _ c.used_by.ensures)
    c.move_words.ensures.list c.move_words.ensures.rest
