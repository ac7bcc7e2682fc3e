use Rattle.pauli_group.proofs.common.PartLaws.{lists_few, part_on, part_left, once_on, once_right, part_list, part_few}
use Rattle.pauli_group.proofs.source.SourceLaws.{source_counted}
use Rattle.pauli_group.proofs.common.put_part.Goals as goal

pub note_by-phases-requires : goal.note_by-phases-requires
note_by-phases-requires c =
    let B = c.common_basis-m.ensures in
    (B.few, part_on _ _ _ c.requires _ _ B.list, part_left _ _ _ c.requires _ _ B.list)

pub note_by-phases-requires-2 : goal.note_by-phases-requires-2
note_by-phases-requires-2 c =
    let B = c.common_basis-m.ensures in
    let N = c.note_by-phases.ensures in
    (B.few, once_on _ _ _ c.requires _ _ B.list _ N.rest, once_right _ _ _ c.requires _ _ B.list _ N.rest)

pub returns : goal.returns
returns c =
    let pair = c.args.pair in
    let B = c.common_basis-m.ensures in
    let N = c.note_by-phases.ensures in
    let M = c.note_by-phases-2.ensures in
    let all = rw (c.at-kept.ensures.0, c.at-kept.ensures.1) at c.append_phases.ensures.list in
    let list = part_list _ _ _ c.requires _ _ B.list _ N.rest _ M.rest _ _ N.by M.by _ _ N.step M.step _ _ c.keep_whole.ensures.list _ _ all in
    let few = lists_few _ _ _ _ (source_counted pair.left) (source_counted pair.right) pair.few in
    record { few = part_few _ _ few _ _ list; list = list }
