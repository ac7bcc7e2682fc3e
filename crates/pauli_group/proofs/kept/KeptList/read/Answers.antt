use Rattle.std.proofs.Common.{◌∙◌, arith}
use Rattle.pauli_group.proofs.kept.KeptListLaws.{kept_on, kept_movable, kept_read}
use Rattle.pauli_group.proofs.kept.KeptList.read.Goals as goal

pub move_words-requires : goal.move_words-requires
move_words-requires c =
    let k = c.args.self.kept in
    (c.requires.2, omega (arith, c.told-w, c.requires.3), kept_on _ _ k, kept_movable _ _ k _ c.requires.0 c.requires.1)

pub returns-clause-list : goal.returns-clause-list
returns-clause-list c = c.move_words.ensures.list ∙ kept_read _ _ _
