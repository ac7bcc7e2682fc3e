use Rattle.std.proofs.Common.{arith}
use Rattle.pauli.specs.Pauli.{I}
use Rattle.pauli.proofs.signed.SignedLaws.{length_paulis}
use Rattle.pauli_group.proofs.list.ListLaws.{stored_none, stored_step, stored_all}
use Rattle.pauli_group.proofs.moved.MoveLaws.{words_movable, words_value}
use Rattle.pauli_group.proofs.moved.move_words.Goals as goal

pub loop-i-init : goal.loop-i-init
loop-i-init c = stored_none _ _ _ _ _

pub move_pauli-requires : goal.move_pauli-requires
move_pauli-requires c =
    let p = c.requires in
    let m = words_movable _ _ c.loop-i-test.true _ _ p.2 p.3 _ c.from_words-p.ensures in
    (p.0, m.0, m.1, m.2)

pub loop-i-preserved : goal.loop-i-preserved
loop-i-preserved c =
    stored_step _ _ _ _ _ _ _ c.loop-i.invariant (length_paulis _) I _ c.loop-i-test.true c.requires.1
    (words_value _ _ c.loop-i-test.true _ _ _ _ c.from_words-p.ensures c.move_pauli.ensures) _ c.store.ensures

pub returns-clause-list : goal.returns-clause-list
returns-clause-list c = stored_all _ _ _ _ _ _ _ c.loop-i.invariant (length_paulis _) c.loop-i.auto.i-end (omega arith)
