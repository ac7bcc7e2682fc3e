use Rattle.std.proofs.Common.{ap, arith}
use Rattle.pauli.proofs.roll.BytesLaws.{length_le32s}
use Rattle.pauli.proofs.write.Puts.{left_start, left_done}
use Rattle.pauli.proofs.write.Writers.{loaded, paulis_start, body_bytes, body_room, body_room_z, body_step, body_end}
use Rattle.pauli.proofs.write.put_bodies.Goals as goal

pub loop-words-init : goal.loop-words-init
unfolding body_bytes
loop-words-init c = (omega arith, left_start _ _ _ _ (ap (body_bytes c.args.support.now) (paulis_start c.args.list.now)) (rw (length_le32s _) c.requires.1))

pub put_set-middle-requires : goal.put_set-middle-requires
put_set-middle-requires c = (c.requires.0, body_room c.args.list.now c.args.support.now c.loop-words.words-index c.loop-words-test.true c.from_words-p.result (loaded c.from_words-p.result _ c.from_words-p.ensures) c.loop-words.invariant.1)

pub put_set-next-requires : goal.put_set-next-requires
put_set-next-requires c = (c.requires.0, rw c.put_set-middle.ensures.next (body_room_z c.args.list.now c.args.support.now c.loop-words.words-index c.loop-words-test.true c.from_words-p.result (loaded c.from_words-p.result _ c.from_words-p.ensures) c.loop-words.invariant.1 _ c.put_set-middle.ensures.left c.put_set-middle.auto.out))

pub loop-words-preserved : goal.loop-words-preserved
loop-words-preserved c = (omega arith, body_step c.args.list.now c.args.support.now c.loop-words.words-index c.loop-words-test.true c.from_words-p.result (loaded c.from_words-p.result _ c.from_words-p.ensures) c.loop-words.invariant.1 _ c.put_set-middle.ensures.left c.put_set-middle.auto.out _ c.put_set-middle.ensures.next _ c.put_set-next.ensures.left c.put_set-next.auto.out _ c.put_set-next.ensures.next)

pub returns : goal.returns
unfolding body_bytes
returns c = (left_done c.loop-words.invariant.1 (body_end c.args.list.now c.args.support.now c.loop-words.words-index (omega arith))).0
