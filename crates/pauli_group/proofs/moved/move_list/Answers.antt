use Rattle.std.proofs.Common.{ap, ◌∙◌, arith}
use Rattle.pauli.specs.Pauli.{I, normal}
use Rattle.pauli.proofs.write.Writers.{length_list}
use Rattle.pauli.proofs.signed.SignedLaws.{stored_value}
use Rattle.pauli_group.proofs.list.ListLaws.{stored_none, stored_step, stored_all}
use Rattle.pauli_group.proofs.moved.MoveLaws.{kept_at, kept_movable, moved_value}
use Rattle.pauli_group.proofs.moved.move_list.Goals as goal

pub loop-i-init : goal.loop-i-init
loop-i-init c = (omega arith, stored_none _ _ _ _ _)

pub move_pauli-requires : goal.move_pauli-requires
move_pauli-requires c =
    let p = c.requires in
    let m = kept_movable _ _ _ _ _ _ _ c.loop-i.invariant.1.rest p.0 c.loop-i-test.true _ _ _ p.3 p.4 _ (stored_value _ c.load-p.ensures) in
    (p.2, m.0, m.1, m.2)

pub loop-i-preserved : goal.loop-i-preserved
loop-i-preserved c =
    let l = c.loop-i in
    let first = c.args.w.now in
    let at = kept_at _ _ _ _ _ _ _ l.invariant.1.rest c.requires.0 c.loop-i-test.true in (
      omega arith,
      stored_step _ _ _ _ _ _ _ l.invariant.1 (length_list first c.args.from.base c.args.from.count) I _ c.loop-i-test.true (rw c.told-w c.requires.1)
          (moved_value _ _ (stored_value _ c.load-p.ensures ∙ ap normal at) _ _ _ c.move_pauli.ensures) _ c.store.ensures,
    )

pub returns-clause-list : goal.returns-clause-list
returns-clause-list c =
    stored_all _ _ _ _ _ _ _ c.loop-i.invariant.1 (length_list _ _ _) c.loop-i.invariant.0 c.loop-i-test.false
