use Rattle.std.proofs.Common.{arith}
use Rattle.pauli.proofs.joined.JoinLaws.{accepted}
use Rattle.pauli.specs.Condense.{nothing}
use Rattle.pauli_group.proofs.list.ListLaws.{stored_none, stored_step, stored_all}
use Rattle.centralizer.proofs.stacked.StackedLaws.{paulis_few, exchanged_is}
use Rattle.centralizer.proofs.stacked.read_exchanged.Goals as goal

pub loop-i-init : goal.loop-i-init
loop-i-init c = (paulis_few _ _ c.args.roll.accepted, stored_none _ _ _ _ _)

pub store-requires : goal.store-requires
store-requires c = omega (arith, c.told-w, c.loop-i.invariant.1.rest.size)

pub loop-i-preserved : goal.loop-i-preserved
loop-i-preserved c = (
  c.loop-i.invariant.0,
  stored_step _ _ _ _ _ _ _ c.loop-i.invariant.1 (accepted _ _ c.args.roll.accepted).1 nothing _ c.loop-i-test.true (omega (arith, c.told-w))
      (exchanged_is _ _ _ c.condense_from-p.ensures) _ c.store.ensures,
)

pub returns-clause-list : goal.returns-clause-list
returns-clause-list c =
    stored_all _ _ _ _ _ _ _ c.loop-i.invariant.1 (accepted _ _ c.args.roll.accepted).1 c.loop-i.auto.i-end c.loop-i-test.false
