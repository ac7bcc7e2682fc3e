use Rattle.std.proofs.Common.{ap, arith}
use Rattle.pauli.proofs.joined.JoinLaws.{accepted}
use Rattle.pauli.specs.Condense.{nothing}
use Rattle.pauli.specs.Pauli.{normal}
use Rattle.pauli_group.specs.Inner.Lists.{over_places}
use Rattle.pauli_group.proofs.list.ListLaws.{stored_none, stored_step, stored_all}
use Rattle.pauli_group.proofs.list.read_list.Goals as goal

pub loop-i-init : goal.loop-i-init
loop-i-init c = stored_none _ _ _ _ _

pub loop-i-preserved : goal.loop-i-preserved
unfolding over_places
loop-i-preserved c =
    stored_step _ _ _ _ _ _ _ c.loop-i.invariant (accepted _ _ c.args.roll.accepted).1 nothing _ c.loop-i-test.true (omega (arith, c.told-w, c.requires.2))
    (ap normal c.condense_from.ensures) _ c.store.ensures

pub returns-clause-list : goal.returns-clause-list
returns-clause-list c =
    stored_all _ _ _ _ _ _ _ c.loop-i.invariant (accepted _ _ c.args.roll.accepted).1 c.loop-i.auto.i-end (omega arith)
