use Rattle.pauli_group.proofs.scan.PhaseLaws.{lowered_start, lowered_odd, lowered_two, lowered_not, lowered_end}
use Rattle.pauli_group.proofs.scan.modulus_of.Goals as goal
use Rattle.pauli_group.proofs.scan.modulus_of.Goals.{then-e-eq1-2, else-e-eq1-2}

pub loop-words-init : goal.loop-words-init
loop-words-init c = lowered_start _

pub returns-then-e-eq1 : goal.returns-then-e-eq1
returns-then-e-eq1 c = lowered_odd c.loop-words.invariant c.loop-words-test.true c.if-e-eq1.true

pub loop-words-preserved : goal.loop-words-preserved
loop-words-preserved c = let inside = c.loop-words-test.true in
    let even = c.if-e-eq1.false in
    elim c.if-e-eq1-2.branch [
      | then-e-eq1-2 w ↦ lowered_two c.loop-words.invariant inside even w.if-e-eq1-2.true c.if-e-eq1-2.m w.m-is
      | else-e-eq1-2 w ↦ lowered_not c.loop-words.invariant inside even w.if-e-eq1-2.false c.if-e-eq1-2.m w.m-is
    ]

pub returns : goal.returns
returns c = lowered_end c.loop-words.invariant c.loop-words-test.false
