use Rattle.std.proofs.Common.{sym, refl, ◌∙◌, arith, length-take-le}
use borrow.Author.Tests.{ltb-true, ltb-false}
use Rattle.pauli.proofs.support.Walk.{walking_start, walking_next, walking_full, walking_end}
use Rattle.pauli.specs.Support.{most_qubits}
use Rattle.pauli.proofs.support.Support.gather_qubits.Goals as goal

pub loop-number-init : goal.loop-number-init
unfolding most_qubits
loop-number-init c =
    let size = length-take-le c.self.inside.count c.self.inside.numbers (omega arith) in
    walking_start _ _ (rw (← c.self.view_is) (omega (arith, size))) (rw (← c.self.view_is) c.self.invariant.1)

pub returns-then-is_past_limit-clause-gathered : goal.returns-then-is_past_limit-clause-gathered
returns-then-is_past_limit-clause-gathered c = walking_full _ _ _ _ _ _ c.loop-number.invariant (ltb-true _ _ (sym c.is_past_limit.ensures ∙ c.if-is_past_limit.true))

pub loop-number-preserved : goal.loop-number-preserved
loop-number-preserved c =
    walking_next _ _ _ _ _ _ c.loop-number.invariant c.loop-number-test.true _ refl _ _ (ltb-false _ _ (sym c.is_past_limit.ensures ∙ c.if-is_past_limit.false)) c.note-from.ensures.known c.note-from.ensures.next

pub returns-clause-gathered : goal.returns-clause-gathered
returns-clause-gathered c = walking_end _ _ _ _ _ _ c.loop-number.invariant c.loop-number-test.false
