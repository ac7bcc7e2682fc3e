use Rattle.std.proofs.Common.{sym, ◌∙◌, arith, length-take-le}
use borrow.Author.Tests.{ltb-true, ltb-false}
use Rattle.pauli.proofs.roll.BytesLaws.{u32_bytes}
use Rattle.pauli.proofs.support.Walk.{numbers_length, number_at, walking_start, walking_next, walking_full, walking_end}
use Rattle.pauli.specs.Support.{most_qubits}
use Rattle.pauli.proofs.support.Support.gather.Goals as goal

pub loop-bytes-init : goal.loop-bytes-init
unfolding most_qubits
loop-bytes-init c =
    let size = length-take-le c.self.inside.count c.self.inside.numbers (omega arith) in
    walking_start _ _ (rw (← c.self.view_is) (omega (arith, size))) (rw (← c.self.view_is) c.self.invariant.1)

pub returns-then-is_past_limit : goal.returns-then-is_past_limit
returns-then-is_past_limit c = walking_full _ _ _ _ _ _ c.loop-bytes.invariant (ltb-true _ _ (sym c.is_past_limit.ensures ∙ c.if-is_past_limit.true))

pub loop-bytes-preserved : goal.loop-bytes-preserved
loop-bytes-preserved c =
    walking_next _ _ _ _ _ _ c.loop-bytes.invariant (rw numbers_length c.loop-bytes-test.true) _ (u32_bytes _ _ (omega arith) c.from_le_bytes.ensures ∙ sym (number_at _ _ c.loop-bytes-test.true)) _ _ (ltb-false _ _ (sym c.is_past_limit.ensures ∙ c.if-is_past_limit.false)) c.note-from.ensures.known c.note-from.ensures.next

pub returns : goal.returns
returns c = walking_end _ _ _ _ _ _ c.loop-bytes.invariant (rw numbers_length c.loop-bytes-test.false)
