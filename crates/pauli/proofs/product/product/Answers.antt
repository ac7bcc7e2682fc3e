-- The refusals in turn, and the product over the support of both rolls.
use Rattle.std.proofs.Common.{sym, ap, ◌∙◌, arith}
use Rattle.pauli.proofs.join.ProductLaws.{left_refused, right_refused, many_refused, past_left_refused, past_right_refused, left_readable, right_readable, written}
use borrow.Author.Tests.{ltb-true, ltb-false}
use Rattle.pauli.specs.Support.{most_qubits}
use Rattle.pauli.specs.ProductAnswers.{made_in}
use Rattle.pauli.specs.Refusals.{told_by, told_refusal}
use Rattle.pauli.proofs.refusal.HandedOn.{handed_on}
use Rattle.pauli.proofs.product.product.Goals as goal

pub returns-in_err-left : goal.returns-in_err-left
returns-in_err-left c = left_refused c.args.left.now c.args.i c.args.right.now c.args.j c.args.out.now _ _ _ (ap (told_by made_in) (handed_on _ _ c.from_residual.ensures.1)) (sym c.in_err-left.ensures.count)

pub returns-in_err-right : goal.returns-in_err-right
returns-in_err-right c = right_refused c.args.left.now c.args.i c.args.right.now c.args.j c.args.out.now _ (sym c.in_ok-left.ensures.count) _ _ _ (ap (told_by made_in) (handed_on _ _ c.from_residual-in_err-right.ensures.1)) (sym c.in_err-right.ensures.count)

pub returns-then-is_past_limit : goal.returns-then-is_past_limit
unfolding most_qubits
returns-then-is_past_limit c = many_refused c.args.left.now c.args.i c.args.right.now c.args.j c.args.out.now _ (sym c.in_ok-left.ensures.count) _ (sym c.in_ok-right.ensures.count) _ (rw (c.in_ok-left.ensures.bytes, c.in_ok-right.ensures.bytes) at c.join_support-support.ensures) (ltb-true _ _ (sym c.is_past_limit.ensures ∙ c.if-is_past_limit.true)) _ (ap told_refusal c.into.ensures)

pub returns-then-i-left : goal.returns-then-i-left
unfolding most_qubits
returns-then-i-left c = past_left_refused c.args.left.now c.args.i c.args.right.now c.args.j c.args.out.now _ (sym c.in_ok-left.ensures.count) _ (sym c.in_ok-right.ensures.count) _ (rw (c.in_ok-left.ensures.bytes, c.in_ok-right.ensures.bytes) at c.join_support-support.ensures) (ltb-false _ _ (sym c.is_past_limit.ensures ∙ c.if-is_past_limit.false)) (omega (arith, c.if-i-left.true)) _ (ap told_refusal c.into-then-i-left.ensures)

pub returns-then-j-right : goal.returns-then-j-right
unfolding most_qubits
returns-then-j-right c = past_right_refused c.args.left.now c.args.i c.args.right.now c.args.j c.args.out.now _ (sym c.in_ok-left.ensures.count) _ (sym c.in_ok-right.ensures.count) _ (rw (c.in_ok-left.ensures.bytes, c.in_ok-right.ensures.bytes) at c.join_support-support.ensures) (ltb-false _ _ (sym c.is_past_limit.ensures ∙ c.if-is_past_limit.false)) (omega (arith, c.if-i-left.false)) (omega (arith, c.if-j-right.true)) _ (ap told_refusal c.into-then-j-right.ensures)

pub write_product-requires : goal.write_product-requires
unfolding most_qubits
write_product-requires c = rw (c.in_ok-left.ensures.bytes, c.in_ok-right.ensures.bytes) (left_readable c.args.left.now c.args.i c.args.right.now c.args.j c.args.out.now _ (sym c.in_ok-left.ensures.count) _ (sym c.in_ok-right.ensures.count) _ (rw (c.in_ok-left.ensures.bytes, c.in_ok-right.ensures.bytes, ← c.qubits.ensures.list) at c.join_support-support.ensures) (rw c.qubits.ensures.list (ltb-false _ _ (sym c.is_past_limit.ensures ∙ c.if-is_past_limit.false))) (omega (arith, c.if-i-left.false)), right_readable c.args.left.now c.args.i c.args.right.now c.args.j c.args.out.now _ (sym c.in_ok-left.ensures.count) _ (sym c.in_ok-right.ensures.count) _ (rw (c.in_ok-left.ensures.bytes, c.in_ok-right.ensures.bytes, ← c.qubits.ensures.list) at c.join_support-support.ensures) (rw c.qubits.ensures.list (ltb-false _ _ (sym c.is_past_limit.ensures ∙ c.if-is_past_limit.false))) (omega (arith, c.if-i-left.false)) (omega (arith, c.if-j-right.false)), rw c.qubits.ensures.list (ltb-false _ _ (sym c.is_past_limit.ensures ∙ c.if-is_past_limit.false)))

pub returns : goal.returns
unfolding most_qubits
returns c = written c.args.left.now c.args.i c.args.right.now c.args.j c.args.out.now _ (sym c.in_ok-left.ensures.count) _ (sym c.in_ok-right.ensures.count) _ (rw (c.in_ok-left.ensures.bytes, c.in_ok-right.ensures.bytes, ← c.qubits.ensures.list) at c.join_support-support.ensures) (rw c.qubits.ensures.list (ltb-false _ _ (sym c.is_past_limit.ensures ∙ c.if-is_past_limit.false))) (omega (arith, c.if-i-left.false)) (omega (arith, c.if-j-right.false)) _ _ (rw (c.in_ok-left.ensures.bytes, c.in_ok-right.ensures.bytes) at c.write_product.ensures.told) (rw (c.in_ok-left.ensures.bytes, c.in_ok-right.ensures.bytes) at c.write_product.ensures.left)
