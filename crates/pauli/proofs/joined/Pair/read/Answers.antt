-- Roll by roll, then limit by limit, in the order of the refusals.
use Rattle.pauli.proofs.joined.JoinLaws.{accepted_few, counts_left, counts_right, counts_many, counts_qubits, counts_pass}
use Rattle.pauli.specs.Roll.{most_paulis}
use Rattle.pauli.specs.Support.{most_qubits}
use Rattle.std.proofs.Common.{sym, ap, ◌∙◌, arith}
use Rattle.pauli.specs.Refusals.{told_by, told_refusal}
use Rattle.pauli.proofs.refusal.HandedOn.{handed_on}
use Rattle.pauli.proofs.joined.Pair.read.Goals as goal

pub returns-in_err-left-clause-counts : goal.returns-in_err-left-clause-counts
returns-in_err-left-clause-counts c = ap (told_by _) (handed_on _ _ c.from_residual.ensures.1) ∙ sym (counts_left c.args.left.now c.args.right.now _ _ (sym c.in_err-left.ensures.count))

pub returns-in_err-right-clause-counts : goal.returns-in_err-right-clause-counts
returns-in_err-right-clause-counts c = ap (told_by _) (handed_on _ _ c.from_residual-in_err-right.ensures.1) ∙ sym (counts_right c.args.left.now c.args.right.now _ (sym c.in_ok-left.ensures.count) _ _ (sym c.in_err-right.ensures.count))

pub overflow_add-left : goal.overflow_add-left
unfolding most_paulis
overflow_add-left c = omega (arith, accepted_few c.args.left.now _ (sym c.in_ok-left.ensures.count), accepted_few c.args.right.now _ (sym c.in_ok-right.ensures.count))

pub returns-then-left-right-gt-MOST_PAULIS-clause-counts : goal.returns-then-left-right-gt-MOST_PAULIS-clause-counts
unfolding most_paulis
returns-then-left-right-gt-MOST_PAULIS-clause-counts c = ap told_refusal c.into.ensures ∙ sym (counts_many c.args.left.now c.args.right.now _ (sym c.in_ok-left.ensures.count) _ (sym c.in_ok-right.ensures.count) c.if-left-right-gt-MOST_PAULIS.true)

pub returns-then-joined_qubits-gt-MOST_QUBITS-clause-counts : goal.returns-then-joined_qubits-gt-MOST_QUBITS-clause-counts
unfolding most_paulis most_qubits
returns-then-joined_qubits-gt-MOST_QUBITS-clause-counts c = ap told_refusal c.into-then-joined_qubits-gt-MOST_QUBITS.ensures ∙ sym (counts_qubits c.args.left.now c.args.right.now _ (sym c.in_ok-left.ensures.count) _ (sym c.in_ok-right.ensures.count) c.if-left-right-gt-MOST_PAULIS.false _ (rw (c.in_ok-left.ensures.bytes, c.in_ok-right.ensures.bytes) at c.joined_qubits.ensures) c.if-joined_qubits-gt-MOST_QUBITS.true)

pub returns-clause-counts : goal.returns-clause-counts
unfolding most_paulis most_qubits
returns-clause-counts c = sym (counts_pass c.args.left.now c.args.right.now _ (sym c.in_ok-left.ensures.count) _ (sym c.in_ok-right.ensures.count) c.if-left-right-gt-MOST_PAULIS.false _ (rw (c.in_ok-left.ensures.bytes, c.in_ok-right.ensures.bytes) at c.joined_qubits.ensures) c.if-joined_qubits-gt-MOST_QUBITS.false)

pub invariant_of-result : goal.invariant_of-result
unfolding most_qubits
invariant_of-result c = record { few = c.if-left-right-gt-MOST_PAULIS.false; qubits = omega (arith, c.joined_qubits.ensures, c.if-joined_qubits-gt-MOST_QUBITS.false) }
