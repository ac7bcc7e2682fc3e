use Rattle.std.proofs.Common.{sym, ap, ◌∙◌, arith}
use Rattle.pauli.specs.Refusals.{told_refusal}
use Rattle.pauli.specs.Roll.{most_paulis}
use Rattle.pauli.specs.Told.{answer}
use Rattle.pauli_group.proofs.source.LimitLaws.{too_many, too_wide, joined_qubits, can_join}
use Rattle.pauli_group.proofs.source.SourceLaws.{source_counted}
use Rattle.pauli_group.proofs.source.SourcePair.checked.Goals as goal

pub overflow_add-count : goal.overflow_add-count
overflow_add-count c = omega (arith, c.count.ensures, c.count-2.ensures, (source_counted c.args.left).few, (source_counted c.args.right).few)

pub returns-then-count-gt-MOST_PAULIS-clause-told : goal.returns-then-count-gt-MOST_PAULIS-clause-told
unfolding most_paulis
returns-then-count-gt-MOST_PAULIS-clause-told c =
    ap told_refusal c.into.ensures
    ∙ sym (too_many c.args.left c.args.right (answer 0) (omega (arith, c.count.ensures, c.count-2.ensures, c.if-count-gt-MOST_PAULIS.true)))

pub returns-then-is_past_limit-clause-told : goal.returns-then-is_past_limit-clause-told
unfolding most_paulis
returns-then-is_past_limit-clause-told c =
    ap told_refusal c.into-then-is_past_limit.ensures
    ∙ sym (too_wide c.args.left c.args.right _ c.gather_both.ensures (answer 0) (omega (arith, c.count.ensures, c.count-2.ensures, c.if-count-gt-MOST_PAULIS.false))
    (sym c.is_past_limit.ensures ∙ c.if-is_past_limit.true))

pub returns-clause-told : goal.returns-clause-told
unfolding most_paulis
returns-clause-told c =
    sym (can_join c.args.left c.args.right _ c.gather_both.ensures (answer 0) (omega (arith, c.count.ensures, c.count-2.ensures, c.if-count-gt-MOST_PAULIS.false))
    (sym c.is_past_limit.ensures ∙ c.if-is_past_limit.false))

pub invariant_of-result : goal.invariant_of-result
unfolding most_paulis
invariant_of-result c = record {
  few = omega (arith, c.count.ensures, c.count-2.ensures, c.if-count-gt-MOST_PAULIS.false);
  qubits = joined_qubits c.args.left c.args.right _ c.gather_both.ensures (sym c.is_past_limit.ensures ∙ c.if-is_past_limit.false);
}
