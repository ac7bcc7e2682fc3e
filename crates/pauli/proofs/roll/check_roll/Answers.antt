-- Test by test, in the order of `read`.
use Rattle.pauli.proofs.roll.ReaderLaws.{roll_short, roll_many, roll_cut, roll_entry, total_bound, roll_length, roll_filled, roll_set, roll_qubits, roll_passes}
use Rattle.pauli.specs.Roll.{most_paulis}
use Rattle.pauli.specs.Support.{most_qubits, insert_all}
use Rattle.std.proofs.Common.{ℕ, suc, min, List, [], length, sym, ap, ◌∙◌, arith}
use Rattle.pauli.specs.Refusals.{told_of, told_refusal}
use Rattle.pauli.proofs.refusal.HandedOn.{handed_on}
use Rattle.pauli.proofs.roll.check_roll.Goals as goal

pub returns-then-b-lt2 : goal.returns-then-b-lt2
returns-then-b-lt2 c = ap told_refusal c.into.ensures ∙ sym (roll_short _ c.if-b-lt2.true)

pub returns-then-n-gt-MOST_PAULIS : goal.returns-then-n-gt-MOST_PAULIS
unfolding most_paulis
returns-then-n-gt-MOST_PAULIS c = ap told_refusal c.into-then-n-gt-MOST_PAULIS.ensures ∙ sym (roll_many _ c.if-b-lt2.false _ c.u16_at-n.ensures.0 c.if-n-gt-MOST_PAULIS.true)

pub returns-then-b-n : goal.returns-then-b-n
unfolding most_paulis
returns-then-b-n c = ap told_refusal c.into-then-b-n.ensures ∙ sym (roll_cut _ c.if-b-lt2.false _ c.u16_at-n.ensures.0 c.if-n-gt-MOST_PAULIS.false c.if-b-n.true)

pub check_entries-requires : goal.check_entries-requires
unfolding most_paulis
check_entries-requires c = omega arith

pub returns-in_err-total : goal.returns-in_err-total
unfolding most_paulis
returns-in_err-total c = ap told_of (handed_on _ _ c.from_residual.ensures.1) ∙ sym (roll_entry _ c.if-b-lt2.false _ c.u16_at-n.ensures.0 c.if-n-gt-MOST_PAULIS.false c.if-b-n.false _ _ (sym c.in_err-total.ensures))

pub overflow_mul-total : goal.overflow_mul-total
unfolding most_paulis
overflow_mul-total c = omega (arith, total_bound _ c.if-b-lt2.false _ c.u16_at-n.ensures.0 c.if-n-gt-MOST_PAULIS.false c.if-b-n.false _ (sym c.in_ok-total.ensures) (λ q. (c.type_inv.b q).fits))

pub overflow_add-n-3 : goal.overflow_add-n-3
unfolding most_paulis
overflow_add-n-3 c = omega (arith, total_bound _ c.if-b-lt2.false _ c.u16_at-n.ensures.0 c.if-n-gt-MOST_PAULIS.false c.if-b-n.false _ (sym c.in_ok-total.ensures) (λ q. (c.type_inv.b q).fits))

pub returns-then-b-n-2 : goal.returns-then-b-n-2
unfolding most_paulis
returns-then-b-n-2 c = ap told_refusal c.into-then-b-n-2.ensures ∙ sym (roll_length _ c.if-b-lt2.false _ c.u16_at-n.ensures.0 c.if-n-gt-MOST_PAULIS.false c.if-b-n.false _ (sym c.in_ok-total.ensures) c.if-b-n-2.true)

pub check_sets-requires : goal.check_sets-requires
unfolding most_paulis
check_sets-requires c = roll_filled _ c.if-b-lt2.false _ c.u16_at-n.ensures.0 c.if-n-gt-MOST_PAULIS.false c.if-b-n.false _ (sym c.in_ok-total.ensures) c.if-b-n-2.false

pub returns-in_err-check_sets : goal.returns-in_err-check_sets
unfolding most_paulis
returns-in_err-check_sets c = ap told_of (handed_on _ _ c.from_residual-in_err-check_sets.ensures.1) ∙ sym (roll_set _ c.if-b-lt2.false _ c.u16_at-n.ensures.0 c.if-n-gt-MOST_PAULIS.false c.if-b-n.false _ (sym c.in_ok-total.ensures) c.if-b-n-2.false _ _ (sym c.in_err-check_sets.ensures))

pub returns-then-distinct-gt-MOST_QUBITS : goal.returns-then-distinct-gt-MOST_QUBITS
unfolding most_paulis most_qubits
returns-then-distinct-gt-MOST_QUBITS c = ap told_refusal c.into-then-distinct-gt-MOST_QUBITS.ensures ∙ sym (roll_qubits _ c.if-b-lt2.false _ c.u16_at-n.ensures.0 c.if-n-gt-MOST_PAULIS.false c.if-b-n.false _ (sym c.in_ok-total.ensures) c.if-b-n-2.false _ (sym c.in_ok-check_sets.ensures) _ (c.distinct.ensures ∙ ap (λ (ns : List ℕ). min (length (insert_all ns [])) (suc most_qubits)) c.numbers_at.ensures) c.if-distinct-gt-MOST_QUBITS.true)

pub returns : goal.returns
unfolding most_paulis most_qubits
returns c = sym (roll_passes _ c.if-b-lt2.false _ c.u16_at-n.ensures.0 c.if-n-gt-MOST_PAULIS.false c.if-b-n.false _ (sym c.in_ok-total.ensures) c.if-b-n-2.false _ (sym c.in_ok-check_sets.ensures) _ (c.distinct.ensures ∙ ap (λ (ns : List ℕ). min (length (insert_all ns [])) (suc most_qubits)) c.numbers_at.ensures) c.if-distinct-gt-MOST_QUBITS.false)
