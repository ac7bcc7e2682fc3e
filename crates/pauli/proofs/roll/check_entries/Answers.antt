use Rattle.std.proofs.Common.{sym, ap, ◌∙◌, arith}
use Rattle.pauli.proofs.roll.ReaderLaws.{entries_start, entry_wrong, entry_misplaced, entry_missing, entry_passes, entries_end}
use Rattle.pauli.specs.Roll.{most_paulis, check_entries}
use Rattle.pauli.proofs.roll.check_entries.Goals as goal

pub loop-i-init : goal.loop-i-init
loop-i-init c = (omega arith, omega arith, ap (check_entries 0 0) (entries_start _ _))

pub returns-then-e-gt1 : goal.returns-then-e-gt1
returns-then-e-gt1 c = sym (c.loop-i.invariant.2 ∙ entry_wrong _ _ _ c.loop-i-test.true _ c.entry_at-e.ensures.0 _ c.if-e-gt1.true)

pub returns-then-e-before : goal.returns-then-e-before
returns-then-e-before c = sym (c.loop-i.invariant.2 ∙ entry_misplaced _ _ _ c.loop-i-test.true _ c.entry_at-e.ensures.0 _ c.if-e-gt1.false c.if-e-before.true)

pub returns-then-e-eq0 : goal.returns-then-e-eq0
returns-then-e-eq0 c = sym (c.loop-i.invariant.2 ∙ entry_missing _ _ _ c.loop-i-test.true _ c.entry_at-e.ensures.0 _ c.if-e-gt1.false c.if-e-before.false c.if-e-eq0.true)

pub overflow_add-before : goal.overflow_add-before
unfolding most_paulis
overflow_add-before c = omega arith

pub overflow_add-before-in-loop-i : goal.overflow_add-before-in-loop-i
unfolding most_paulis
overflow_add-before-in-loop-i c = omega arith

pub loop-i-preserved : goal.loop-i-preserved
unfolding most_paulis
loop-i-preserved c = (omega arith, omega arith, c.loop-i.invariant.2 ∙ entry_passes _ _ _ c.loop-i-test.true _ c.entry_at-e.ensures.0 _ c.if-e-gt1.false c.if-e-before.false c.if-e-eq0.false)

pub returns : goal.returns
returns c = sym (c.loop-i.invariant.2 ∙ entries_end _ _ _ _ c.loop-i-test.false)
