use Rattle.std.proofs.Common.{sym, ap, ◌∙◌, arith}
use Rattle.pauli.proofs.roll.ReaderLaws.{filled_start, sets_start, bodies_next, filled_next, sets_x, sets_z, sets_next, sets_end}
use Rattle.pauli.specs.Roll.{check_set}
use Rattle.pauli.specs.Refusals.{told_of}
use Rattle.pauli.proofs.refusal.HandedOn.{handed_on}
use Rattle.pauli.proofs.roll.check_sets.Goals as goal

pub loop-i-init : goal.loop-i-init
loop-i-init c = (filled_start _ _ c.requires, sets_start _ _)

pub numbers_at-requires : goal.numbers_at-requires
numbers_at-requires c = omega (arith, c.requires, c.loop-i.invariant.0.table, c.loop-i.invariant.0.bodies, bodies_next c.args.b.now c.args.n c.loop-i.at c.loop-i.i c.loop-i-test.true c.entry_at-e.result c.entry_at-e.ensures.0)

pub returns-in_err-check_set : goal.returns-in_err-check_set
returns-in_err-check_set c = ap told_of (handed_on _ _ c.from_residual.ensures.1) ∙ sym (c.loop-i.invariant.1 ∙ sets_x _ _ _ _ c.loop-i-test.true _ c.entry_at-e.ensures.0 _ _ (sym (c.in_err-check_set.ensures ∙ ap (check_set c.loop-i.i 0) c.numbers_at.ensures)))

pub numbers_at-requires-in-loop-i : goal.numbers_at-requires-in-loop-i
numbers_at-requires-in-loop-i c = omega (arith, c.requires, c.loop-i.invariant.0.table, c.loop-i.invariant.0.bodies, bodies_next c.args.b.now c.args.n c.loop-i.at c.loop-i.i c.loop-i-test.true c.entry_at-e.result c.entry_at-e.ensures.0)

pub returns-in_err-check_set-2 : goal.returns-in_err-check_set-2
returns-in_err-check_set-2 c = ap told_of (handed_on _ _ c.from_residual-in_err-check_set-2.ensures.1) ∙ sym (c.loop-i.invariant.1 ∙ sets_z _ _ _ _ c.loop-i-test.true _ c.entry_at-e.ensures.0 _ (sym (c.in_ok-check_set.ensures ∙ ap (check_set c.loop-i.i 0) c.numbers_at.ensures)) _ _ (sym (c.in_err-check_set-2.ensures ∙ ap (check_set c.loop-i.i 0) c.numbers_at-in-loop-i.ensures)))

pub loop-i-preserved : goal.loop-i-preserved
loop-i-preserved c = (filled_next _ _ _ _ c.loop-i-test.true _ c.entry_at-e.ensures.0 c.loop-i.invariant.0, c.loop-i.invariant.1 ∙ sets_next _ _ _ _ c.loop-i-test.true _ c.entry_at-e.ensures.0 _ (sym (c.in_ok-check_set.ensures ∙ ap (check_set c.loop-i.i 0) c.numbers_at.ensures)) _ (sym (c.in_ok-check_set-2.ensures ∙ ap (check_set c.loop-i.i 0) c.numbers_at-in-loop-i.ensures)))

pub returns : goal.returns
returns c = sym (c.loop-i.invariant.1 ∙ sets_end _ _ _ _ c.loop-i-test.false)
