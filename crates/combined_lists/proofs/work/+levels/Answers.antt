use Rattle.std.proofs.Common.{arith}
use Rattle.combined_lists.specs.Line.{quotient, common, joined}
use Rattle.combined_lists.specs.Reader.{atom, level}
use Rattle.combined_lists.specs.Inner.Slots.{on_lists}
use Rattle.combined_lists.proofs.form.LevelLaws.{after_shorter}
use Rattle.combined_lists.proofs.work.WalkLaws.{ready_first, begins, ready_right, right_refuses, right_falls, ends, first_refuses, slots_fit, ready_inner, inner_left, inner_worked, inner_refuses, was_letter, named_sent, letter_worked}
use Rattle.combined_lists.proofs.work.LevelCalls.{refusal_holds, operands, turned, call_refused, one_first, first_is, rest_is}
use Rattle.combined_lists.proofs.work.+levels.Goals as goal

pub or_level-and_level-requires : goal.or_level-and_level-requires
or_level-and_level-requires t c = (omega arith, ready_first joined _ _ c.requires)

pub or_level-returns-in_err-rest-clause-refused : goal.or_level-returns-in_err-rest-clause-refused
or_level-returns-in_err-rest-clause-refused t c = refusal_holds _ _ _ c.from_residual.ensures.1 (first_refuses joined _ _ _ c.requires.reads _ _ c.in_err-rest.ensures.refused)

pub or_level-loop-right-init : goal.or_level-loop-right-init
or_level-loop-right-init t c = begins joined _ _ c.requires _ _ _ c.in_ok-rest.ensures.worked

pub or_level-overflow_add-top : goal.or_level-overflow_add-top
or_level-overflow_add-top t c = omega (arith, slots_fit (level joined) _ _ c.requires)

pub or_level-and_level-requires-in-Some : goal.or_level-and_level-requires-in-Some
or_level-and_level-requires-in-Some t c =
    let going = c.loop-right.invariant in
    (omega (arith, after_shorter _ _ _ c.in-Some.ensures, going.shorter), ready_right joined _ _ _ _ _ going _ c.in-Some.ensures)

pub or_level-returns-in_err-rest-2-clause-refused : goal.or_level-returns-in_err-rest-2-clause-refused
or_level-returns-in_err-rest-2-clause-refused t c =
    refusal_holds _ _ _ c.from_residual-in_err-rest-2.ensures.1
    (right_refuses joined _ _ _ _ _ c.loop-right.invariant _ c.in-Some.ensures _ _ c.in_err-rest-2.ensures.refused)

pub or_level-join_slots-requires : goal.or_level-join_slots-requires
or_level-join_slots-requires t c = operands _ joined _ _ _ _ _ c.loop-right.invariant _ c.in-Some.ensures _ _ c.in_ok-rest-2.ensures.worked c.requires

pub or_level-loop-right-smaller : goal.or_level-loop-right-smaller
or_level-loop-right-smaller t c =
    let going = c.loop-right.invariant in
    omega (arith, after_shorter _ _ _ c.in-Some.ensures, right_falls joined _ _ _ _ _ going _ c.in-Some.ensures _ _ c.in_ok-rest-2.ensures.worked)

pub or_level-loop-right-preserved : goal.or_level-loop-right-preserved
or_level-loop-right-preserved t c = turned _ joined _ _ _ _ _ c.loop-right.invariant _ c.in-Some.ensures _ _ c.in_ok-rest-2.ensures.worked _ c.in_ok-join_slots.ensures.answered

pub or_level-returns-in_err-join_slots-clause-refused : goal.or_level-returns-in_err-join_slots-clause-refused
or_level-returns-in_err-join_slots-clause-refused t c =
    refusal_holds _ _ _ c.from_residual-in_err-join_slots.ensures.1
    (call_refused _ joined _ _ _ _ _ c.loop-right.invariant _ c.in-Some.ensures _ _ c.in_ok-rest-2.ensures.worked _ _ c.in_err-join_slots.ensures.refused)

pub or_level-returns-clause-worked : goal.or_level-returns-clause-worked
or_level-returns-clause-worked t c = ends joined _ _ _ _ _ c.loop-right.invariant c.in_default.ensures

pub and_level-quotient_level-requires : goal.and_level-quotient_level-requires
and_level-quotient_level-requires t c = (omega arith, ready_first common _ _ c.requires)

pub and_level-returns-in_err-rest-clause-refused : goal.and_level-returns-in_err-rest-clause-refused
and_level-returns-in_err-rest-clause-refused t c = refusal_holds _ _ _ c.from_residual.ensures.1 (first_refuses common _ _ _ c.requires.reads _ _ c.in_err-rest.ensures.refused)

pub and_level-loop-right-init : goal.and_level-loop-right-init
and_level-loop-right-init t c = begins common _ _ c.requires _ _ _ c.in_ok-rest.ensures.worked

pub and_level-overflow_add-top : goal.and_level-overflow_add-top
and_level-overflow_add-top t c = omega (arith, slots_fit (level common) _ _ c.requires)

pub and_level-quotient_level-requires-in-Some : goal.and_level-quotient_level-requires-in-Some
and_level-quotient_level-requires-in-Some t c =
    let going = c.loop-right.invariant in
    (omega (arith, after_shorter _ _ _ c.in-Some.ensures, going.shorter), ready_right common _ _ _ _ _ going _ c.in-Some.ensures)

pub and_level-returns-in_err-rest-2-clause-refused : goal.and_level-returns-in_err-rest-2-clause-refused
and_level-returns-in_err-rest-2-clause-refused t c =
    refusal_holds _ _ _ c.from_residual-in_err-rest-2.ensures.1
    (right_refuses common _ _ _ _ _ c.loop-right.invariant _ c.in-Some.ensures _ _ c.in_err-rest-2.ensures.refused)

pub and_level-common_slots-requires : goal.and_level-common_slots-requires
and_level-common_slots-requires t c = operands _ common _ _ _ _ _ c.loop-right.invariant _ c.in-Some.ensures _ _ c.in_ok-rest-2.ensures.worked c.requires

pub and_level-loop-right-smaller : goal.and_level-loop-right-smaller
and_level-loop-right-smaller t c =
    let going = c.loop-right.invariant in
    omega (arith, after_shorter _ _ _ c.in-Some.ensures, right_falls common _ _ _ _ _ going _ c.in-Some.ensures _ _ c.in_ok-rest-2.ensures.worked)

pub and_level-loop-right-preserved : goal.and_level-loop-right-preserved
and_level-loop-right-preserved t c = turned _ common _ _ _ _ _ c.loop-right.invariant _ c.in-Some.ensures _ _ c.in_ok-rest-2.ensures.worked _ c.in_ok-common_slots.ensures.answered

pub and_level-returns-in_err-common_slots-clause-refused : goal.and_level-returns-in_err-common_slots-clause-refused
and_level-returns-in_err-common_slots-clause-refused t c =
    refusal_holds _ _ _ c.from_residual-in_err-common_slots.ensures.1
    (call_refused _ common _ _ _ _ _ c.loop-right.invariant _ c.in-Some.ensures _ _ c.in_ok-rest-2.ensures.worked _ _ c.in_err-common_slots.ensures.refused)

pub and_level-returns-clause-worked : goal.and_level-returns-clause-worked
and_level-returns-clause-worked t c = ends common _ _ _ _ _ c.loop-right.invariant c.in_default.ensures

pub quotient_level-atom-requires : goal.quotient_level-atom-requires
quotient_level-atom-requires t c = (omega arith, ready_first quotient _ _ c.requires)

pub quotient_level-returns-in_err-rest-clause-refused : goal.quotient_level-returns-in_err-rest-clause-refused
quotient_level-returns-in_err-rest-clause-refused t c = refusal_holds _ _ _ c.from_residual.ensures.1 (first_refuses quotient _ _ _ c.requires.reads _ _ c.in_err-rest.ensures.refused)

pub quotient_level-loop-right-init : goal.quotient_level-loop-right-init
quotient_level-loop-right-init t c = begins quotient _ _ c.requires _ _ _ c.in_ok-rest.ensures.worked

pub quotient_level-overflow_add-top : goal.quotient_level-overflow_add-top
quotient_level-overflow_add-top t c = omega (arith, slots_fit (level quotient) _ _ c.requires)

pub quotient_level-atom-requires-in-Some : goal.quotient_level-atom-requires-in-Some
quotient_level-atom-requires-in-Some t c =
    let going = c.loop-right.invariant in
    (omega (arith, after_shorter _ _ _ c.in-Some.ensures, going.shorter), ready_right quotient _ _ _ _ _ going _ c.in-Some.ensures)

pub quotient_level-returns-in_err-rest-2-clause-refused : goal.quotient_level-returns-in_err-rest-2-clause-refused
quotient_level-returns-in_err-rest-2-clause-refused t c =
    refusal_holds _ _ _ c.from_residual-in_err-rest-2.ensures.1
    (right_refuses quotient _ _ _ _ _ c.loop-right.invariant _ c.in-Some.ensures _ _ c.in_err-rest-2.ensures.refused)

pub quotient_level-quotient_slots-requires : goal.quotient_level-quotient_slots-requires
quotient_level-quotient_slots-requires t c = operands _ quotient _ _ _ _ _ c.loop-right.invariant _ c.in-Some.ensures _ _ c.in_ok-rest-2.ensures.worked c.requires

pub quotient_level-loop-right-smaller : goal.quotient_level-loop-right-smaller
quotient_level-loop-right-smaller t c =
    let going = c.loop-right.invariant in
    omega (arith, after_shorter _ _ _ c.in-Some.ensures, right_falls quotient _ _ _ _ _ going _ c.in-Some.ensures _ _ c.in_ok-rest-2.ensures.worked)

pub quotient_level-loop-right-preserved : goal.quotient_level-loop-right-preserved
quotient_level-loop-right-preserved t c = turned _ quotient _ _ _ _ _ c.loop-right.invariant _ c.in-Some.ensures _ _ c.in_ok-rest-2.ensures.worked _ c.in_ok-quotient_slots.ensures.answered

pub quotient_level-returns-in_err-quotient_slots-clause-refused : goal.quotient_level-returns-in_err-quotient_slots-clause-refused
quotient_level-returns-in_err-quotient_slots-clause-refused t c =
    refusal_holds _ _ _ c.from_residual-in_err-quotient_slots.ensures.1
    (call_refused _ quotient _ _ _ _ _ c.loop-right.invariant _ c.in-Some.ensures _ _ c.in_ok-rest-2.ensures.worked _ _ c.in_err-quotient_slots.ensures.refused)

pub quotient_level-returns-clause-worked : goal.quotient_level-returns-clause-worked
quotient_level-returns-clause-worked t c = ends quotient _ _ _ _ _ c.loop-right.invariant c.in_default.ensures

pub atom-or_level-requires : goal.atom-or_level-requires
atom-or_level-requires t c = (omega (arith, after_shorter _ _ _ c.in-Some.ensures), ready_inner _ _ c.requires _ c.in-Some.ensures)

pub atom-returns-in_err-rest-clause-refused : goal.atom-returns-in_err-rest-clause-refused
atom-returns-in_err-rest-clause-refused t c =
    refusal_holds _ _ _ c.from_residual.ensures.1 (inner_refuses _ _ c.requires _ c.in-Some.ensures _ _ c.in_err-rest.ensures.refused)

pub atom-slice_bounds-result-count : goal.atom-slice_bounds-result-count
atom-slice_bounds-result-count t c = one_first _ _ (inner_left _ _ c.requires _ c.in-Some.ensures _ _ _ c.in_ok-rest.ensures.worked)

pub atom-slice_bounds-result-start : goal.atom-slice_bounds-result-start
atom-slice_bounds-result-start t c = one_first _ _ (inner_left _ _ c.requires _ c.in-Some.ensures _ _ _ c.in_ok-rest.ensures.worked)

pub atom-returns-in-Some-clause-worked : goal.atom-returns-in-Some-clause-worked
atom-returns-in-Some-clause-worked t c =
    let inside = c.in_ok-rest.ensures.worked in
    rw (rest_is _ _ (inner_left _ _ c.requires _ c.in-Some.ensures _ _ _ inside)) (inner_worked _ _ c.requires _ c.in-Some.ensures _ _ _ inside)

pub atom-bounds-line-0 : goal.atom-bounds-line-0
atom-bounds-line-0 t c = one_first _ _ (was_letter _ _ c.requires c.in_default.ensures).first

pub atom-load_letter-requires : goal.atom-load_letter-requires
atom-load_letter-requires t c =
    let was = was_letter _ _ c.requires c.in_default.ensures in
    rw (first_is _ _ was.first) (was.low, was.high, named_sent _ _ c.requires c.in_default.ensures, omega (arith, slots_fit atom _ _ c.requires))

pub atom-slice_bounds-result-count-2 : goal.atom-slice_bounds-result-count-2
atom-slice_bounds-result-count-2 t c = one_first _ _ (was_letter _ _ c.requires c.in_default.ensures).first

pub atom-slice_bounds-result-start-2 : goal.atom-slice_bounds-result-start-2
atom-slice_bounds-result-start-2 t c = one_first _ _ (was_letter _ _ c.requires c.in_default.ensures).first

pub atom-returns-clause-worked : goal.atom-returns-clause-worked
atom-returns-clause-worked t c =
    let was = was_letter _ _ c.requires c.in_default.ensures in
    rw (rest_is _ _ was.first) (letter_worked _ _ c.requires c.in_default.ensures on_lists _ _ (rw (first_is _ _ was.first) at c.load_letter.ensures))
