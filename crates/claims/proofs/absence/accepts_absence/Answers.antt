-- A refusal of the checks is told on; else the witness is put to the generators and to the element.
use Rattle.std.proofs.Common.{sym}
use Rattle.pauli.proofs.refusal.HandedOn.{handed_on}
use Rattle.pauli_group.proofs.checks.RollsLaws.{both, rolls_none}
use Rattle.claims.proofs.absence.AbsenceLaws.{rolls_refused, witnesses_refused, number_refused, number_inside, witness_refused, witness_inside, all_passed, absence_refused, absence_answered}
use Rattle.claims.proofs.absence.accepts_absence.Goals as goal

pub returns-in_err-rolls : goal.returns-in_err-rolls
returns-in_err-rolls c =
    rw (handed_on _ _ c.from_residual.ensures.1)
    (absence_refused _ _ _ _ _ _ (rolls_refused _ _ _ _ _ _ _ (rolls_none _ _ c.in_err-rolls.ensures.counts)))

pub returns-in_err-sent : goal.returns-in_err-sent
returns-in_err-sent c =
    let read = both _ _ _ _ c.in_ok-rolls.ensures.counts in
    rw (handed_on _ _ c.from_residual-in_err-sent.ensures.1)
    (absence_refused _ _ _ _ _ _ (witnesses_refused _ _ _ _ _ read _ _ (sym c.in_err-sent.ensures.count)))

pub returns-in_err-check_number : goal.returns-in_err-check_number
returns-in_err-check_number c =
    let read = both _ _ _ _ c.in_ok-rolls.ensures.counts in
    rw (handed_on _ _ c.from_residual-in_err-check_number.ensures.1)
    (absence_refused _ _ _ _ _ _ (number_refused _ _ _ _ _ read (sym c.in_ok-sent.ensures.count) c.in_err-check_number.ensures))

pub returns-in_err-check_number-2 : goal.returns-in_err-check_number-2
returns-in_err-check_number-2 c =
    let read = both _ _ _ _ c.in_ok-rolls.ensures.counts in
    rw (handed_on _ _ c.from_residual-in_err-check_number-2.ensures.1)
    (absence_refused _ _ _ _ _ _
    (witness_refused _ _ _ _ _ read (sym c.in_ok-sent.ensures.count) c.in_ok-check_number.ensures c.in_err-check_number-2.ensures))

pub refutes-requires : goal.refutes-requires
refutes-requires c =
    let read = both _ _ _ _ c.in_ok-rolls.ensures.counts in
    let sent = sym c.in_ok-sent.ensures.count in (
      number_inside _ _ _ _ c.args.witness read sent c.in_ok-check_number.ensures,
      witness_inside _ _ c.args.number _ _ read sent c.in_ok-check_number.ensures c.in_ok-check_number-2.ensures,
    )

pub returns : goal.returns
returns c =
    let read = both _ _ _ _ c.in_ok-rolls.ensures.counts in
    let checked = all_passed _ _ _ _ _ read (sym c.in_ok-sent.ensures.count) c.in_ok-check_number.ensures c.in_ok-check_number-2.ensures in
    let told = rw (c.in_ok-rolls.ensures.rolls.0, c.in_ok-rolls.ensures.rolls.1, c.in_ok-sent.ensures.bytes) at c.refutes.ensures in
    absence_answered _ _ _ _ _ checked _ told
