-- A refusal of the checks is told on; else the claim is looked at.
use Rattle.std.proofs.Common.{rules, sym}
use Rattle.pauli.proofs.refusal.HandedOn.{handed_on}
use Rattle.pauli_group.proofs.checks.RollsLaws.{both, rolls_none}
use Rattle.pauli_group.proofs.group.GroupedLaws.{list_length}
use Rattle.pauli_group.proofs.source.SourceLaws.{roll_counted}
use Rattle.claims.proofs.membership.CallLaws.{rolls_refused, number_refused, number_inside, form_refused, area_refused, all_passed, indexes_low, claim_refused, claim_answered}
use Rattle.claims.proofs.membership.accepts_membership.Goals as goal

pub returns-in_err-rolls : goal.returns-in_err-rolls
returns-in_err-rolls c =
    rw (handed_on _ _ c.from_residual.ensures.1)
    (claim_refused _ _ _ _ _ _ _ (indexes_low _ (search rules)) _ (rolls_refused _ _ _ _ _ _ _ (rolls_none _ _ c.in_err-rolls.ensures.counts)))

pub returns-in_err-check_number : goal.returns-in_err-check_number
returns-in_err-check_number c =
    let read = both _ _ _ _ c.in_ok-rolls.ensures.counts in
    rw (handed_on _ _ c.from_residual-in_err-check_number.ensures.1)
    (claim_refused _ _ _ _ _ _ _ (indexes_low _ (search rules)) _ (number_refused _ _ _ _ _ read c.in_err-check_number.ensures))

pub returns-in_err-check_form : goal.returns-in_err-check_form
returns-in_err-check_form c =
    let read = both _ _ _ _ c.in_ok-rolls.ensures.counts in
    let size = sym (list_length _ _ (roll_counted _ _ read.generators)) in
    rw (handed_on _ _ c.from_residual-in_err-check_form.ensures.1)
    (claim_refused _ _ _ _ _ _ _ (indexes_low _ (search rules)) _
    (form_refused _ _ _ _ _ read c.in_ok-check_number.ensures (c.in_err-check_form.ensures.told _ size)))

pub returns-in_err-check_area : goal.returns-in_err-check_area
returns-in_err-check_area c =
    let read = both _ _ _ _ c.in_ok-rolls.ensures.counts in
    let size = sym (list_length _ _ (roll_counted _ _ read.generators)) in
    rw (handed_on _ _ c.from_residual-in_err-check_area.ensures.1)
    (claim_refused _ _ _ _ _ _ _ (indexes_low _ (search rules)) _
    (area_refused _ _ _ _ _ read c.in_ok-check_number.ensures (c.in_ok-check_form.ensures.told _ size) c.in_err-check_area.ensures.told))

pub holds-requires : goal.holds-requires
holds-requires c =
    (number_inside _ _ _ (record { indexes = c.args.indexes.now; exponent = c.args.exponent }) 0 (both _ _ _ _ c.in_ok-rolls.ensures.counts) c.in_ok-check_number.ensures, c.in_ok-check_form.ensures.below.0, c.in_ok-check_form.ensures.below.1)

pub returns : goal.returns
returns c =
    let read = both _ _ _ _ c.in_ok-rolls.ensures.counts in
    let size = sym (list_length _ _ (roll_counted _ _ read.generators)) in
    let room = c.in_ok-check_area.ensures.room in
    let checked = all_passed _ _ _ _ _ read c.in_ok-check_number.ensures (c.in_ok-check_form.ensures.told _ size) room in
    let held = rw (c.in_ok-rolls.ensures.rolls.0, c.in_ok-rolls.ensures.rolls.1, c.area_of.ensures.value) at c.holds.ensures in
    claim_answered _ _ _ _ _ _ _ (indexes_low _ (search rules)) checked room _ held.told _ held.area
