-- The refusal of the checks is told on; else the results are written, and told with their count.
use Rattle.factorizations.proofs.calls.CallLaws.{asking, questions_none, call_refused, call_short, call_done}
use Rattle.pauli.proofs.refusal.HandedOn.{handed_on}
use Rattle.factorizations.proofs.calls.indexed_factorizations_of.Goals as goal

pub returns-in_err-rolls : goal.returns-in_err-rolls
returns-in_err-rolls c =
    rw (handed_on _ _ c.from_residual.ensures.1)
    (call_refused _ _ _ _ _ _ (questions_none _ _ _ c.in_err-rolls.ensures.counts))

pub area_of-requires : goal.area_of-requires
area_of-requires c = (asking _ _ _ _ c.in_ok-rolls.ensures.counts).room

pub returns-in_err-bytes : goal.returns-in_err-bytes
returns-in_err-bytes c =
    let asked = asking _ _ _ _ c.in_ok-rolls.ensures.counts in
    let wrote = rw (c.in_ok-rolls.ensures.rolls.0, c.in_ok-rolls.ensures.rolls.1, c.area_of.ensures.value) at c.write_factorizations.ensures in
    rw (handed_on _ _ c.from_residual-in_err-bytes.ensures.1)
    (call_short _ _ _ _ _ asked _ wrote.told wrote.left wrote.area _ c.in_err-bytes.was)

pub returns : goal.returns
returns c =
    let asked = asking _ _ _ _ c.in_ok-rolls.ensures.counts in
    let wrote = rw (c.in_ok-rolls.ensures.rolls.0, c.in_ok-rolls.ensures.rolls.1, c.area_of.ensures.value) at c.write_factorizations.ensures in
    call_done _ _ _ _ _ asked _ wrote.told wrote.left wrote.area _ c.in_ok-bytes.was
