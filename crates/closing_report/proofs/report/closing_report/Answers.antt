-- The work area is looked at, and then the text is written.
use Rattle.pauli.proofs.refusal.HandedOn.{handed_on}
use Rattle.closing_report.proofs.report.CallLaws.{work_refused, call_short, call_done}
use Rattle.closing_report.proofs.report.closing_report.Goals as goal

pub returns-in_err-check_area : goal.returns-in_err-check_area
returns-in_err-check_area c = rw (handed_on _ _ c.from_residual.ensures.1) (call_short _ _ _ _ (work_refused _ _ c.in_err-check_area.ensures.told))

pub returns : goal.returns
returns c =
    let wrote = rw c.area_of.ensures.value at c.write_and_clear.ensures in
    call_done _ _ _ c.in_ok-check_area.ensures.room wrote.told wrote.left wrote.area
