-- The text is written, and the area is cleared.
use Rattle.closing_report.proofs.report.write_and_clear.Goals as goal

pub returns : goal.returns
returns c =
    let wrote = c.write_text-wrote.ensures in record { told = wrote.told; left = wrote.left; area = c.clear.ensures _ c.told-w }
