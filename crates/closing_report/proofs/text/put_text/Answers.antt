-- The bytes of the text are copied.
use Rattle.std.proofs.Common.{refl}
use Rattle.closing_report.proofs.text.put_text.Goals as goal

pub returns : goal.returns
returns c = record { bytes = c.put_slice.ensures; past = refl }
