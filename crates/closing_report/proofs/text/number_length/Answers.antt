use mathlib.Core.Path.{◌∙◌, ap}
use native.Mathlib.Omega.{arith}
use lib.ListN.{length}
use Rattle.closing_report.proofs.text.DecimalLaws.{digits_decimal}
use Rattle.closing_report.proofs.text.number_length.Goals as goal

pub returns : goal.returns
returns c = (ap length (c.format.ensures.text ∙ digits_decimal c.args.n (omega arith)), c.format.ensures.fits)
