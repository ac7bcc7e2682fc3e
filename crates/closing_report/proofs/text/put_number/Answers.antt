use mathlib.Core.Path.{◌∙◌}
use native.Mathlib.Omega.{arith}
use Rattle.closing_report.proofs.text.DecimalLaws.{digits_decimal}
use Rattle.closing_report.proofs.text.put_number.Goals as goal

pub put_text-requires : goal.put_text-requires
put_text-requires c = rw (c.as_bytes.ensures.value ∙ c.format.ensures.text ∙ digits_decimal c.args.n (omega arith)) c.requires

pub returns : goal.returns
returns c = rw (c.as_bytes.ensures.value ∙ c.format.ensures.text ∙ digits_decimal c.args.n (omega arith)) at c.put_text.ensures
