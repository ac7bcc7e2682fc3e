-- The length is known before the first byte is put.
use native.Mathlib.Omega.{arith}
use Rattle.factorizations.proofs.records.PutLaws.{text_short, text_long}
use Rattle.std.proofs.Common.{ap, ◌∙◌}
use Rattle.pauli.specs.Refusals.{told_refusal}
use Rattle.closing_report.proofs.listing.write_refused.Goals as goal

pub returns-then-out-line : goal.returns-then-out-line
returns-then-out-line c = let all = text_short _ _ _ c.refused_line_length-line.ensures.0 c.if-out-line.true in record { told = ap told_refusal c.into.ensures ∙ all.0; left = all.1 }

pub returns : goal.returns
returns c = let all = text_long _ _ _ c.refused_line_length-line.ensures.0 (omega arith) c.put_refused_line.ensures in record { told = all.0; left = all.1 }
