-- The length is known before the first byte is put.
use Rattle.std.proofs.Common.{ap, ◌∙◌, arith}
use Rattle.pauli.specs.Refusals.{told_refusal}
use Rattle.factorizations.proofs.records.PutLaws.{text_short, text_long}
use Rattle.factorizations.proofs.records.write_records.Goals as goal

pub returns-then-out-size : goal.returns-then-out-size
returns-then-out-size c = let all = text_short _ _ _ c.records_length-size.ensures.0 c.if-out-size.true in record { told = ap told_refusal c.into.ensures ∙ all.0; left = all.1 }

pub returns : goal.returns
returns c = let all = text_long _ _ _ c.records_length-size.ensures.0 (omega (arith, c.if-out-size.false)) c.put_records.ensures in record { told = all.0; left = all.1 }
