-- A refusal would be against the bound on the text.
use Rattle.std.proofs.Common.{arith}
use Rattle.report.proofs.TextLaws.{text_told}
use Rattle.report.proofs.text_of.Goals as goal

pub returns : goal.returns
returns c =
    let put = text_told _ _ _ _ _ _ c.closing_report.ensures (omega arith) (omega arith) _ c.unwrap_or.ensures in
    record { text = put.0; room = put.1 }
