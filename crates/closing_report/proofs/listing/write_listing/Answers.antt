-- The length is known before the first byte is put.
use mathlib.Core.List.{[], ◌∷◌}
use native.Mathlib.Omega.{arith}
use Rattle.pauli_group.specs.Inner.Lists.{step_told}
use Rattle.pauli_group.specs.Answers.{yes_number}
use Rattle.closing_report.specs.Lines.{first_line, member_lines}
use Rattle.factorizations.specs.Stored.{results_in}
use Rattle.factorizations.proofs.records.PutLaws.{joined, begun, next_put, length_both, text_short, text_long}
use Rattle.std.proofs.Common.{ap, ◌∙◌}
use Rattle.pauli.specs.Refusals.{told_refusal}
use Rattle.closing_report.proofs.listing.write_listing.Goals as goal

pub returns-then-out-size : goal.returns-then-out-size
returns-then-out-size c =
    let s = c.args in
    let text = first_line s.group.rank (step_told s.group.signs.phases) (yes_number s.group.signs.clash) in
    let size = length_both text (member_lines 0 (results_in s.results.now)) c.first_line_length.ensures.0 c.lines_length.ensures.0 in let all = text_short _ _ _ size c.if-out-size.true in record { told = ap told_refusal c.into.ensures ∙ all.0; left = all.1 }

pub returns : goal.returns
unfolding joined
returns c =
    let s = c.args in
    let text = first_line s.group.rank (step_told s.group.signs.phases) (yes_number s.group.signs.clash) in
    let more = member_lines 0 (results_in s.results.now) in
    let size = length_both text more c.first_line_length.ensures.0 c.lines_length.ensures.0 in let all = text_long _ _ _ size (omega arith)
    (next_put (begun (more ∷ []) (omega arith) c.put_first_line-next.ensures) c.put_lines.ensures).put in record { told = all.0; left = all.1 }
