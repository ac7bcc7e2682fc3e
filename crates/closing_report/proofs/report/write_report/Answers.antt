-- The elements are put to the group, and the text is written.
use Rattle.std.proofs.Common.{ap, ◌∙◌, List, ℕ, arith}
use Rattle.pauli.specs.Roll.{most_paulis}
use Rattle.pauli.specs.Told.{answer}
use Rattle.pauli.specs.Writing.{told_bytes, left_in}
use Rattle.pauli.proofs.joined.JoinLaws.{accepted_few}
use Rattle.pauli_group.proofs.group.GroupLaws.{facts_told}
use Rattle.closing_report.proofs.report.CallLaws.{report_text}
use Rattle.closing_report.proofs.report.write_report.Goals as goal

pub results-requires : goal.results-requires
unfolding most_paulis
results-requires c = omega (arith, accepted_few _ _ c.args.rolls.elements.accepted)

pub write_listing-requires : goal.write_listing-requires
unfolding most_paulis
write_listing-requires c = omega (arith, accepted_few _ _ c.args.rolls.elements.accepted, c.results.ensures.count)

pub returns : goal.returns
returns c =
    let factored = c.factor_rolls-group.ensures in
    let wrote = c.write_listing.ensures in
    let group = facts_told _ _ _ factored.told in
    let text = report_text _ _ _ _ _ _ group.rank_is group.step_is group.clash_is (c.results.ensures.list ∙ factored.results) in
    let out = c.args.out.now in
    record {
      told = wrote.told ∙ ap (λ (t : List ℕ). told_bytes (answer t) out) text;
      left = wrote.left ∙ ap (λ (t : List ℕ). left_in (answer t) out) text;
    }
