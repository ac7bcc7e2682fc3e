use Rattle.std.proofs.Common.{◌≡◌, not, ◌==◌, ap, ◌∙◌, rules, tests}
use Rattle.pauli.specs.Signed.{held}
use Rattle.pauli.specs.Pauli.{order_four}
use Rattle.pauli_group.specs.Answers.{yes_number}
use Rattle.pauli_group.proofs.scan.ScanLaws.{order_four_lem, some_tested, yes_number_more}
use Rattle.pauli_group.proofs.scan.some_order_four.Goals as goal

pub returns : goal.returns
returns c =
    some_tested order_four_lem _ (λ p qs r h.
    let test : r ≡ not (order_four (held p) == 0) = search (rules, tests) in ap yes_number test ∙ yes_number_more _ (order_four_lem.small (held p) qs)) c.args.list.now _ c.some.ensures
