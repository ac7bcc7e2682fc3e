use Rattle.std.proofs.Common.{◌≡◌, ◌==◌, ◌&&◌, ◌%◌, ap, ◌∙◌, rules, tests}
use Rattle.pauli.specs.Signed.{held}
use Rattle.pauli.specs.Pauli.{pauli_weight}
use Rattle.pauli_group.specs.Answers.{yes_number}
use Rattle.pauli_group.proofs.scan.ScanLaws.{search_minus, some_tested, minus_tested}
use Rattle.pauli_group.proofs.scan.some_minus.Goals as goal

pub returns : goal.returns
unfolding held
returns c =
    some_tested search_minus _ (λ p qs r h.
    let test : r ≡ ((pauli_weight (held p) == 0) && ((held p).e % 4 == 2)) = search (rules, tests) in ap yes_number test ∙ minus_tested (held p)) c.args.list.now _ c.some.ensures
