use Rattle.std.proofs.Common.{◌≡◌, ◌==◌, ap, ◌∙◌, rules, tests}
use Rattle.pauli.specs.Signed.{held}
use Rattle.pauli.specs.Pauli.{anticommute}
use Rattle.pauli_group.specs.Answers.{yes_number}
use Rattle.pauli_group.proofs.scan.ScanLaws.{with_some_lem, some_tested, yes_number_one}
use Rattle.pauli_group.proofs.scan.anticommutes_with_some.Goals as goal

pub returns : goal.returns
returns c =
    some_tested (with_some_lem (held c.args.p)) _ (λ q qs r h.
    let test : r ≡ (anticommute (held c.args.p) (held q) == 1) = search (rules, tests) in ap yes_number test ∙ yes_number_one _ ((with_some_lem (held c.args.p)).small (held q) qs)) c.args.list.now _ c.some.ensures
