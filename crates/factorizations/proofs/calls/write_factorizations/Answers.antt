-- The elements are put to the group, the records are written, and the area is cleared.
use Rattle.std.proofs.Common.{ap, ◌∙◌, List, arith}
use mathlib.Core.Option.{Option}
use Rattle.pauli.specs.Roll.{most_paulis}
use Rattle.pauli.specs.Told.{answer}
use Rattle.pauli.specs.Writing.{told_bytes, left_in}
use Rattle.pauli.proofs.joined.JoinLaws.{accepted_few}
use Rattle.pauli_theory.specs.Membership.{Factorization}
use Rattle.factorizations.specs.Records.{results_bytes}
use Rattle.factorizations.proofs.calls.write_factorizations.Goals as goal

pub results-requires : goal.results-requires
unfolding most_paulis
results-requires c = omega (arith, accepted_few _ _ c.args.rolls.elements.accepted)

pub write_records-wrote-requires : goal.write_records-wrote-requires
unfolding most_paulis
write_records-wrote-requires c = omega (arith, accepted_few _ _ c.args.rolls.elements.accepted, c.results.ensures.count)

pub returns : goal.returns
returns c =
    let wrote = c.write_records-wrote.ensures in
    let results = c.results.ensures.list ∙ c.factor_rolls.ensures.results in
    let out = c.args.out.now in record {
      told = wrote.told ∙ ap (λ (os : List (Option Factorization)). told_bytes (answer (results_bytes os)) out) results;
      left = wrote.left ∙ ap (λ (os : List (Option Factorization)). left_in (answer (results_bytes os)) out) results;
      area = c.clear.ensures _ c.told-w;
    }
