use Rattle.std.proofs.Common.{List, ℕ, sym, ap, ◌∙◌}
use Rattle.std.proofs.lemmas.List.{nil_from_length}
use Rattle.pauli.specs.Signed.{paulis_in}
use Rattle.pauli.proofs.signed.SignedLaws.{stored_value}
use Rattle.pauli_theory.specs.Standard.{some_anticommute}
use Rattle.pauli_group.proofs.scan.ScanLaws.{two_anticommute, found_first, past_first}
use Rattle.pauli_group.proofs.scan.some_anticommute.Goals as goal

pub returns-then-anticommutes_with_some : goal.returns-then-anticommutes_with_some
unfolding paulis_in
returns-then-anticommutes_with_some c =
    found_first two_anticommute c.from_words.result _ _ (stored_value _ c.from_words.ensures) c.if-anticommutes_with_some.ensures
    ∙ sym (c.loop-words.invariant ∙ ap (λ (ls : List (List ℕ)). some_anticommute (paulis_in ls)) c.in-Some.ensures.cases.0)

pub loop-words-preserved : goal.loop-words-preserved
unfolding paulis_in
loop-words-preserved c =
    c.loop-words.invariant ∙ ap (λ (ls : List (List ℕ)). some_anticommute (paulis_in ls)) c.in-Some.ensures.cases.0
    ∙ past_first two_anticommute c.from_words.result _ _ (stored_value _ c.from_words.ensures) c.if-anticommutes_with_some.ensures

pub returns : goal.returns
unfolding paulis_in
returns c = sym (c.loop-words.invariant ∙ ap (λ (ls : List (List ℕ)). some_anticommute (paulis_in ls)) (nil_from_length _ c.in_default.ensures.cases) ∙ two_anticommute.none)
