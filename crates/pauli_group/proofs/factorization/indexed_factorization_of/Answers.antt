-- The refusal of the checks is told on; else the element is factored, and the indexes are written if there is room.
use Rattle.pauli_group.proofs.factorization.QuestionLaws.{call_refused, call_none, call_short, call_found}
use Rattle.pauli_group.proofs.checks.Question.{asking, question_none}
use Rattle.pauli_group.specs.Inner.Members.{factoring_told}
use Rattle.std.proofs.Common.{sym, ap, ◌∙◌, arith}
use Rattle.pauli.proofs.refusal.HandedOn.{handed_on}
use Rattle.pauli_group.proofs.factorization.indexed_factorization_of.Goals as goal

pub returns-in_err-rolls : goal.returns-in_err-rolls
returns-in_err-rolls c =
    rw (handed_on _ _ c.from_residual.ensures.1)
    (call_refused _ _ _ _ _ _ _ (question_none _ _ _ _ _ _ (sym c.in_err-rolls.ensures.counts)))

pub factor_once-factoring-requires : goal.factor_once-factoring-requires
factor_once-factoring-requires c = (asking _ _ _ _ _ _ c.in_ok-rolls.ensures.counts).inside

pub returns-in-None : goal.returns-in-None
returns-in-None c =
    let asked = asking _ _ _ _ _ _ c.in_ok-rolls.ensures.counts in
    let factor = rw (c.in_ok-rolls.ensures.rolls.0, c.in_ok-rolls.ensures.rolls.1, c.area_of.ensures.value) at c.factor_once-factoring.ensures in
    call_none _ _ _ _ _ _ asked _ factor.area (sym (ap factoring_told c.in-None.is) ∙ factor.told)

pub returns-then-out-count : goal.returns-then-out-count
returns-then-out-count c =
    let asked = asking _ _ _ _ _ _ c.in_ok-rolls.ensures.counts in
    let factor = rw (c.in_ok-rolls.ensures.rolls.0, c.in_ok-rolls.ensures.rolls.1, c.area_of.ensures.value) at c.factor_once-factoring.ensures in
    let found = sym (ap factoring_told c.in-Some.is) ∙ factor.told in
    rw c.into.ensures (call_short _ _ _ _ _ _ asked _ factor.area _ found (omega (arith, c.weight-count.ensures.0, c.if-out-count.true)))

pub returns : goal.returns
returns c =
    let asked = asking _ _ _ _ _ _ c.in_ok-rolls.ensures.counts in
    let factor = rw (c.in_ok-rolls.ensures.rolls.0, c.in_ok-rolls.ensures.rolls.1, c.area_of.ensures.value) at c.factor_once-factoring.ensures in
    let found = sym (ap factoring_told c.in-Some.is) ∙ factor.told in
    call_found _ _ _ _ _ _ asked _ factor.area _ found _ c.weight-count.ensures.0
    c.if-out-count.false _ c.put_indexes.ensures
