-- The element over the places of the support is solved for by the form; the exponent left is held to the phases.
use Rattle.pauli.specs.Pauli.{indexed_product}
use Rattle.pauli.proofs.signed.SignedLaws.{indexed_value}
use Rattle.pauli_group.proofs.area.AreaLaws.{form_room, span_list}
use Rattle.pauli_group.proofs.member.FactorLaws.{covered_readable, places_known, known_rises, asked_solvable, asked_on}
use Rattle.pauli_group.proofs.member.FactorLaws.{factored_off, factored_none, factored_found, factored_phase}
use Rattle.pauli_group.proofs.list.ListLaws.{list_kept_after}
use Rattle.pauli_group.specs.Inner.Area.{list_at}
use Rattle.std.proofs.Common.{sym, ap, ◌∙◌, arith}
use Rattle.pauli_group.proofs.member.factor.Goals as goal

pub is_supported-requires : goal.is_supported-requires
is_supported-requires c =
    (c.requires.0, known_rises c.requires.1.grouped)

pub returns-then-not-is_supported-clause-told : goal.returns-then-not-is_supported-clause-told
returns-then-not-is_supported-clause-told c = λ g. factored_off g _ (sym c.is_supported.ensures ∙ c.if-not-is_supported.true)

pub condense_from-p-requires : goal.condense_from-p-requires
condense_from-p-requires c =
    let group = c.requires.1.grouped in
    let inside = sym c.is_supported.ensures ∙ c.if-not-is_supported.false in
    (covered_readable _ _ c.args.roll.accepted _ c.requires.0 _ (known_rises group) inside, rw (← places_known group) c.args.group.few.1)

pub solve-requires : goal.solve-requires
solve-requires c =
    let inside = sym c.is_supported.ensures ∙ c.if-not-is_supported.false in
    let on = asked_on c.requires.1 _ inside _ c.condense_from-p.ensures in
    (on.0, on.1, asked_solvable c.requires.1 c.args.group.few.0 c.args.group.few.1 c.told-w)

pub returns-in_err-set-clause-told : goal.returns-in_err-set-clause-told
returns-in_err-set-clause-told c =
    let inside = sym c.is_supported.ensures ∙ c.if-not-is_supported.false in
    λ g. rw c.from_residual.ensures (factored_none g _ inside _ c.condense_from-p.ensures c.in_err-set.ensures.told)

pub returns-then-left-step-ne0-clause-told : goal.returns-then-left-step-ne0-clause-told
returns-then-left-step-ne0-clause-told c =
    let inside = sym c.is_supported.ensures ∙ c.if-not-is_supported.false in
    let solved = c.in_ok-set.ensures in
    let kept = list_kept_after solved.rest list_at c.args.group.count (omega (arith, (form_room _ c.args.group.few.0).1)) in
    let list = span_list _ c.paulis.ensures.list c.generators.ensures in
    let over = rw c.step.ensures.0 at c.if-left-step-ne0.true in
    λ g. factored_phase g _ inside _ c.condense_from-p.ensures _ solved.told
    _ (indexed_value _ _ c.indexed_product-product.ensures ∙ ap (indexed_product _) (list ∙ kept))
    _ (omega arith) over

pub returns-clause-told : goal.returns-clause-told
returns-clause-told c =
    let inside = sym c.is_supported.ensures ∙ c.if-not-is_supported.false in
    let solved = c.in_ok-set.ensures in
    let kept = list_kept_after solved.rest list_at c.args.group.count (omega (arith, (form_room _ c.args.group.few.0).1)) in
    let list = span_list _ c.paulis.ensures.list c.generators.ensures in
    let whole = rw c.step.ensures.0 at c.if-left-step-ne0.false in
    λ g. factored_found g _ inside _ c.condense_from-p.ensures _ solved.told
    _ (indexed_value _ _ c.indexed_product-product.ensures ∙ ap (indexed_product _) (list ∙ kept))
    _ (omega arith) whole
