-- By the words, or on one place by the table.
use Rattle.std.proofs.Common.{ℕ, ◌/◌, ◌%◌, not, ◌==◌, ap, ◌∙◌, ap₂, arith}
use Rattle.binar.specs.Row.{if_bit}
use Rattle.pauli.specs.Signed.{held}
use Rattle.pauli.specs.OneQubit.{product_number}
use Rattle.pauli.proofs.signed.SignedLaws.{times_value}
use Rattle.pauli.proofs.one_qubit.OnePlace.{few_places, left_small, right_small, product_one, differ_one}
use Rattle.pauli.proofs.one_qubit.multiply.Goals as goal

pub returns-then-weight-gt1-clause-pauli : goal.returns-then-weight-gt1-clause-pauli
returns-then-weight-gt1-clause-pauli c = times_value (held c.args.p) (held c.args.q) c.times.ensures.pauli

pub entry-n-requires : goal.entry-n-requires
unfolding held
entry-n-requires c =
    let p = held c.args.p in
    let q = held c.args.q in
    let few = few_places p q _ _ c.places_of_both-place.ensures c.weight.ensures.0 (omega (arith, c.if-weight-gt1.false)) in
    (rw c.number-a.ensures (left_small p q few), rw c.number-b.ensures (right_small p q few))

pub entry-requires : goal.entry-requires
unfolding held
entry-requires c =
    let p = held c.args.p in
    let q = held c.args.q in
    let few = few_places p q _ _ c.places_of_both-place.ensures c.weight.ensures.0 (omega (arith, c.if-weight-gt1.false)) in
    (rw c.number-b.ensures (right_small p q few), rw c.number-a.ensures (left_small p q few))

pub returns-clause-pauli : goal.returns-clause-pauli
unfolding held
returns-clause-pauli c =
    let p = held c.args.p in
    let q = held c.args.q in
    let n = c.entry-n.result in
    let place = c.places_of_both-place.ensures in
    let few = few_places p q _ _ place c.weight.ensures.0 (omega (arith, c.if-weight-gt1.false)) in
    product_one p q few n (held c.numbered.result) (c.entry-n.ensures ∙ ap₂ product_number c.number-a.ensures c.number-b.ensures)
    c.numbered.ensures.e (c.numbered.ensures.x ∙ ap (λ (s : ℕ). if_bit (n / 8 % 2) s 0) place) (c.numbered.ensures.z ∙ ap (λ (s : ℕ). if_bit (n / 4 % 2) s 0) place)

pub returns-clause-anticommute : goal.returns-clause-anticommute
unfolding held
returns-clause-anticommute c =
    let p = held c.args.p in
    let q = held c.args.q in
    let few = few_places p q _ _ c.places_of_both-place.ensures c.weight.ensures.0 (omega (arith, c.if-weight-gt1.false)) in
    ap₂ (λ (m n : ℕ). not (m == n)) (c.entry-n.ensures ∙ ap₂ product_number c.number-a.ensures c.number-b.ensures)
    (c.entry.ensures ∙ ap₂ product_number c.number-b.ensures c.number-a.ensures)
    ∙ differ_one p q few
