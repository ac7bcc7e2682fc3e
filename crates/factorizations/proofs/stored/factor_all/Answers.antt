use Rattle.std.proofs.Common.{sym, ◌∙◌, arith}
use Rattle.pauli.proofs.joined.JoinLaws.{accepted, accepted_few}
use Rattle.pauli.specs.Roll.{most_paulis}
use Rattle.factorizations.proofs.stored.ResultLaws.{storable, factored_start, asked_now, factored_next, factored_all}
use Rattle.factorizations.proofs.stored.factor_all.Goals as goal

pub loop-k-init : goal.loop-k-init
loop-k-init c = (omega arith, λ g. factored_start g _)

pub overflow_mul-k : goal.overflow_mul-k
unfolding most_paulis
overflow_mul-k c =
    omega (arith, accepted_few _ _ c.args.roll.accepted, c.loop-k-test.true)

pub overflow_add-k : goal.overflow_add-k
unfolding most_paulis
overflow_add-k c =
    omega (arith, accepted_few _ _ c.args.roll.accepted, c.loop-k-test.true)

pub store_result-requires : goal.store_result-requires
unfolding most_paulis asked_now
store_result-requires c =
    let inv = c.loop-k.invariant in
    let factor = c.factor-factoring.ensures in (
      omega (arith, accepted_few _ _ c.args.roll.accepted, c.loop-k-test.true, c.factor-factoring.array_long),
      storable _ _ _ _ (sym (factor.told (asked_now c.requires _ (inv.1 c.requires)))),
    )

pub loop-k-preserved : goal.loop-k-preserved
unfolding asked_now
loop-k-preserved c =
    let inv = c.loop-k.invariant in
    let factor = c.factor-factoring.ensures in
    let stored = c.store_result.ensures in
    let size = (accepted _ _ c.args.roll.accepted).1 in
    let taken = c.loop-k-test.true in (
      omega arith,
      λ g. let f = inv.1 g in factored_next g _ f c.args.group.few.0 (sym factor.rest.size ∙ c.factor-factoring.array_long) (omega (arith, size, taken)) (factor.told (asked_now g _ f)) factor.rest stored,
    )

pub returns : goal.returns
returns c =
    let inv = c.loop-k.invariant in
    λ g. factored_all g _ (inv.1 g) _ (accepted _ _ c.args.roll.accepted).1 inv.0 c.loop-k-test.false
