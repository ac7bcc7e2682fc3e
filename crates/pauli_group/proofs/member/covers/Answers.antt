use Rattle.pauli.proofs.roll.BytesLaws.{u32_bytes}
use Rattle.std.proofs.lemmas.Bool.{eqb-true, eqb-false, not-true, not-false}
use Rattle.std.proofs.Common.{sym, ◌∙◌, arith}
use Rattle.pauli_group.proofs.member.MemberLaws.{covered_start, covered_end, covered_none, covered_next}
use Rattle.pauli_group.proofs.member.covers.Goals as goal

pub loop-bytes-init : goal.loop-bytes-init
loop-bytes-init c = covered_start _ _

pub returns-then-i-support : goal.returns-then-i-support
returns-then-i-support c =
    covered_none _ _ _ _ _ c.loop-bytes.invariant c.loop-bytes-test.true _ (u32_bytes _ _ (omega arith) c.from_le_bytes.ensures) _ c.place_from-place.ensures
    c.requires (λ l e. omega (arith, c.if-i-support.true))

pub returns-then-ne : goal.returns-then-ne
returns-then-ne c =
    covered_none _ _ _ _ _ c.loop-bytes.invariant c.loop-bytes-test.true _ (u32_bytes _ _ (omega arith) c.from_le_bytes.ensures) _ c.place_from-place.ensures
    c.requires (λ l e. eqb-false _ _ (not-true _ (sym c.ne.ensures ∙ c.if-ne.true)) (c.qubit_at-met.ensures ∙ e))

pub loop-bytes-preserved : goal.loop-bytes-preserved
loop-bytes-preserved c =
    covered_next _ _ _ _ _ c.loop-bytes.invariant c.loop-bytes-test.true _ (u32_bytes _ _ (omega arith) c.from_le_bytes.ensures) _ c.place_from-place.ensures
    (omega (arith, c.if-i-support.false)) (sym c.qubit_at-met.ensures ∙ eqb-true _ _ (not-false _ (sym c.ne.ensures ∙ c.if-ne.false)))

pub returns : goal.returns
returns c = covered_end _ _ _ _ _ c.loop-bytes.invariant c.loop-bytes-test.false
