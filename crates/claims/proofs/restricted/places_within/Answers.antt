-- A number that stands at its place in the support is put in; another is not in the support.
use Rattle.std.proofs.Common.{sym, ◌∙◌, arith}
use Rattle.std.proofs.lemmas.Bool.{eqb-true, eqb-false}
use Rattle.pauli.proofs.roll.BytesLaws.{u32_bytes}
use Rattle.claims.proofs.restricted.WithinLaws.{within_start, within_end, within_from, within_found, within_other}
use Rattle.claims.proofs.restricted.places_within.Goals as goal
use Rattle.claims.proofs.restricted.places_within.Goals.{then-place-support+then-eq, then-place-support+else-eq, else-place-support}

pub loop-bytes-init : goal.loop-bytes-init
loop-bytes-init c = within_start _ c.requires.2 _ c.requires.1 _ c.none-set.ensures

pub place_from-place-requires : goal.place_from-place-requires
place_from-place-requires c =
    (within_from _ c.requires.2 _ _ _ _ _ c.loop-bytes.invariant c.loop-bytes-test.true _ (u32_bytes _ _ (omega arith) c.from_le_bytes.ensures), c.requires.2)

pub loop-bytes-preserved : goal.loop-bytes-preserved
loop-bytes-preserved c =
    let number = u32_bytes _ _ (omega arith) c.from_le_bytes.ensures in
    elim c.if-place-support.branch [
      | then-place-support+then-eq w ↦
          rw (w.set-is, w.from-is) (within_found _ c.requires.2 _ _ _ _ _ c.loop-bytes.invariant c.loop-bytes-test.true _ number _ c.place_from-place.ensures
          w.if-place-support.true (sym w.qubit_at.ensures ∙ eqb-true _ _ (sym w.eq.ensures ∙ w.if-eq.true)) _ w.with_place-set.ensures)
      | then-place-support+else-eq w ↦
          rw (w.set-is, w.from-is) (within_other _ c.requires.2 _ _ _ _ _ c.loop-bytes.invariant c.loop-bytes-test.true _ number _ c.place_from-place.ensures
          (λ l e. eqb-false _ _ (sym w.eq.ensures ∙ w.if-eq.false) (w.qubit_at.ensures ∙ e)))
      | else-place-support w ↦
          rw (w.set-is, w.from-is) (within_other _ c.requires.2 _ _ _ _ _ c.loop-bytes.invariant c.loop-bytes-test.true _ number _ c.place_from-place.ensures
          (λ l e. omega (arith, w.if-place-support.false)))
    ]

pub returns : goal.returns
returns c = within_end _ c.requires.2 _ _ _ _ _ c.loop-bytes.invariant c.loop-bytes-test.false
