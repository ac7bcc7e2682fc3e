use Rattle.std.proofs.Common.{◌≡◌, refl, sym, ap, ◌∙◌, eqb-true}
use borrow.Author.Tests.{eqb-false}
use Rattle.binar.specs.Row.{bit}
use Rattle.pauli.specs.Signed.{held}
use Rattle.pauli.specs.PlaceSet.{set_in}
use Rattle.pauli_group.proofs.modulo.RemainderLaws.{one_at, one_x, one_z, multiplied_hit, multiplied_miss}
use Rattle.pauli_group.proofs.modulo.multiplied.Goals as goal
use Rattle.pauli_group.proofs.modulo.multiplied.Goals.{then-is_x, else-is_x}

pub returns-then-contains : goal.returns-then-contains
unfolding held
returns-then-contains c = let g = held c.args.p in
    let one : bit (set_in c.if-is_x.set) c.args.place.0 ≡ one_at c.args.is_x c.args.place.0 g =
    elim c.if-is_x.branch [
      | then-is_x w ↦ one_x c.args.is_x _ g _ _ w.if-is_x.true (ap set_in w.set-is) refl
      | else-is_x w ↦ one_z c.args.is_x _ g _ _ w.if-is_x.false (ap set_in w.set-is) refl
    ] in
    multiplied_hit _ _ _ g _ one (eqb-true _ 1 (sym c.contains.ensures ∙ c.if-contains.true)) _ c.times.ensures.pauli

pub returns : goal.returns
unfolding held
returns c = let g = held c.args.p in
    let one : bit (set_in c.if-is_x.set) c.args.place.0 ≡ one_at c.args.is_x c.args.place.0 g =
    elim c.if-is_x.branch [
      | then-is_x w ↦ one_x c.args.is_x _ g _ _ w.if-is_x.true (ap set_in w.set-is) refl
      | else-is_x w ↦ one_z c.args.is_x _ g _ _ w.if-is_x.false (ap set_in w.set-is) refl
    ] in
    multiplied_miss _ _ _ g _ one (eqb-false _ 1 (sym c.contains.ensures ∙ c.if-contains.false))
