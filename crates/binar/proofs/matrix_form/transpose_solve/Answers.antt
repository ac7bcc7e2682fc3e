use Prim.Native.Nat.{ℕ, ◌+◌}
use Rattle.binar.proofs.matrix_form.Sweep.{swept_from, from_start, from_end, pivot_inside, target_bit, skip, added_row, added_from, ends, start_row}
use Rattle.binar.specs.Words.{row_at, put_row}
use mathlib.Core.List.{List}
use mathlib.Core.Path.{refl, sym, ap, ◌∙◌}
use native.Mathlib.Omega.{arith}
use Rattle.binar.proofs.row.Slice.{AreWords}
use Rattle.binar.proofs.matrix_form.transpose_solve.Goals as goal
use Rattle.binar.proofs.matrix_form.transpose_solve.Goals.{then-index-eq1, else-index-eq1}

pub loop-k-init : goal.loop-k-init
loop-k-init c =
    let known : AreWords c.args.w.now = λ q. (c.type_inv.w q).fits in
    (known, refl, start_row _ _ _ _ _ _ known c.requires, from_start _ _ _ _ _ _ known c.requires)

pub index-requires : goal.index-requires
index-requires c = omega (arith, c.requires.wide, c.requires.target, c.loop-k.invariant.1, pivot_inside _ _ _ _ _ _ c.loop-k.invariant.0 c.requires _ c.loop-k-test.true _ c.loop-k.invariant.1 c.loop-k.invariant.2)

pub loop-k-preserved : goal.loop-k-preserved
loop-k-preserved c =
    let known = c.loop-k.invariant.0 in
    let l = c.loop-k in
    let inside = c.loop-k-test.true in
    let target = c.index.ensures ∙ target_bit _ _ _ _ _ _ known c.requires _ inside _ l.invariant.1 l.invariant.2 in
    elim c.if-index-eq1.branch [
      | then-index-eq1 w ↦ (
        known,
        c.if-index-eq1.auto.w ∙ l.invariant.1,
        added_row _ _ _ _ _ _ known c.requires _ inside _ l.invariant.1 l.invariant.2 _ (w.w-is ∙ w.bitxor_assign.ensures),
        l.invariant.3 ∙ added_from _ _ _ _ _ _ known c.requires _ inside _ l.invariant.1 l.invariant.2 _ (w.w-is ∙ w.bitxor_assign.ensures) (sym target ∙ w.if-index-eq1.true),
      )
      | else-index-eq1 w ↦ (
        known,
        c.if-index-eq1.auto.w ∙ l.invariant.1,
        w.w-is ∙ l.invariant.2 ∙ ap (λ (x : List ℕ). put_row c.args.w.now c.args.at c.args.shape.stride (row_at x c.args.at c.args.shape.stride)) (sym w.w-is),
        l.invariant.3 ∙ (skip _ _ _ _ _ _ known c.requires _ inside _ l.invariant.1 l.invariant.2 (λ e. w.if-index-eq1.false (target ∙ e)) ∙ ap (λ (x : List ℕ). swept_from c.args.w.now c.args.shape.stride c.args.shape.rows c.args.rank (l.k + 1) (row_at x c.args.at c.args.shape.stride)) (sym w.w-is)),
      )
    ]

pub returns : goal.returns
returns c = ends _ _ _ _ _ _ c.loop-k.invariant.0 c.requires _ _ c.loop-k.invariant.1 c.loop-k.invariant.2 (c.loop-k.invariant.3 ∙ from_end _ _ _ _ _ _ c.loop-k.invariant.0 c.requires _ _ (omega arith)) (sym c.is_zero.ensures)
