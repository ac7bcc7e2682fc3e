use Prim.Native.Nat.{◌+◌, ◌*◌, ◌<◌, ◌≤◌}
use Rattle.binar.proofs.echelon.Matrix.{two_rows}
use Rattle.binar.proofs.echelon.Passes.{final_start, total_start, final_stop, total_stop, stops, stops_end, turn_words, final_turn, total_turn}
use Rattle.binar.proofs.row.Slice.{exchanged}
use lib.ListN.{length, length-set}
use mathlib.Core.Path.{sym, ◌∙◌}
use native.Mathlib.Omega.{arith}
use Rattle.binar.proofs.echelon.echelonize.Goals as goal

pub swap_rows-requires : goal.swap_rows-requires
swap_rows-requires c = two_rows _ _ _ _ _ (omega arith) c.in-Some.ensures.inside.1 (omega (arith, c.in-Some.ensures.inside))

pub loop-next-preserved : goal.loop-next-preserved
unfolding exchanged
loop-next-preserved c =
    let i = c.loop-next.invariant in
    let inside = c.in-Some.ensures.inside in
    let room : c.args.shape.rows * c.args.shape.stride + c.args.shape.rows ≤ length c.loop-next.w = omega arith in
    let here : c.loop-next.next.row < c.args.shape.rows = omega arith in
    let first = sym c.pivot_of.ensures.first ∙ c.in-Some.is in (
      omega arith,
      omega arith,
      simp length-set (c.reduce.auto.w ∙ c.swap_rows.auto.w ∙ i.2),
      turn_words _ _ _ _ _ _ c.in-Some.found i.3 room here inside.1 _ _ c.swap_rows.ensures c.reduce.ensures first (omega arith),
      i.4 ∙ final_turn _ _ _ _ _ _ c.in-Some.found i.3 room here inside.1 _ _ c.swap_rows.ensures c.reduce.ensures first,
      i.5 ∙ total_turn _ _ _ _ _ _ c.in-Some.found i.3 room here inside.1 _ _ c.swap_rows.ensures c.reduce.ensures first,
    )

pub returns-in_default : goal.returns-in_default
returns-in_default c =
    let i = c.loop-next.invariant in
    let e = stops _ _ _ _ _ _ (sym c.pivot_of.ensures.first ∙ c.in_default.is) in record {
      rank = sym (sym (total_start _ _ _ _) ∙ i.5 ∙ total_stop _ _ _ _ _ _ e);
      left = sym (sym (final_start _ _ _ _) ∙ i.4 ∙ final_stop _ _ _ _ _ _ i.3 (omega arith) e);
    }

pub returns-after-loop-next : goal.returns-after-loop-next
returns-after-loop-next c =
    let i = c.loop-next.invariant in
    let e = stops_end _ _ _ _ _ _ c.loop-next-test.false in record {
      rank = sym (sym (total_start _ _ _ _) ∙ i.5 ∙ total_stop _ _ _ _ _ _ e);
      left = sym (sym (final_start _ _ _ _) ∙ i.4 ∙ final_stop _ _ _ _ _ _ i.3 (omega arith) e);
    }
