-- The form allows a target to be solved for, and each later step leaves it as it is.
use Rattle.std.proofs.Common.{arith}
use Rattle.matrices.proofs.Laws.{solvable_behind}
use Rattle.matrices.proofs.print_form.Goals as goal

pub overflow_add-behind : goal.overflow_add-behind
overflow_add-behind g c =
    let S = solvable_behind _ _ _ _ _ _ _ c.in-Some.ensures c.requires.1 (omega arith) in
    omega (arith, S.pivots, S.target)

pub slice_bounds-print_head-end : goal.slice_bounds-print_head-end
slice_bounds-print_head-end g c =
    let S = solvable_behind _ _ _ _ _ _ _ c.in-Some.ensures c.requires.1 (omega arith) in
    omega (arith, S.pivots, S.target)

pub print_solution-requires : goal.print_solution-requires
print_solution-requires g c = (solvable_behind _ _ _ _ _ _ _ c.in-Some.ensures c.requires.1 (omega arith), c.requires.1)
