-- The solution is written behind the pivots, also where there is none.
use Rattle.matrices.proofs.Laws.{put_solvable}
use Rattle.matrices.proofs.print_solution.Goals as goal

pub returns-then-transpose_solve : goal.returns-then-transpose_solve
returns-then-transpose_solve g c = rw c.transpose_solve.ensures.left (put_solvable _ _ _ _ _ _ _ c.requires.0)

pub returns-else-transpose_solve : goal.returns-else-transpose_solve
returns-else-transpose_solve g c = rw c.transpose_solve.ensures.left (put_solvable _ _ _ _ _ _ _ c.requires.0)
