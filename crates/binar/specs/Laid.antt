-- What the reduction leaves in the slice lent.
use Rattle.std.specs.Prelude.{List, ◌++◌, ℕ, ◌+◌, ◌*◌, length, drop}
use Rattle.binar.specs.Words.{image}
use Rattle.binar.specs.Echelon.{Reduction}

-- the rows of s words each, behind them the pivot columns, a word each, and then what was in the slice
unfoldable pub laid_out : ℕ → Reduction → List ℕ → List ℕ
laid_out s f l = image s f.rows (f.pivots ++ drop (length f.rows * s + length f.pivots) l)
