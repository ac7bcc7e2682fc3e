-- `transpose_solve`: the row set of A that sums to a target, through R and T.
use Rattle.std.specs.Prelude.{List, [], ◌∷◌, map, ℕ, zero, suc, ◌+◌, ◌*◌, ◌/◌, ◌%◌, ◌^◌}
use Rattle.std.proofs.Math.Option.{Option, some, none}
use Rattle.binar.specs.Echelon.{clear, EchelonForm}

-- the pivot rows in turn, each added to the rest v of the target if that has a one at the row's pivot
unfoldable pub sweep : List ℕ → List ℕ → ℕ → ℕ
sweep [] M v = v
sweep (p ∷ ps) [] v = v
sweep (p ∷ ps) (w ∷ M) v = sweep ps M (clear p w v)

-- the set, if nothing of the target is left
unfoldable pub solved : ℕ → ℕ → Option ℕ
solved zero set = some set
solved (suc rest) set = none

-- the target is the first c columns of v; as in the echelon form T stands beside R, past column c, so that the rows of T
-- that belong to the pivot rows added add up to the set
unfoldable pub transpose_solve : ℕ → EchelonForm → ℕ → Option ℕ
transpose_solve c f v = let s = sweep f.pivots (map (λ q. q.r + 2 ^ c * q.t) f.rows) (v % 2 ^ c) in solved (s % 2 ^ c) (s / 2 ^ c)
