-- Comparison: `partial_cmp`, by the steps of the source: the numbers of phases and the ranks of the two lists and of the two joined.
use Rattle.std.specs.Prelude.{Bool, true, false, List, ◌++◌, ℕ, ◌/◌, eqb, leb}
use Rattle.pauli.specs.Pauli.{Pauli}
use Rattle.pauli_theory.specs.Group.{Promise, none}
use Rattle.pauli_theory.specs.Standard.{rank, phase_step}

pub data Order : Type 0 where
  equal less greater no_order : Order

-- how many phases there are, and the rank
pub record Ranks : Type 0 where
  pub phases : ℕ
  pub rank : ℕ

unfoldable pub ranks_of : Promise → List Pauli → Ranks
ranks_of promise gs = record { phases = 4 / phase_step promise gs; rank = rank gs }

abbrev pub and : Bool → Bool → Bool
and true b = b
and false b = false

unfoldable pub same_ranks : Ranks → Ranks → Bool
same_ranks a b = and (eqb a.phases b.phases) (eqb a.rank b.rank)

unfoldable pub no_more : Ranks → Ranks → Bool
no_more a b = and (leb a.phases b.phases) (leb a.rank b.rank)

-- the first case that holds
unfoldable pub first_of : Bool → Bool → Bool → Order
first_of true b c = equal
first_of false true c = less
first_of false false true = greater
first_of false false false = no_order

-- "`partial_cmp` joins without promise"
unfoldable pub partial_cmp : Promise → Promise → List Pauli → List Pauli → Order
partial_cmp left right gs hs =
    let a = ranks_of left gs in
    let b = ranks_of right hs in
    let both = ranks_of none (gs ++ hs) in
    first_of (and (same_ranks a b) (same_ranks a both)) (and (no_more a b) (same_ranks b both)) (same_ranks a both)
