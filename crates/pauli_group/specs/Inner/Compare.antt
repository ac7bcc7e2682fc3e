-- Comparison by numbers of phases and ranks.
use Rattle.std.specs.Prelude.{Bool, true, false}
use Rattle.pauli_theory.specs.Order.{Order, equal, less, greater, no_order, Ranks, and, same_ranks, no_more, first_of}
use Rattle.pauli_group.specs.declared.order.GroupRanks.{GroupRanks}

-- the numbers that the code holds
abbrev pub ranks_in : GroupRanks → Ranks
ranks_in a = record { phases = a.phases; rank = a.rank }

-- the order of two groups, by their numbers and those of the two joined
unfoldable pub order_by : Ranks → Ranks → Ranks → Order
order_by a b both = first_of (and (same_ranks a b) (same_ranks a both)) (and (no_more a b) (same_ranks b both)) (same_ranks a both)

-- "neither less nor equal"
abbrev pub is_below : Order → Bool
is_below equal = true
is_below less = true
is_below greater = false
is_below no_order = false
