-- What the answers of the group calls tell: document 01's numbers and values for each of their cases.
use Rattle.std.specs.Prelude.{ℕ, Bool, true, false, List, [], ◌∷◌, Option as CodeOption, Some, None}
use Rattle.std.specs.declared.cmp.Ordering.{Ordering}
use Rattle.std.specs.declared.cmp.Ordering.TheVariants.{Less, Equal, Greater}
use Rattle.std.proofs.Math.Option.{Option, some, none as nothing}
use Rattle.pauli_group.specs.declared.answers.Phases.{Phases}
use Rattle.pauli_group.specs.declared.answers.Phases.TheVariants.{Zero, ZeroTwo, All}
use Rattle.pauli_group.specs.declared.answers.Factors.{Factors}
use Rattle.pauli_group.specs.Calls.{Factored}
use Rattle.pauli_theory.specs.Order.{Order as Compared, equal, less, greater, no_order}

-- the phases that each case is
abbrev pub phases_told : Phases → List ℕ
phases_told Zero = 0 ∷ []
phases_told ZeroTwo = 0 ∷ 2 ∷ []
phases_told All = 0 ∷ 1 ∷ 2 ∷ 3 ∷ []

-- 1 for yes, 0 for no
abbrev pub yes_number : Bool → ℕ
yes_number true = 1
yes_number false = 0

-- the count and the exponent that the code holds
abbrev pub factors_in : Factors → Factored
factors_in f = record { count = f.count; exponent = f.exponent }

-- the same for a member; nothing for another element
abbrev pub factored_in : CodeOption Factors → Option Factored
factored_in (Some f) = some (factors_in f)
factored_in None = nothing

-- how two groups compare: the left one is the same, inside the right one or around it, or none of these
abbrev pub order_of : CodeOption Ordering → Compared
order_of (Some Equal) = equal
order_of (Some Less) = less
order_of (Some Greater) = greater
order_of None = no_order
