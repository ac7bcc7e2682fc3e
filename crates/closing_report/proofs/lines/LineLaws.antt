-- The words of a line that depend on a number, and the pieces of each line behind its first.
use mathlib.Core.List.{List, [], ◌∷◌}
use Prim.Native.Nat.{ℕ}
use Rattle.closing_report.specs.Decimal.{ascii}
use Rattle.pauli.specs.Sets.{members}
use Rattle.closing_report.specs.Lines.{labelled, phases_text, abelian_text, indexes_text, line_feed}

unfoldable pub first_pieces : ℕ → ℕ → List (List ℕ)
first_pieces step clash = ascii " phases " ∷ phases_text step ∷ ascii " abelian " ∷ abelian_text clash ∷ line_feed ∷ []

unfoldable pub member_pieces : ℕ → ℕ → List (List ℕ)
member_pieces set exponent = ascii " member" ∷ indexes_text (members set) ∷ labelled (ascii " phase ") exponent ∷ line_feed ∷ []

unfoldable pub other_pieces : List (List ℕ)
other_pieces = ascii " not member" ∷ line_feed ∷ []

unfoldable pub refused_pieces : ℕ → ℕ → List (List ℕ)
refused_pieces place roll = labelled (ascii " at ") place ∷ labelled (ascii " in roll ") roll ∷ line_feed ∷ []
