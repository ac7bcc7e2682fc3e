-- The lines of the closing listing: document 01, "The closing listing".
use Rattle.std.specs.Prelude.{List, [], ◌∷◌, ◌++◌, ℕ, zero, suc}
use Rattle.std.proofs.Math.Option.{Option, some, none}
use Rattle.pauli.specs.Sets.{members}
use Rattle.pauli_theory.specs.Standard.{if_zero}
use Rattle.pauli_theory.specs.Membership.{Factorization}
use Rattle.closing_report.specs.Decimal.{ascii, digits}

-- "every line ends in a line feed"
unfoldable pub line_feed : List ℕ
line_feed = 10 ∷ []

-- a label and a number behind it
unfoldable pub labelled : List ℕ → ℕ → List ℕ
labelled label n = label ++ digits n

-- "phases with commas", by the step between them
unfoldable pub phases_text : ℕ → List ℕ
phases_text zero = ascii "0"
phases_text (suc zero) = ascii "0,1,2,3"
phases_text (suc (suc zero)) = ascii "0,2"
phases_text (suc (suc (suc n))) = ascii "0"

-- "abelian (yes or no)": clash is 0 where the group is abelian
unfoldable pub abelian_text : ℕ → List ℕ
abelian_text clash = if_zero clash (ascii "yes") (ascii "no")

-- "Line 1: rank, phases with commas, abelian (yes or no)", as in `rank 2 phases 0 abelian yes`
unfoldable pub first_line : ℕ → ℕ → ℕ → List ℕ
first_line rank step clash =
    labelled (ascii "rank ") rank ++ ascii " phases " ++ phases_text step ++ ascii " abelian " ++ abelian_text clash ++ line_feed

-- each index behind a space
unfoldable pub indexes_text : List ℕ → List ℕ
indexes_text [] = []
indexes_text (i ∷ is) = labelled (ascii " ") i ++ indexes_text is

-- "Then element number, indexes, exponent; with no indexes, `0 member phase 0`", as in `0 member 0 1 phase 0` and `1 not member`
unfoldable pub member_line : ℕ → Option Factorization → List ℕ
member_line i (some f) =
    digits i ++ ascii " member" ++ indexes_text (members f.indexes) ++ labelled (ascii " phase ") f.exponent ++ line_feed
member_line i none = digits i ++ ascii " not member" ++ line_feed

-- a line for each element, from number i on
unfoldable pub member_lines : ℕ → List (Option Factorization) → List ℕ
member_lines i [] = []
member_lines i (o ∷ os) = member_line i o ++ member_lines (suc i) os

-- "A refusal prints only `refused N at K in roll R`"
unfoldable pub refused_line : ℕ → ℕ → ℕ → List ℕ
refused_line number place roll =
    labelled (ascii "refused ") number ++ labelled (ascii " at ") place ++ labelled (ascii " in roll ") roll ++ line_feed
