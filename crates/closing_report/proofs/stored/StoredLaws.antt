-- The lines of the results in the work area, as pieces that are put one behind the other.
use Rattle.std.proofs.Common.{◌≡◌, refl, List, [], ◌∷◌, ◌++◌, ℕ, suc}
use mathlib.Core.Option.{Option}
use Rattle.pauli_theory.specs.Membership.{Factorization}
use Rattle.factorizations.proofs.stored.PieceLaws.{Pieces}
use Rattle.closing_report.specs.Lines.{member_line, member_lines}

pub none_left : (i : ℕ) → member_lines i [] ≡ []
unfolding member_lines
none_left i = refl

pub one_more : (i : ℕ) (o : Option Factorization) (os : List (Option Factorization)) → member_lines i (o ∷ os) ≡ member_line i o ++ member_lines (suc i) os
unfolding member_lines
one_more i o os = refl

abbrev pub lines : Pieces
lines = record { one = member_line; all = member_lines; none_left = none_left; one_more = one_more; most = 2743 }
