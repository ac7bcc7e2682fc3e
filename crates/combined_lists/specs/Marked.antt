-- Lines as they are read, refused and worked out, each an equation.
use Rattle.std.specs.Prelude.{◌≡◌, refl, ℕ, zero, suc, ◌+◌, ◌-◌, min, Bool, true, false, nat_lt, Some, [], replicate, codes}
use Rattle.pauli.specs.Told.{Told, answer, refused, refuse_if, and_then, map_told}
use Rattle.combined_lists.specs.Line.{Sign, quotient, common, joined, letter, parens, operation, depth_of, all_sent}
use Rattle.combined_lists.specs.Reader.{after, letter_at, read, reading, tree_of}
use Rattle.combined_lists.specs.LineCall.{line_told}
use Rattle.combined_lists.specs.Work.{value_of, waiting}

pub binding : tree_of (codes "A|B&C/D") ≡ Some (operation joined (letter 0) (operation common (letter 1) (operation quotient (letter 2) (letter 3))))
unfolding tree_of reading read letter_at after
binding = refl

pub from_the_left : tree_of (codes "A/B/C") ≡ Some (operation quotient (operation quotient (letter 0) (letter 1)) (letter 2))
unfolding tree_of reading read letter_at after
from_the_left = refl

pub overridden : tree_of (codes "(A|B)&C") ≡ Some (operation common (parens (operation joined (letter 0) (letter 1))) (letter 2))
unfolding tree_of reading read letter_at after
overridden = refl

-- A to C were sent
abbrev pub but_d : ℕ → Bool
but_d zero = true
but_d (suc zero) = true
but_d (suc (suc zero)) = true
but_d (suc (suc (suc a))) = false

pub fourteen_first : line_told but_d (codes "(((((D)))))") ≡ refused 14 0
unfolding line_told tree_of reading read letter_at after all_sent depth_of refuse_if
fourteen_first = refl

pub five_deep : line_told but_d (codes "(((((A)))))") ≡ refused 15 0
unfolding line_told tree_of reading read letter_at after all_sent depth_of refuse_if
five_deep = refl

pub four_deep : line_told but_d (codes "((((A))))") ≡ answer (parens (parens (parens (parens (letter 0)))))
unfolding line_told tree_of reading read letter_at after all_sent depth_of refuse_if
four_deep = refl

pub empty : line_told but_d [] ≡ refused 14 0
unfolding line_told tree_of reading read letter_at after refuse_if
empty = refl

pub cut : line_told but_d (codes "A|") ≡ refused 14 0
unfolding line_told tree_of reading read letter_at after refuse_if
cut = refl

pub spaced : line_told but_d (codes "A | B") ≡ refused 14 0
unfolding line_told tree_of reading read letter_at after refuse_if
spaced = refl

-- 256 times `(`
pub all_open : line_told but_d (replicate 256 40) ≡ refused 14 0
unfolding line_told tree_of reading read letter_at after refuse_if
all_open = refl

-- fifteen operands wait, four parentheses deep
pub fifteen_wait : map_told waiting (line_told (λ _. true) (codes "A|B&C/(A|B&C/(A|B&C/(A|B&C/(A|B&C/D))))")) ≡ answer 15
unfolding map_told waiting line_told tree_of reading read letter_at after all_sent depth_of refuse_if
fifteen_wait = refl

-- calls on numbers of which `|` refuses sums above 128 and `/` a larger divisor
abbrev pub on_numbers : Sign → ℕ → ℕ → Told ℕ
on_numbers quotient x y = refuse_if (nat_lt x y) 11 0 (answer (x - y))
on_numbers common x y = answer (min x y)
on_numbers joined x y = refuse_if (nat_lt 128 (x + y)) 2 0 (answer (x + y))

-- A = 65, B = 2, C = 1
abbrev pub numbers : ℕ → ℕ
numbers zero = 65
numbers (suc zero) = 2
numbers (suc (suc a)) = 1

-- both A|A and C/B refuse, and A|A comes first
pub left_first : and_then (line_told but_d (codes "(A|A)&C/B")) (value_of on_numbers numbers) ≡ refused 2 0
unfolding value_of and_then line_told tree_of reading read letter_at after all_sent depth_of refuse_if
left_first = refl

pub worked_out : and_then (line_told but_d (codes "A&(A|B)/C")) (value_of on_numbers numbers) ≡ answer 65
unfolding value_of and_then line_told tree_of reading read letter_at after all_sent depth_of refuse_if
worked_out = refl
