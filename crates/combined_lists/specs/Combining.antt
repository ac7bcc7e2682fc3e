-- What the call on a line tells, by the line, the rolls and the work area lent: document 02, L6.
use Rattle.std.specs.Prelude.{ℕ, ◌==◌, nat_lt, if◌then◌else◌, List, [], ◌∷◌, length, slice_index_or}
use Rattle.binar.specs.Words.{put_row}
use Rattle.pauli.specs.Condense.{list_of}
use Rattle.pauli.specs.JoinCalls.{join_of}
use Rattle.pauli.specs.Roll.{read, write}
use Rattle.pauli.specs.Told.{Told, answer, refused, refuse_if, and_then, map_told}
use Rattle.pauli_theory.specs.Group.{none}
use Rattle.pauli_group.specs.Calls.{quotient_call, common_call}
use Rattle.pauli_group.specs.WorkArea.{work_words}
use Rattle.combined_lists.specs.Line.{Sign, quotient, common, joined, Tree}
use Rattle.combined_lists.specs.LineCall.{line_told, sent_of}
use Rattle.combined_lists.specs.Work.{value_of}

-- ---- what is checked

-- "All sent rolls are checked, A to D": one of no bytes was not sent
unfoldable pub all_read : List (List ℕ) → Told Unit
all_read [] = answer tt
all_read (b ∷ bs) = if length b == 0 then all_read bs else and_then (read b) (λ ps. all_read bs)

-- "The work area for it is 32,768 words"
abbrev pub line_words : ℕ
line_words = 32768

-- the line's tree, if the line passes (14, 15), then the rolls (1 to 7), then the area (9)
unfoldable pub checked_line : List ℕ → List (List ℕ) → ℕ → Told Tree
checked_line l rolls words =
    and_then (line_told (sent_of rolls) l) λ t. and_then (all_read rolls) λ done. refuse_if (nat_lt words line_words) 9 0 (answer t)

-- ---- what the line comes to

-- what each single call tells of two rolls: "The rolls of a line carry no abelian promise"
unfoldable pub single_call : Sign → List ℕ → List ℕ → Told (List ℕ)
single_call quotient l r = quotient_call none none l r work_words
single_call common l r = common_call l r work_words
single_call joined l r = join_of l r

-- "the roll itself as a written one"; what a call has written is this already
unfoldable pub as_written : List ℕ → List ℕ
as_written b = write (list_of b)

-- "the result is that of the calls made singly in that order, or with no call the roll itself as a written one"
unfoldable pub line_bytes : List (List ℕ) → Tree → Told (List ℕ)
line_bytes rolls t = map_told as_written (value_of single_call (λ a. slice_index_or rolls a []) t)

unfoldable pub combine_call : List ℕ → List (List ℕ) → ℕ → Told (List ℕ)
combine_call l rolls words = and_then (checked_line l rolls words) (line_bytes rolls)

-- ---- the work area at exit

-- the first 32,768 words zero, the others as they were
unfoldable pub line_cleared : List ℕ → List ℕ
line_cleared work = put_row work 0 line_words 0

-- "Up to there the area is untouched; after that its 32,768 words end as zeros, also when an operation refuses"
unfoldable pub line_area_after : Told Tree → List ℕ → List ℕ
line_area_after (answer t) work = line_cleared work
line_area_after (refused n p) work = work
