-- The work area of a call: document 01, "Turned back".
use Rattle.std.specs.Prelude.{ℕ, List, nat_lt, ◌++◌, drop}
use Rattle.std.specs.Borrow.{Lends, MutBor, Fml, Array, u64}
use Rattle.binar.specs.Words.{put_row}
use Rattle.pauli.specs.Told.{Told, answer, refused, refuse_if}

-- "work area under 4,096 64-bit words"
abbrev pub work_words : ℕ
work_words = 4096

unfoldable pub enough : {A : Type 0} → ℕ → Told A → Told A
enough words next = refuse_if (nat_lt words work_words) 9 0 next

-- the first 4,096 words zero, the others as they were
unfoldable pub cleared : List ℕ → List ℕ
cleared work = put_row work 0 work_words 0

-- "The first 4,096 work words end as zeros, but are untouched at 1 to 9 and at any refusal placed before 9": what the checks up
-- to 9 tell decides
unfoldable pub area_after : {A : Type 0} → Told A → List ℕ → List ℕ
area_after (answer a) work = cleared work
area_after (refused n p) work = work

-- an area whose first 4,096 words are lent: it ends as they are left, the others as they were
abbrev pub LendsArea : MutBor (List ℕ) → MutBor (List ℕ) → Fml
LendsArea work words = Lends (Array u64 0) (Array u64 0) work words (λ ws. ws ++ drop work_words work.now)
