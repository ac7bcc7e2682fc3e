-- The example of document 01, "The closing listing".
use Rattle.std.specs.Prelude.{◌≡◌, List, [], ◌∷◌, ◌++◌, ℕ, ◌≤◌, length, Result}
use Rattle.pauli.specs.Bytes.{le32}
use Rattle.pauli.specs.Roll.{Sparse, encode}
use Rattle.pauli.specs.Told.{answer, refused}
use Rattle.pauli.specs.Writing.{put_bytes}
use Rattle.pauli_group.specs.WorkArea.{work_words, cleared}
use Rattle.closing_report.specs.Contract.{ReportCall}
use Rattle.closing_report.specs.Decimal.{ascii}
use Rattle.closing_report.specs.Listing.{text_of, listing}
use Rattle.pauli.specs.declared.refusal.Refusal.{Refusal}
use Rattle.pauli.specs.Refusals.{told_of}

-- a length, a generator roll of that length, and an element roll
unfoldable pub input_of : List Sparse → List Sparse → List ℕ
input_of gs es = le32 (length (encode gs)) ++ encode gs ++ encode es

-- "generators XX, ZZ on qubits 0, 1"
unfoldable pub generators : List Sparse
generators = record { e = 0; xs = 0 ∷ 1 ∷ []; zs = [] } ∷ record { e = 0; xs = []; zs = 0 ∷ 1 ∷ [] } ∷ []

-- "elements (0,{0,1},{0,1}), (2,{0,1},{0,1}), (0,{},{2})"
unfoldable pub elements : List Sparse
elements =
    record { e = 0; xs = 0 ∷ 1 ∷ []; zs = 0 ∷ 1 ∷ [] } ∷ record { e = 2; xs = 0 ∷ 1 ∷ []; zs = 0 ∷ 1 ∷ [] }
    ∷ record { e = 0; xs = []; zs = 2 ∷ [] } ∷ []

-- "it prints .."
unfoldable pub text : List ℕ
text = ascii "rank 2 phases 0 abelian yes\n0 member 0 1 phase 0\n1 not member\n2 not member\n"

pub record Example : Type 0 where
  pub printed : text_of (input_of generators elements) ≡ text
  -- the call puts the text into any output that has room for it, and leaves the first 4,096 words of the work area as zeros
  pub called : (work out : List ℕ) (r : Result ℕ Refusal) (work' out' : List ℕ) → work_words ≡ length work → length text ≤ length out
      → ReportCall (input_of generators elements) work out r work' out'
      → (told_of r ≡ answer (length text)) × (out' ≡ put_bytes out 0 text) × (work' ≡ cleared work)
  -- "with no indexes, `0 member phase 0`": the identity, and no generators
  pub no_indexes : text_of (input_of [] (record { e = 0; xs = []; zs = [] } ∷ [])) ≡ ascii "rank 0 phases 0 abelian yes\n0 member phase 0\n"
  -- "A refusal prints only `refused N at K in roll R`": the second roll is cut
  pub second_roll : text_of (le32 2 ++ encode []) ≡ ascii "refused 1 at 0 in roll 2\n"
  -- "input without a whole first roll [..] is 1 at 0 in roll 1"
  pub no_roll : text_of [] ≡ ascii "refused 1 at 0 in roll 1\n"
  -- the call looks at its work area before the input
  pub no_words : listing [] 0 ≡ refused 9 0
