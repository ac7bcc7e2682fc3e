-- What the functions under the call on a line promise.
use Rattle.std.specs.Prelude.{◌≡◌, ℕ, ◌<◌, List, [], ◌++◌, length, drop, slice_index_or, Option, Some, None}
use Rattle.std.specs.Borrow.{Lends, MutBor, Fml, Array, u64}
use Rattle.pauli.specs.Condense.{list_of}
use Rattle.pauli.specs.Roll.{read}
use Rattle.pauli.specs.Told.{answer}
use Rattle.pauli.specs.declared.roll.Roll.{Roll}
use Rattle.combined_lists.specs.Combining.{line_words}

-- none of no bytes, else the roll that these bytes are
abbrev pub IsRoll : List ℕ → Option Roll → Type 0
IsRoll b None = length b ≡ 0
IsRoll b (Some r) = (0 < length b) × (r.bytes.now ≡ b) × (read b ≡ answer (list_of b))

-- the rolls of a line as they were sent
pub record AreRolls (rolls : List (List ℕ)) (sent : List (Option Roll)) : Type 0 where
  pub lent : length rolls ≡ 4
  pub read : length sent ≡ 4
  pub each : (a : ℕ) → a < 4 → IsRoll (slice_index_or rolls a []) (slice_index_or sent a None)

-- an area whose first 32,768 words are lent: it ends as they are left, the others as they were
abbrev pub LendsLine : MutBor (List ℕ) → MutBor (List ℕ) → Fml
LendsLine work words = Lends (Array u64 0) (Array u64 0) work words (λ ws. ws ++ drop line_words work.now)
