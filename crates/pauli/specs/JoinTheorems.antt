-- What is proved of joined rolls.
use Rattle.std.specs.Prelude.{◌≡◌, ℕ, ◌+◌, ◌<◌, ◌≤◌, List, ◌++◌, map, length, slice_index_or}
use Rattle.pauli.specs.Told.{answer}
use Rattle.pauli.specs.Bytes.{le32s}
use Rattle.pauli.specs.Roll.{Sparse, read, write, by_value}
use Rattle.pauli.specs.Support.{All}
use Rattle.pauli.specs.Condense.{nothing}
use Rattle.pauli.specs.JoinCalls.{joined_of, join_of, Stretch, stretch_of, roll_numbered, bytes_of, body_of}

-- where the rolls of two lists are joined to the bytes bs
pub record JoinLaw (ps qs : List Sparse) (bs : List ℕ) : Type 0 where
  -- these are the roll of the left list, then the right list
  pub written : bs ≡ write (ps ++ qs)
  -- and that list is read back from them, exponents by value
  pub read_back : read bs ≡ answer (map by_value (ps ++ qs))

abbrev pub JoinedLaw : Type 0
JoinedLaw = (l r : List ℕ) (ps qs : List Sparse) (bs : List ℕ) → read l ≡ answer ps → read r ≡ answer qs → join_of l r ≡ answer bs → JoinLaw ps qs bs

-- ---- the stretch of a joined generator

-- "bodies: x numbers, then z numbers, 4 bytes each"
unfoldable pub body_bytes : Sparse → List ℕ
body_bytes p = le32s p.xs ++ le32s p.zs

-- where two rolls are joined to the list ps, the lookup of generator n finds a stretch
pub record StretchLaw (l r : List ℕ) (ps : List Sparse) (n : ℕ) : Type 0 where
  pub stretch : Stretch
  pub told : stretch_of l r n ≡ answer stretch
  -- that lies in its roll
  pub inside : stretch.start + stretch.size ≤ length (roll_numbered stretch.roll l r)
  -- is handed back
  pub body : body_of l r n ≡ bytes_of l r stretch
  -- and is the body of Pauli n of that list
  pub numbers : bytes_of l r stretch ≡ body_bytes (slice_index_or ps n nothing)

abbrev pub JoinedBodyLaw : Type 0
JoinedBodyLaw =
    (l r : List ℕ) → All (λ x. x < 256) l → All (λ x. x < 256) r → (ps : List Sparse) → joined_of l r ≡ answer ps
    → (n : ℕ) → n < length ps → StretchLaw l r ps n
