-- The limit on qubit numbers that document 02, L8, takes away: "Every call accepted before gets identical results."
use Rattle.std.specs.Prelude.{◌≡◌, ℕ, suc, ◌+◌, ◌*◌, ◌≤◌, ◌⊎◌, not, List, [], ◌∷◌, length, ◌==◌, nat_lt}
use Rattle.pauli.specs.Told.{Told, answer, refused, refuse_if, and_then}
use Rattle.pauli.specs.Bytes.{u16_at}
use Rattle.pauli.specs.Roll.{most_paulis, Sparse, entries_at, paulis_at, check_entries, numbers, support, read}
use Rattle.pauli.specs.Support.{most_qubits, All}
use Rattle.pauli.specs.JoinCalls.{Lists, read_both}

-- document 01: "qubit number 65,535"
unfoldable pub old_limit : ℕ
old_limit = 65535

-- document 01: "numbers in turn (5, 6)", where 5 is a number above the limit; else as `check_set`
unfoldable pub check_set_below : ℕ → ℕ → ℕ → List ℕ → Told Unit
check_set_below limit i least [] = answer tt
check_set_below limit i least (q ∷ qs) = refuse_if (nat_lt limit q) 5 i (refuse_if (nat_lt q least) 6 i (check_set_below limit i (suc q) qs))

unfoldable pub check_sets_below : ℕ → ℕ → List Sparse → Told Unit
check_sets_below limit i [] = answer tt
check_sets_below limit i (p ∷ ps) =
    and_then (check_set_below limit i 0 p.xs) λ _. and_then (check_set_below limit i 0 p.zs) λ _. check_sets_below limit (suc i) ps

-- the reader under a limit; else as `read`
unfoldable pub read_below : ℕ → List ℕ → Told (List Sparse)
read_below limit b =
    refuse_if (nat_lt (length b) 2) 1 0
    (let n = u16_at b 0 in
    refuse_if (nat_lt most_paulis n) 2 0
    (refuse_if (nat_lt (length b) (2 + 10 * n)) 1 0
    (let entries = entries_at b 2 n in
    and_then (check_entries 0 0 entries) λ total.
    refuse_if (not (length b == 2 + 10 * n + 4 * total)) 1 0
    (let ps = paulis_at b (2 + 10 * n) entries in
    and_then (check_sets_below limit 0 ps) λ _.
    refuse_if (nat_lt most_qubits (length (support ps))) 7 0
    (answer ps)))))

-- two rolls under a limit, as `read_both`
unfoldable pub both_below : ℕ → List ℕ → List ℕ → Told Lists
both_below limit l r = and_then (read_below limit l) λ ps. and_then (read_below limit r) λ qs. answer (record { left = ps; right = qs })

-- "Refusal 5 can no longer occur"
abbrev pub NeverFive : {A : Type 0} → Told A → Type 0
NeverFive t = (p : ℕ) → t ≡ refused 5 p → ⊥

-- an answer, or a refusal with 6 or 7
abbrev pub SixOrSeven : {A : Type 0} → Told A → Type 0
SixOrSeven (answer a) = Unit {0}
SixOrSeven (refused n p) = (n ≡ 6) ⊎ (n ≡ 7)

-- what a limit did, and what is told without it
pub record LimitLaw (limit : ℕ) : Type 1 where
  -- what was accepted is accepted as the same list, and refusals other than 5 are as they were
  pub accepted : (b : List ℕ) (ps : List Sparse) → read_below limit b ≡ answer ps → read b ≡ answer ps
  pub others : (b : List ℕ) (n p : ℕ) → read_below limit b ≡ refused n p → (n ≡ 5 → ⊥) → read b ≡ refused n p
  -- what was refused with 5 is accepted, or refused with 6 or 7
  pub five : (b : List ℕ) (p : ℕ) → read_below limit b ≡ refused 5 p → SixOrSeven (read b)
  -- it took from the lists those with a number above it, and no other
  pub low : (b : List ℕ) (ps : List Sparse) → read_below limit b ≡ answer ps → All (λ q. q ≤ limit) (numbers ps)
  pub lists : (b : List ℕ) (ps : List Sparse) → read b ≡ answer ps → All (λ q. q ≤ limit) (numbers ps) → read_below limit b ≡ answer ps
  -- so of a roll that was not refused with 5 the same is told, and a call, which knows of a roll nothing but what is told of it and its
  -- bytes, gives the same
  pub same : (b : List ℕ) → NeverFive (read_below limit b) → read b ≡ read_below limit b
  -- in one equation of a call that goes on with the list of one roll, or of two: where it was not refused with 5, it tells the same
  pub call_on_one : {A : Type 0} (b : List ℕ) (next : List Sparse → Told A)
      → NeverFive (and_then (read_below limit b) next) → and_then (read b) next ≡ and_then (read_below limit b) next
  pub call_on_two : {A : Type 0} (l r : List ℕ) (next : Lists → Told A)
      → NeverFive (and_then (both_below limit l r) next) → and_then (read_both l r) next ≡ and_then (both_below limit l r) next

-- ---- at the limits

-- the roll of one Pauli with exponent 0, no z numbers and n x numbers, which these bytes write
unfoldable pub x_roll : ℕ → List ℕ → List ℕ
x_roll n bytes = 1 ∷ 0 ∷ 1 ∷ 0 ∷ 0 ∷ 0 ∷ 0 ∷ 0 ∷ n ∷ 0 ∷ 0 ∷ 0 ∷ bytes

unfoldable pub x_list : List ℕ → List Sparse
x_list qs = record { e = 0; xs = qs; zs = [] } ∷ []

pub record AtLimits : Type 0 where
  -- the highest number that was accepted, and the one above it
  pub last : (read_below old_limit (x_roll 1 (255 ∷ 255 ∷ 0 ∷ 0 ∷ [])) ≡ answer (x_list (65535 ∷ []))) × (read (x_roll 1 (255 ∷ 255 ∷ 0 ∷ 0 ∷ [])) ≡ answer (x_list (65535 ∷ [])))
  pub next : (read_below old_limit (x_roll 1 (0 ∷ 0 ∷ 1 ∷ 0 ∷ [])) ≡ refused 5 0) × (read (x_roll 1 (0 ∷ 0 ∷ 1 ∷ 0 ∷ [])) ≡ answer (x_list (65536 ∷ [])))
  -- the highest number of all; no number rises above it
  pub highest : read (x_roll 1 (255 ∷ 255 ∷ 255 ∷ 255 ∷ [])) ≡ answer (x_list (4294967295 ∷ []))
  pub twice : read (x_roll 2 (255 ∷ 255 ∷ 255 ∷ 255 ∷ 255 ∷ 255 ∷ 255 ∷ 255 ∷ [])) ≡ refused 6 0
  pub falling : read (x_roll 2 (255 ∷ 255 ∷ 255 ∷ 255 ∷ 0 ∷ 0 ∷ 0 ∷ 0 ∷ [])) ≡ refused 6 0
