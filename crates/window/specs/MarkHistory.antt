-- Marks to return to, by what was done alone: document 02, L12.
use Rattle.std.specs.Prelude.{ℕ, ◌^◌, ◌-◌, min, List, [], ◌∷◌, length, cond, nat_lt, bytes_eq, Option, Some, None}
use Rattle.pauli.specs.Roll.{Sparse}
use Rattle.pauli.specs.Told.{Told, answer, refused, refuse_if, map_told}
use Rattle.window.specs.History.{accept, or_same}

-- ---- names

-- what is kept under a name. "names of 8 bytes"; they "are compared as 8 bytes, zeros included"
pub record Named (A : Type 0) : Type 0 where
  pub name : List ℕ
  pub kept : A

-- "up to eight marks"
unfoldable pub most_marks : ℕ
most_marks = 8

-- what is kept under the name n
unfoldable pub kept_at : {A : Type 0} → List ℕ → List (Named A) → Option A
kept_at n [] = None
kept_at n (m ∷ ms) = cond (bytes_eq m.name n) (Some m.kept) (kept_at n ms)

-- "Saving under a used name replaces that mark"; a new name goes behind the others
unfoldable pub keep : {A : Type 0} → List ℕ → A → List (Named A) → List (Named A)
keep n a [] = record { name = n; kept = a } ∷ []
keep n a (m ∷ ms) = cond (bytes_eq m.name n) (record { name = n; kept = a } ∷ ms) (m ∷ keep n a ms)

-- "deleting frees it for another name"
unfoldable pub free : {A : Type 0} → List ℕ → List (Named A) → List (Named A)
free n [] = []
free n (m ∷ ms) = cond (bytes_eq m.name n) ms (m ∷ free n ms)

-- "20 for a new name while eight are held, and never otherwise"
unfoldable pub keep_few : {A : Type 0} → List ℕ → A → List (Named A) → Told (List (Named A))
keep_few n a ms = refuse_if (nat_lt most_marks (length (keep n a ms))) 20 0 (answer (keep n a ms))

-- "19 for an unknown name on return or delete"
unfoldable pub known : {A : Type 0} → Option A → Told A
known (Some a) = answer a
known None = refused 19 0

-- ---- the round

-- "a new 64-bit count .. stops at its largest value"
unfoldable pub most_round : ℕ
most_round = 2 ^ 64 - 1

-- "so many accepted checks": the round of a history of these checks
unfoldable pub round_of : List Sparse → ℕ
round_of ps = min (length ps) most_round

-- ---- histories

-- what can be done to a window: a roll is sent; under a name it is saved, returned to or deleted
pub data Operation : Type 0 where
  sending : List ℕ → Operation
  saving : List ℕ → Operation
  returning : List ℕ → Operation
  deleting : List ℕ → Operation

-- the checks of a window's history, oldest first, and for each mark those of its history
pub record History : Type 0 where
  pub checks : List Sparse
  pub marks : List (Named (List Sparse))

-- the history after an operation on a window of width w, or its refusal: "read from the mark's history plus the checks sent since".
-- "Returning restores checks and round and keeps all marks"
unfoldable pub operate : ℕ → History → Operation → Told History
operate w h (sending b) = map_told (λ ps. record { checks = ps; marks = h.marks }) (accept w h.checks b)
operate w h (saving n) = map_told (λ ms. record { checks = h.checks; marks = ms }) (keep_few n h.checks h.marks)
operate w h (returning n) = map_told (λ ps. record { checks = ps; marks = h.marks }) (known (kept_at n h.marks))
operate w h (deleting n) = map_told (λ ps. record { checks = h.checks; marks = free n h.marks }) (known (kept_at n h.marks))

-- the history after these operations, in turn; "both change nothing"
unfoldable pub history_after : ℕ → History → List Operation → History
history_after w h [] = h
history_after w h (o ∷ os) = history_after w (or_same h (operate w h o)) os

-- the history of these operations on a window of width w, from its making on: no check and no mark
unfoldable pub history_of : ℕ → List Operation → History
history_of w os = history_after w (record { checks = []; marks = [] }) os
