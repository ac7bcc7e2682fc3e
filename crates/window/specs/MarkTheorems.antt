-- What is proved of windows with marks: document 02, L12. Of a call nothing is known but what its contract says, whatever it was lent. The
-- statement is a type; its proof, a term of it, is in proofs/marks/MarkLaw.
use Rattle.std.specs.Prelude.{◌≡◌, ℕ, ◌≤◌, List, [], ◌∷◌, ◌++◌, map, length, Some, None, Result}
use Rattle.pauli.specs.Refusals.{told_of}
use Rattle.pauli.specs.Roll.{Sparse}
use Rattle.pauli.specs.Support.{All}
use Rattle.pauli.specs.Told.{Told, answer, refused, map_told}
use Rattle.pauli.specs.declared.refusal.Refusal.{Refusal}
use Rattle.window.specs.CallContracts.{MakeCall, SendCall}
use Rattle.window.specs.MarkContracts.{SaveCall, ReturnCall, DeleteCall, RoundCall}
use Rattle.window.specs.MarkHistory.{Named, most_marks, kept_at, round_of, Operation, sending, saving, returning, deleting, History, operate, history_of}
use Rattle.window.specs.MarkLayout.{array_bytes, behind, marks_in, behind_made, behind_sent}
use Rattle.window.specs.WindowTheorems.{HistoryLaw}

-- ---- calls, one after the other

-- a name, as its type says
abbrev pub IsName : List ℕ → Type 0
IsName n = length n ≡ 8

-- a run of calls on a window, which stood in these bytes before it and stands in the last ones after it: these operations were asked for, in
-- turn, accepted and refused mixed. A question changes no byte, so it is no step; a making that is refused is one. A making that is
-- answered begins another window
pub data MarkRun : List ℕ → List Operation → List ℕ → Type 0 where
  end : (w : List ℕ) → MarkRun w [] w
  send : (w b : List ℕ) (r : Result Unit Refusal) (w' : List ℕ) (os : List Operation) (last : List ℕ)
      → SendCall w b r w' → behind w' ≡ behind_sent w b → MarkRun w' os last → MarkRun w (sending b ∷ os) last
  save : (w n : List ℕ) (r : Result Unit Refusal) (w' : List ℕ) (os : List Operation) (last : List ℕ)
      → IsName n → SaveCall w n r w' → MarkRun w' os last → MarkRun w (saving n ∷ os) last
  return_to : (w n : List ℕ) (r : Result Unit Refusal) (w' : List ℕ) (os : List Operation) (last : List ℕ)
      → IsName n → ReturnCall w n r w' → MarkRun w' os last → MarkRun w (returning n ∷ os) last
  delete : (w n : List ℕ) (r : Result Unit Refusal) (w' : List ℕ) (os : List Operation) (last : List ℕ)
      → IsName n → DeleteCall w n r w' → MarkRun w' os last → MarkRun w (deleting n ∷ os) last
  make : (w : List ℕ) (width : ℕ) (r : Result Unit Refusal) (w' : List ℕ) (n p : ℕ) (os : List Operation) (last : List ℕ)
      → MakeCall w width r w' → behind w' ≡ behind_made w width → told_of r ≡ refused n p → MarkRun w' os last → MarkRun w os last

-- it was made at this width in bytes that were lent, as many as their type says; then these operations were asked for; now it stands in
-- the bytes w
pub record MarkedWindow (width : ℕ) (os : List Operation) (w : List ℕ) : Type 0 where
  pub lent : List ℕ
  pub size : length lent ≡ array_bytes
  pub wrote : Result Unit Refusal
  pub begun : List ℕ
  pub promised : MakeCall lent width wrote begun
  pub promised_behind : behind begun ≡ behind_made lent width
  pub made : told_of wrote ≡ answer tt
  pub run : MarkRun begun os w

-- ---- what holds of them

-- what an operation tells, whatever it leaves
abbrev pub told : {A : Type 0} → Told A → Told Unit
told t = map_told (λ a. tt) t

-- "each name once"
abbrev pub Once : {A : Type 0} → List (Named A) → Type 0
Once [] = Unit
Once (m ∷ ms) = All (λ k. k.name ≡ m.name → ⊥) ms × Once ms

-- a refused call changes nothing
pub record Unchanged (w : List ℕ) : Type 0 where
  pub send : (b : List ℕ) (r : Result Unit Refusal) (w' : List ℕ) (m p : ℕ) → SendCall w b r w' → behind w' ≡ behind_sent w b → told_of r ≡ refused m p → w' ≡ w
  pub save : (n : List ℕ) (r : Result Unit Refusal) (w' : List ℕ) (m p : ℕ) → SaveCall w n r w' → told_of r ≡ refused m p → w' ≡ w
  pub return_to : (n : List ℕ) (r : Result Unit Refusal) (w' : List ℕ) (m p : ℕ) → ReturnCall w n r w' → told_of r ≡ refused m p → w' ≡ w
  pub delete : (n : List ℕ) (r : Result Unit Refusal) (w' : List ℕ) (m p : ℕ) → DeleteCall w n r w' → told_of r ≡ refused m p → w' ≡ w

-- what holds of a window of this width in the bytes w, if this is its history
pub record MarkedLaw (width : ℕ) (h : History) (w : List ℕ) : Type 0 where
  -- "What was promised of the last w checks is then read from the mark's history plus the checks sent since"
  pub history : HistoryLaw width h.checks w
  -- "a new 64-bit count of accepted checks that can be asked for, starts at 0 and stops at its largest value"
  pub round : (r : ℕ) → RoundCall w r → r ≡ round_of h.checks
  -- "up to eight marks", "each name once"
  pub few : length h.marks ≤ most_marks
  pub once : Once h.marks
  pub names : map (λ m. m.name) (marks_in w) ≡ map (λ m. m.name) h.marks
  -- the next operation is answered as the history says, with number and place: of a roll that is sent `history` says so
  pub next_save : (n : List ℕ) (r : Result Unit Refusal) (w' : List ℕ) → IsName n → SaveCall w n r w' → told_of r ≡ told (operate width h (saving n))
  pub next_return : (n : List ℕ) (r : Result Unit Refusal) (w' : List ℕ) → IsName n → ReturnCall w n r w' → told_of r ≡ told (operate width h (returning n))
  pub next_delete : (n : List ℕ) (r : Result Unit Refusal) (w' : List ℕ) → IsName n → DeleteCall w n r w' → told_of r ≡ told (operate width h (deleting n))
  pub unchanged : Unchanged w

-- "20 for a new name while eight are held, and never otherwise"; "19 for an unknown name on return or delete": what operations on a
-- history tell
pub record TellsLaw (width : ℕ) (h : History) (n : List ℕ) : Type 0 where
  pub full : kept_at n h.marks ≡ None → length h.marks ≡ most_marks → operate width h (saving n) ≡ refused 20 0
  pub saves : ((kept_at n h.marks ≡ None) × (length h.marks ≡ most_marks) → ⊥) → told (operate width h (saving n)) ≡ answer tt
  pub unknown_return : kept_at n h.marks ≡ None → operate width h (returning n) ≡ refused 19 0
  -- "Returning restores checks and round and keeps all marks"
  pub returns : (ps : List Sparse) → kept_at n h.marks ≡ Some ps → operate width h (returning n) ≡ answer (record { checks = ps; marks = h.marks })
  pub unknown_delete : kept_at n h.marks ≡ None → operate width h (deleting n) ≡ refused 19 0
  pub deletes : (ps : List Sparse) → kept_at n h.marks ≡ Some ps → told (operate width h (deleting n)) ≡ answer tt

-- an operation that neither saves nor deletes under this name
abbrev pub Spares : List ℕ → Operation → Type 0
Spares n (sending b) = Unit
Spares n (saving m) = m ≡ n → ⊥
Spares n (returning m) = Unit
Spares n (deleting m) = m ≡ n → ⊥

-- "a mark's content is that of its last saving": of the operations `before`, then one under the name n, then others that spare it
pub record LastLaw (width : ℕ) (before : List Operation) (n : List ℕ) (after : List Operation) : Type 0 where
  pub saved : told (operate width (history_of width before) (saving n)) ≡ answer tt
      → kept_at n (history_of width (before ++ saving n ∷ after)).marks ≡ Some (history_of width before).checks
  -- "Returning restores checks and round and keeps all marks": those of that saving, and the marks as they are now
  pub returned : told (operate width (history_of width before) (saving n)) ≡ answer tt
      → history_of width (before ++ saving n ∷ (after ++ returning n ∷ []))
      ≡ record { checks = (history_of width before).checks; marks = (history_of width (before ++ saving n ∷ after)).marks }
  -- "deleting frees it for another name"
  pub deleted : kept_at n (history_of width (before ++ deleting n ∷ after)).marks ≡ None
  pub never_saved : kept_at n (history_of width after).marks ≡ None

pub record MarkLaw : Type 0 where
  -- "starts at 0"
  pub begins : (width : ℕ) (w : List ℕ) → MarkedWindow width [] w → (r : ℕ) → RoundCall w r → r ≡ 0
  pub history : (width : ℕ) (os : List Operation) (w : List ℕ) → MarkedWindow width os w → MarkedLaw width (history_of width os) w
  pub tells : (width : ℕ) (os : List Operation) (n : List ℕ) → TellsLaw width (history_of width os) n
  pub last : (width : ℕ) (before : List Operation) (n : List ℕ) (after : List Operation) → All (Spares n) after → LastLaw width before n after
