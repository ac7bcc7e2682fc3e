-- What is proved of windows: document 02, L11. Of a call nothing is known but what its contract says, whatever it was lent. The statement
-- is a type; its proof, a term of it, is in proofs/calls/WindowLaw.
use Rattle.std.specs.Prelude.{◌≡◌, ℕ, ◌≤◌, List, [], ◌∷◌, length, Option, Result}
use Rattle.pauli.specs.Refusals.{told_of}
use Rattle.pauli.specs.Roll.{Sparse, support, read, write}
use Rattle.pauli.specs.Support.{most_qubits}
use Rattle.pauli.specs.Told.{answer, refused, map_told}
use Rattle.pauli.specs.declared.refusal.Refusal.{Refusal}
use Rattle.pauli_theory.specs.Group.{none}
use Rattle.pauli_group.specs.CallContracts.{StandardCall, RankCall, PhasesCall, MemberCall}
use Rattle.pauli_group.specs.declared.answers.Factors.{Factors}
use Rattle.pauli_group.specs.declared.answers.Phases.{Phases}
use Rattle.window.specs.History.{widest, accept, accepted, last_of}
use Rattle.window.specs.Layout.{window_bytes, front, roll_in, width_in}
use Rattle.window.specs.CallContracts.{MakeCall, SendCall}

-- ---- calls, one after the other

-- a run of calls on a window, which stood in the first bytes before it and stands in the last ones after it: these rolls were sent, in
-- turn, accepted and refused mixed. A question changes no byte, so it is no step; a making that is refused is one. A making that is
-- answered begins another window
pub data Run : List ℕ → List (List ℕ) → List ℕ → Type 0 where
  end : (w : List ℕ) → Run w [] w
  send : (w b : List ℕ) (r : Result Unit Refusal) (w' : List ℕ) (bs : List (List ℕ)) (last : List ℕ)
      → SendCall w b r w' → Run w' bs last → Run w (b ∷ bs) last
  make : (w : List ℕ) (width : ℕ) (r : Result Unit Refusal) (w' : List ℕ) (n p : ℕ) (bs : List (List ℕ)) (last : List ℕ)
      → MakeCall w width r w' → told_of r ≡ refused n p → Run w' bs last → Run w bs last

-- "Only these calls make or change a window, and the claims run from its making": it was made at this width in bytes that were lent, as
-- many as their type says at the least; then these rolls were sent; now it stands in the bytes w
pub record Window (width : ℕ) (bs : List (List ℕ)) (w : List ℕ) : Type 0 where
  pub lent : List ℕ
  pub size : window_bytes ≤ length lent
  pub wrote : Result Unit Refusal
  pub begun : List ℕ
  pub promised : MakeCall lent width wrote begun
  pub made : told_of wrote ≡ answer tt
  pub run : Run begun bs w

-- ---- what holds of them

-- "17 for a width outside 1 to 64, at the making"
pub record MakeLaw (w : List ℕ) (width : ℕ) (r : Result Unit Refusal) (w' : List ℕ) : Type 0 where
  pub made : 1 ≤ width → width ≤ widest → told_of r ≡ answer tt
  pub refuses : (1 ≤ width → width ≤ widest → ⊥) → (told_of r ≡ refused 17 0) × (front w' ≡ front w)

-- "Standard generators, rank, phases and membership must equal those of a group built afresh, without promise, from the checks inside, oldest
-- first": a question to the window w is the call on the roll that is written for these checks, with its answers, bytes, refusals and areas
pub record AsAfresh (w : List ℕ) (ps : List Sparse) : Type 0 where
  pub standard_generators : (work out : List ℕ) (r : Result ℕ Refusal) (work' out' : List ℕ)
      → StandardCall (roll_in w) work out r work' out' → StandardCall (write ps) work out r work' out'
  pub rank : (work : List ℕ) (r : Result ℕ Refusal) (work' : List ℕ) → RankCall (roll_in w) work r work' → RankCall (write ps) work r work'
  pub phases : (work : List ℕ) (r : Result Phases Refusal) (work' : List ℕ)
      → PhasesCall none (roll_in w) work r work' → PhasesCall none (write ps) work r work'
  pub membership : (e : List ℕ) (n : ℕ) (work out : List ℕ) (r : Result (Option Factors) Refusal) (work' out' : List ℕ)
      → MemberCall none (roll_in w) e n work out r work' out' → MemberCall none (write ps) e n work out r work' out'

-- what holds of a window of this width in the bytes w, if ps are the checks accepted in its history
pub record HistoryLaw (width : ℕ) (ps : List Sparse) (w : List ℕ) : Type 0 where
  -- the checks inside are the last of those accepted, as many as the width, by value, oldest first: their roll stands in the bytes, and
  -- holds them and no others
  pub inside : roll_in w ≡ write (last_of width ps)
  pub read_back : read (roll_in w) ≡ answer (last_of width ps)
  -- no more than the width, on no more than 128 qubits
  pub few : length (last_of width ps) ≤ width
  pub qubits : length (support (last_of width ps)) ≤ most_qubits
  pub keeps_width : width_in w ≡ width
  -- the next roll is answered as the rolls sent say, with number and place, or enters; and never 12
  pub next : (b : List ℕ) (r : Result Unit Refusal) (w' : List ℕ) → SendCall w b r w'
      → told_of r ≡ map_told (λ ps. tt) (accept width ps b)
  pub never_short : (b : List ℕ) (r : Result Unit Refusal) (w' : List ℕ) (p : ℕ) → SendCall w b r w' → told_of r ≡ refused 12 p → ⊥
  -- "A refused check changes nothing"
  pub unchanged : (b : List ℕ) (r : Result Unit Refusal) (w' : List ℕ) (n p : ℕ) → SendCall w b r w' → told_of r ≡ refused n p
      → front w' ≡ front w
  pub questions : AsAfresh w (last_of width ps)

pub record WindowLaw : Type 0 where
  pub making : (w : List ℕ) (width : ℕ) (r : Result Unit Refusal) (w' : List ℕ) → MakeCall w width r w' → MakeLaw w width r w'
  -- "Before the first check the window is the empty list"
  pub before_first : (width : ℕ) (w : List ℕ) → Window width [] w → read (roll_in w) ≡ answer []
  pub history : (width : ℕ) (bs : List (List ℕ)) (w : List ℕ) → Window width bs w → HistoryLaw width (accepted width bs) w
