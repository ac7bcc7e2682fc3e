-- What is proved of the call on a line and of the calls made singly, by their contracts alone: of a call nothing is known but what it
-- promises, whatever it was lent. The statement is a type; its proof, a term of it, is in proofs/combine/CombineTheoremLaws.
use Rattle.std.specs.Prelude.{◌≡◌, ℕ, ◌≤◌, Bool, true, false, List, [], length, take, slice_index_or, Result}
use Rattle.pauli.specs.JoinContract.{JoinCall}
use Rattle.pauli.specs.Refusals.{told_of}
use Rattle.pauli.specs.Roll.{Sparse, read, write}
use Rattle.pauli.specs.Told.{Told, answer, map_told}
use Rattle.pauli.specs.declared.refusal.Refusal.{Refusal}
use Rattle.pauli_theory.specs.Group.{none}
use Rattle.pauli_group.specs.CallContracts.{QuotientCall, CommonCall}
use Rattle.pauli_group.specs.WorkArea.{work_words}
use Rattle.combined_lists.specs.Line.{Sign, quotient, common, joined, Tree, letter, parens, operation}
use Rattle.combined_lists.specs.Work.{value_of, Runs}
use Rattle.combined_lists.specs.Combining.{checked_line, single_call, combine_call, as_written}
use Rattle.combined_lists.specs.CombineContract.{CombineCall}

-- the longest roll, accepted or written: 128 Paulis with 128 x and 128 z numbers each
abbrev pub largest_roll : ℕ
largest_roll = 132354

-- what a call told that writes a roll: its refusal, or as many bytes at the front of its output as it said
unfoldable pub bytes_told : Result ℕ Refusal → List ℕ → Told (List ℕ)
bytes_told wrote out' = map_told (λ n. take n out') (told_of wrote)

-- ---- single calls on two rolls, each with an output that has room for any roll, and with the words of work area that it takes

pub record Joining (l r : List ℕ) (o : Told (List ℕ)) : Type 0 where
  pub out : List ℕ
  pub wrote : Result ℕ Refusal
  pub out' : List ℕ
  pub promised : JoinCall l r out wrote out'
  pub room : largest_roll ≤ length out
  pub told : o ≡ bytes_told wrote out'

-- "The rolls of a line carry no abelian promise"
pub record Dividing (l r : List ℕ) (o : Told (List ℕ)) : Type 0 where
  pub work : List ℕ
  pub out : List ℕ
  pub wrote : Result ℕ Refusal
  pub work' : List ℕ
  pub out' : List ℕ
  pub promised : QuotientCall none none l r work out wrote work' out'
  pub area : work_words ≤ length work
  pub room : largest_roll ≤ length out
  pub told : o ≡ bytes_told wrote out'

pub record Meeting (l r : List ℕ) (o : Told (List ℕ)) : Type 0 where
  pub work : List ℕ
  pub out : List ℕ
  pub wrote : Result ℕ Refusal
  pub work' : List ℕ
  pub out' : List ℕ
  pub promised : CommonCall l r work out wrote work' out'
  pub area : work_words ≤ length work
  pub room : largest_roll ≤ length out
  pub told : o ≡ bytes_told wrote out'

-- the call of a sign on two rolls told this
abbrev pub SingleCall : Sign → List ℕ → List ℕ → Told (List ℕ) → Type 0
SingleCall quotient l r o = Dividing l r o
SingleCall common l r o = Meeting l r o
SingleCall joined l r o = Joining l r o

-- ---- lines

-- the bytes of roll a
abbrev pub roll_in : List (List ℕ) → ℕ → List ℕ
roll_in rolls a = slice_index_or rolls a []

-- the calls of the line t made singly in its order, each on rolls or on what earlier ones told, came to this
abbrev pub MadeSingly : List (List ℕ) → Tree → Told (List ℕ) → Type 0
MadeSingly rolls t o = Runs SingleCall (roll_in rolls) t o

-- a line has a sign
unfoldable pub has_call : Tree → Bool
has_call (letter a) = false
has_call (parens t) = has_call t
has_call (operation s l r) = true

unfoldable pub first_letter : Tree → ℕ
first_letter (letter a) = a
first_letter (parens t) = first_letter t
first_letter (operation s l r) = first_letter l

-- the call on the line l of tree t, which passed its checks and had an output with room for any roll, told this
pub record Combined (l : List ℕ) (rolls : List (List ℕ)) (t : Tree) (o : Told (List ℕ)) : Type 0 where
  pub work : List ℕ
  pub out : List ℕ
  pub wrote : Result ℕ Refusal
  pub work' : List ℕ
  pub out' : List ℕ
  pub promised : CombineCall l rolls work out wrote work' out'
  pub passed : checked_line l rolls (length work) ≡ answer t
  pub room : largest_roll ≤ length out
  pub told : o ≡ bytes_told wrote out'

pub record CombineLaw : Type 0 where
  -- "the result is that of the calls made singly in that order": the same bytes, or the same refusal
  pub with_calls : (l : List ℕ) (rolls : List (List ℕ)) (t : Tree) (o u : Told (List ℕ))
      → Combined l rolls t o → has_call t ≡ true → MadeSingly rolls t u → o ≡ u
  -- "or with no call the roll itself as a written one"
  pub with_none : (l : List ℕ) (rolls : List (List ℕ)) (t : Tree) (o : Told (List ℕ)) → Combined l rolls t o → has_call t ≡ false
      → (ps : List Sparse) × (read (roll_in rolls (first_letter t)) ≡ answer ps) × (o ≡ answer (write ps))
  -- calls made singly come to the value of the line's tree
  pub one_value : (rolls : List (List ℕ)) (t : Tree) (u : Told (List ℕ)) → MadeSingly rolls t u → u ≡ value_of single_call (roll_in rolls) t
  -- the definition that the call's contract names is that value as a written roll, for any line that passes; and what single calls told
  -- is one already
  pub by_singles : (l : List ℕ) (rolls : List (List ℕ)) (words : ℕ) (t : Tree) (u : Told (List ℕ))
      → checked_line l rolls words ≡ answer t → MadeSingly rolls t u → combine_call l rolls words ≡ map_told as_written u
  pub written_already : (l : List ℕ) (rolls : List (List ℕ)) (words : ℕ) (t : Tree) (u : Told (List ℕ))
      → checked_line l rolls words ≡ answer t → has_call t ≡ true → MadeSingly rolls t u → map_told as_written u ≡ u
