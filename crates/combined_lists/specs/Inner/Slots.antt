-- Lists kept in slots of the work area, and the operations on them.
use Rattle.std.specs.Prelude.{◌≡◌, ℕ, ◌+◌, ◌^◌, ◌<◌, ◌≤◌, List, [], ◌++◌, map, length, take, drop, slice_index, slice_index_or, Option as CodeOption, Some, None, Bool, is_some, Result, IfOk, IfErr}
use Rattle.std.proofs.Math.Option.{Option, some, none as nothing}
use Rattle.pauli.specs.Condense.{condensed, list_of}
use Rattle.pauli.specs.Pauli.{Pauli, normal}
use Rattle.pauli.specs.Refusals.{number_of}
use Rattle.pauli.specs.PauliTheorems.{PauliOn}
use Rattle.pauli.specs.Signed.{list_in, paulis_in}
use Rattle.pauli.specs.Support.{All, Rising}
use Rattle.pauli.specs.Told.{Told, answer, refused}
use Rattle.pauli.specs.declared.refusal.Refusal.{Refusal}
use Rattle.pauli.specs.declared.roll.Roll.{Roll}
use Rattle.pauli_theory.specs.Group.{none}
use Rattle.pauli_theory.specs.Modulo.{try_quotient}
use Rattle.pauli_theory.specs.Standard.{support_of}
use Rattle.pauli_theory.specs.WholeCommon.{whole_common}
use Rattle.pauli_group.specs.Calls.{paulis}
use Rattle.pauli_group.specs.Inner.Further.{FurtherHas}
use Rattle.pauli_group.specs.Inner.Sources.{joinable, listed}
use Rattle.pauli_group.specs.declared.source.SourcePair.{SourcePair}
use Rattle.combined_lists.specs.Line.{Sign, quotient, common, joined}
use Rattle.combined_lists.specs.Inner.Worked.{Operated}

-- ---- the operations on lists

unfoldable pub if_subgroup : Option (List Pauli) → Told (List Pauli)
if_subgroup (some ps) = answer ps
if_subgroup nothing = refused 11 0

unfoldable pub on_lists : Sign → List Pauli → List Pauli → Told (List Pauli)
on_lists quotient x y = joinable x y (if_subgroup (try_quotient none none x y))
on_lists common x y = joinable x y (answer (whole_common x y))
on_lists joined x y = joinable x y (answer (x ++ y))

-- ---- the rolls of a line

-- roll a was sent
abbrev pub sent_in : List (CodeOption Roll) → ℕ → Bool
sent_in rolls a = is_some (slice_index_or rolls a None)

-- its list, exponents by value
unfoldable pub list_read : CodeOption Roll → List Pauli
list_read None = []
list_read (Some r) = map normal (paulis (list_of r.bytes.now))

abbrev pub lists_in : List (CodeOption Roll) → ℕ → List Pauli
lists_in rolls a = list_read (slice_index_or rolls a None)

-- ---- slots

-- a slot's words: how many Paulis, how many qubits, the qubits' numbers, the Paulis over their places, five words each
abbrev pub numbers_at : ℕ
numbers_at = 2

abbrev pub paulis_at : ℕ
paulis_at = 130

unfoldable pub qubits_in : List ℕ → List ℕ
qubits_in s = take (slice_index s 1) (drop numbers_at s)

-- a slot's qubits are at the front of the numbers qs
abbrev pub Lent : List ℕ → List ℕ → Type 0
Lent s qs = take (slice_index s 1) qs ≡ qubits_in s

-- the qubits of a slot have room, and their numbers fit 32 bits
pub record NumbersFit (s : List ℕ) : Type 0 where
  pub places : slice_index s 1 ≤ 128
  pub low : (i : ℕ) → i < slice_index s 1 → slice_index s (numbers_at + i) < 2 ^ 32

-- the slot s has the list gs
pub record SlotHas (s : List ℕ) (gs : List Pauli) : Type 0 where
  pub few : slice_index s 0 ≤ 128
  pub numbers : NumbersFit s
  pub support : qubits_in s ≡ support_of gs
  pub list : list_in s paulis_at (slice_index s 0) ≡ map (condensed (support_of gs)) gs
  pub values : map normal gs ≡ gs

-- some list is in it
pub record SomeList (s : List ℕ) : Type 0 where
  pub list : List Pauli
  pub has : SlotHas s list

-- Paulis in words over the places of qs, which are the list gs and can be kept
pub record Keepable (qs : List ℕ) (words : List (List ℕ)) (gs : List Pauli) : Type 0 where
  pub rises : Rising 0 qs
  pub places : length qs ≤ 128
  pub few : length words ≤ 128
  pub on : All (PauliOn qs) gs
  pub list : paulis_in words ≡ map (condensed qs) gs
  pub values : map normal gs ≡ gs

-- some list can
pub record SomeKeepable (qs : List ℕ) (words : List (List ℕ)) : Type 0 where
  pub list : List Pauli
  pub keepable : Keepable qs words list

-- ---- slots by number

-- slot i has the list gs
abbrev pub SlotHolds : List (List ℕ) → ℕ → List Pauli → Type 0
SlotHolds slots i gs = SlotHas (slice_index_or slots i []) gs

-- some list is in slot i
abbrev pub SomeSlot : List (List ℕ) → ℕ → Type 0
SomeSlot slots i = SomeList (slice_index_or slots i [])

-- the operation s on the lists in slot left and in the next one leaves its result in slot left, or refuses
pub record Operates (s : Sign) (left : ℕ) (slots : List (List ℕ)) (r : Result Unit Refusal) (slots' : List (List ℕ)) : Type 0 where
  pub answered : IfOk r (λ _. (x y : List Pauli) → SlotHolds slots left x → SlotHolds slots (left + 1) y → Operated on_lists SlotHolds s x y left slots slots')
  pub refused : IfErr r (λ e. (x y : List Pauli) → SlotHolds slots left x → SlotHolds slots (left + 1) y → on_lists s x y ≡ refused (number_of e.reason) e.place)

-- ---- what an operation works on, and what it leaves

-- the list gs, over the places of qs, is the further list of the area x, n Paulis, and can be kept
pub record FurtherKeeps (qs : List ℕ) (x : List ℕ) (n : ℕ) (gs : List Pauli) : Type 0 where
  pub has : FurtherHas qs gs x n
  pub few : length gs ≤ 128
  pub values : map normal gs ≡ gs

-- so is some list
pub record SomeFurtherKeeps (qs : List ℕ) (x : List ℕ) (n : ℕ) : Type 0 where
  pub list : List Pauli
  pub keeps : FurtherKeeps qs x n list

-- the qubits of slot left and of the next one
abbrev pub LentPair : List (List ℕ) → ℕ → List (List ℕ) → Type 0
LentPair slots left numbers = Lent (slice_index_or slots left []) (slice_index_or numbers 0 []) × Lent (slice_index_or slots (left + 1) []) (slice_index_or numbers 1 [])

-- two sources have the lists x and y, and these can be joined
pub record Joins (pair : SourcePair) (x y : List Pauli) : Type 0 where
  pub left : listed pair.left ≡ x
  pub right : listed pair.right ≡ y
  pub within : (next : Told (List Pauli)) → joinable x y next ≡ next

-- the lists in slot left and in the next one, if they can be joined
pub record Pairs (left : ℕ) (slots : List (List ℕ)) (r : Result SourcePair Refusal) : Type 0 where
  pub joins : IfOk r (λ pair. (x y : List Pauli) → SlotHolds slots left x → SlotHolds slots (left + 1) y → Joins pair x y)
  pub refused : IfErr r (λ e. (x y : List Pauli) → SlotHolds slots left x → SlotHolds slots (left + 1) y → (next : Told (List Pauli)) → joinable x y next ≡ refused (number_of e.reason) e.place)
