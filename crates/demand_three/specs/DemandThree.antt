-- Demand 3, sentence by sentence. Of a call nothing is known but what its `ensures` clauses say (specs/Contracts.antt of each crate), whatever
-- it was lent, answered and left. The answers are measured by what is read off the rolls alone: the Paulis that they hold, products
-- of generators, and bytes. What is said of any lists holds of A, of B and of the joined list; the limits of demand 3 are assumed
-- only where they rule out the refusals 2 and 7.
use Rattle.std.specs.Prelude.{◌≡◌, List, [], ◌∷◌, ◌++◌, map, ℕ, zero, suc, ◌+◌, ◌*◌, ◌≤◌, ◌<◌, ltb, length, get_or, take, Result, Option as CodeOption}
use Rattle.std.proofs.Math.Option.{Option, some, none}
use Rattle.pauli.specs.Bytes.{u16_at}
use Rattle.pauli.specs.Condense.{nothing}
use Rattle.pauli.specs.Pauli.{Pauli, I, Same, turned, product}
use Rattle.pauli.specs.Roll.{Sparse, support, read, by_value, write}
use Rattle.pauli.specs.Support.{All, Rising}
use Rattle.pauli.specs.Sets.{pauli_of}
use Rattle.pauli.specs.Told.{Told, answer, refuse_if}
use Rattle.pauli_theory.specs.Group.{Generated, SameGroup, Promise, Honest}
use Rattle.pauli_theory.specs.Order.{Order, equal, less}
use Rattle.pauli_group.specs.Calls.{paulis, Factored}
use Rattle.pauli_group.specs.CallContracts.{StandardCall, MemberCall, OrderCall}
use Rattle.pauli.specs.JoinContract.{JoinCall}
use Rattle.pauli_group.specs.declared.answers.Factors.{Factors}
use Rattle.std.specs.declared.cmp.Ordering.{Ordering}
use Rattle.pauli.specs.declared.refusal.Refusal.{Refusal}
use Rattle.pauli_group.specs.Answers.{factored_in, order_of}
use Rattle.pauli.specs.Refusals.{told_by, told_of}

-- ---- lists and elements

-- a list as calls are given it: "the Paulis of a roll in its order, accepted when none of 1 to 7 refuses the roll", "with no
-- abelian promise or a true one"
pub record Generators : Type 0 where
  pub roll : List ℕ
  pub held : List Sparse
  pub accepted : read roll ≡ answer held
  pub promise : Promise
  pub honest : Honest promise (paulis held)

abbrev pub list : Generators → List Pauli
list A = paulis A.held

-- "An element is any Pauli of an accepted roll, on whatever qubits", "named by a roll and its number in that roll"
pub record Element : Type 0 where
  pub roll : List ℕ
  pub held : List Sparse
  pub accepted : read roll ≡ answer held
  pub number : ℕ
  pub within : number < length held

abbrev pub pauli : Element → Pauli
pauli x = pauli_of (get_or x.held x.number nothing)

-- generator i of a list, as an element
abbrev pub generator : (A : Generators) (i : ℕ) → i < length A.held → Element
generator A i h = record { roll = A.roll; held = A.held; accepted = A.accepted; number = i; within = h }

-- ---- calls: what each was lent, what it answered and what it left, as its contract promises

-- membership: is x a member of A?
pub record Asked (A : Generators) (x : Element) : Type 0 where
  pub work : List ℕ
  pub out : List ℕ
  pub found : Result (CodeOption Factors) Refusal
  pub work' : List ℕ
  pub out' : List ℕ
  pub promised : MemberCall A.promise A.roll x.roll x.number work out found work' out'

-- standard generators: those of A
pub record Standardized (A : Generators) : Type 0 where
  pub work : List ℕ
  pub out : List ℕ
  pub wrote : Result ℕ Refusal
  pub work' : List ℕ
  pub out' : List ℕ
  pub promised : StandardCall A.roll work out wrote work' out'

-- joining: A, then B
pub record Joining (A B : Generators) : Type 0 where
  pub out : List ℕ
  pub wrote : Result ℕ Refusal
  pub out' : List ℕ
  pub promised : JoinCall A.roll B.roll out wrote out'

-- comparison: A left, J right
pub record Comparing (A J : Generators) : Type 0 where
  pub work : List ℕ
  pub found : Result (CodeOption Ordering) Refusal
  pub work' : List ℕ
  pub promised : OrderCall A.promise J.promise A.roll J.roll work found work'

-- ---- the words of demand 3

-- "A member is an element for which membership returns indexes and exponent": so does every call that is lent 4,096 words and
-- two bytes for each index that there can be
unfoldable pub Member : Generators → Element → Type 0
Member A x =
    (c : Asked A x) → 4096 ≤ length c.work → 256 ≤ length c.out → (f : Factored) × (told_by factored_in c.found ≡ answer (some f))

-- "every generator of B is a member of A"
unfoldable pub AllMembers : Generators → Generators → Type 0
AllMembers A B = (i : ℕ) (h : i < length B.held) → Member A (generator B i h)

-- "The joined list is that of the roll that joining writes [..]; its promise is the one its calls are given": joining A and B told a
-- size, and J's roll is the bytes that it left at the front of its output, so many
pub record JoinedList (A B J : Generators) : Type 0 where
  pub call : Joining A B
  pub size : ℕ
  pub told : told_of call.wrote ≡ answer size
  pub bytes : J.roll ≡ take size call.out'

-- "of at most 40 generators each, on at most 128 qubits together"
pub record Limits (A B : Generators) : Type 0 where
  pub left : length A.held ≤ 40
  pub right : length B.held ≤ 40
  pub qubits : length (support (A.held ++ B.held)) ≤ 128

-- n numbers of two bytes each, from byte i on: so the indexes are given
unfoldable pub indexes_at : List ℕ → ℕ → ℕ → List ℕ
indexes_at b i zero = []
indexes_at b i (suc n) = u16_at b i ∷ indexes_at b (i + 2) n

-- as many indexes as is told, rising; the product of the generators at these, times i to the exponent told, is p
pub record Gives (gs : List Pauli) (indexes : List ℕ) (f : Factored) (p : Pauli) : Type 0 where
  pub count : length indexes ≡ f.count
  pub rising : Rising 0 indexes
  pub within : All (λ i. i < length gs) indexes
  pub value : f.exponent < 4
  pub equals : Same (turned f.exponent (product (map (λ i. get_or gs i I) indexes))) p

-- refused with 9 where the work area is under 4,096 words; else go on
unfoldable pub if_area : {X : Type 0} → List ℕ → Told X → Told X
if_area work next = refuse_if (ltb (length work) 4096) 9 0 next

-- refused with 12 where the output is shorter than the result, of so many bytes; else answered
unfoldable pub if_room : {X : Type 0} → List ℕ → ℕ → X → Told X
if_room out size result = refuse_if (ltb (length out) size) 12 0 (answer result)

-- the result takes two bytes for each index; "not a member" takes none
unfoldable pub bytes_of : Option Factored → ℕ
bytes_of none = 0
bytes_of (some f) = 2 * f.count

pub record Demand3 : Type 0 where
  -- "it is answered a member of A exactly when a finite product of A's generators (repeats allowed, the empty one is I) equals it,
  -- sign included". "The same holds of B and of the joined list, each by its own generators": A stands for each of the three
  pub member_when : (A : Generators) (x : Element) → Generated (list A) (pauli x) → Member A x
  pub member_only : (A : Generators) (x : Element) → Member A x → Generated (list A) (pauli x)
  -- and so of every answer, with however short an output
  pub indexes_only : (A : Generators) (x : Element) (c : Asked A x) (f : Factored) → told_by factored_in c.found ≡ answer (some f)
      → Generated (list A) (pauli x)
  pub none_only : (A : Generators) (x : Element) (c : Asked A x) → told_by factored_in c.found ≡ answer none
      → Generated (list A) (pauli x) → ⊥
  -- "the product of the generators at the indexes given, in rising order, times i to the exponent given is then the element"
  pub product_is : (A : Generators) (x : Element) (c : Asked A x) (f : Factored) → told_by factored_in c.found ≡ answer (some f)
      → Gives (list A) (indexes_at c.out' 0 f.count) f (pauli x)
  -- "A's generators, then B's, with indexes counted through both": the joined roll is accepted and holds these, exponents by value
  pub joined_list : (A B : Generators) (c : Joining A B) (n : ℕ) → told_of c.wrote ≡ answer n
      → read (take n c.out') ≡ answer (map by_value (A.held ++ B.held))
  -- "joining turns no member of A or B into a non-member"
  pub joined_left : (A B J : Generators) → JoinedList A B J → (x : Element) → Member A x → Member J x
  pub joined_right : (A B J : Generators) → JoinedList A B J → (x : Element) → Member B x → Member J x
  -- "A compares equal to the joined list exactly when every generator of B is a member of A, else less"
  pub equal_when : (A B J : Generators) → JoinedList A B J → (c : Comparing A J) (o : Order) → told_by order_of c.found ≡ answer o
      → AllMembers A B → o ≡ equal
  pub equal_only : (A B J : Generators) → JoinedList A B J → (c : Comparing A J) (o : Order) → told_by order_of c.found ≡ answer o
      → o ≡ equal → AllMembers A B
  pub else_less : (A B J : Generators) → JoinedList A B J → (c : Comparing A J) (o : Order) → told_by order_of c.found ≡ answer o
      → (AllMembers A B → ⊥) → o ≡ less
  -- "A and B get the same bytes as standard generators exactly when they generate the same group"
  pub same_bytes : (A B : Generators) (c : Standardized A) (d : Standardized B) (m n : ℕ) → told_of c.wrote ≡ answer m
      → told_of d.wrote ≡ answer n → SameGroup (list A) (list B) → take m c.out' ≡ take n d.out'
  pub same_group : (A B : Generators) (c : Standardized A) (d : Standardized B) (m n : ℕ) → told_of c.wrote ≡ answer m
      → told_of d.wrote ≡ answer n → take m c.out' ≡ take n d.out' → SameGroup (list A) (list B)
  -- "Demand 3 speaks of answers; a call may still be refused with 9 or 12, exactly as in the table": but for these refusals, all
  -- calls on the same lists, and about the same element, tell the same
  pub asked_told : (A : Generators) (x : Element) → (r : Option Factored)
      × ((c : Asked A x) → told_by factored_in c.found ≡ if_area c.work (if_room c.out (bytes_of r) r))
  pub standard_told : (A : Generators) → (n : ℕ)
      × ((c : Standardized A) → told_of c.wrote ≡ if_area c.work (if_room c.out n n))
  pub joining_told : (A B : Generators) → Limits A B → (c : Joining A B)
      → let n = length (write (A.held ++ B.held)) in told_of c.wrote ≡ if_room c.out n n
  pub comparing_told : (A B J : Generators) → Limits A B → JoinedList A B J → (o : Order)
      × ((c : Comparing A J) → told_by order_of c.found ≡ if_area c.work (answer o))
