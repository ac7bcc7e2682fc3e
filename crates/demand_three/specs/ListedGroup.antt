-- The listing is the group, and a group modulo another: document 02, L14, sentence by sentence. Of a call nothing is known but what its
-- `ensures` says, whatever it was lent, answered and left. The words are those of DemandThree: the promise of each list is "a true or
-- absent promise". "For rank up to 16" is no premise, since no page is told above it.
use Rattle.std.specs.Prelude.{◌≡◌, List, [], ◌∷◌, ◌++◌, map, ℕ, suc, ◌+◌, ◌*◌, ◌^◌, ◌≤◌, ◌<◌, length, get_or, take, Result}
use Rattle.binar.specs.Row.{bit}
use Rattle.binar.specs.Space.{SameSpace, ReducedForm}
use Rattle.pauli.specs.Pauli.{Pauli, I, phase, Same}
use Rattle.pauli.specs.Refusals.{told_of}
use Rattle.pauli.specs.Roll.{Sparse, support, read}
use Rattle.pauli.specs.Sets.{row_of}
use Rattle.pauli.specs.Support.{All}
use Rattle.pauli.specs.Told.{answer, refused}
use Rattle.pauli.specs.declared.refusal.Refusal.{Refusal}
use Rattle.pauli_theory.specs.Group.{Generated, SameGroup, Promise, abelian, not_abelian}
use Rattle.pauli_theory.specs.Marked.{on_x, on_z, on_xz, next_x, minus_next_x}
use Rattle.pauli_group.specs.CallContracts.{ElementsCall, RankCall, SizeCall, ModuloCall}
use Rattle.pauli_group.specs.Calls.{paulis, list_bytes, elements_call, modulo_call}
use Rattle.demand_three.specs.DemandThree.{Generators, list, Element, pauli, Member, JoinedList, Limits, if_area, if_room}

-- ---- calls: what each was lent, what it answered and what it left, as its contract promises

-- listing: a page of A, from number `start` on; any count, 0 and above 128 included
pub record Paging (A : Generators) (start count : ℕ) : Type 0 where
  pub work : List ℕ
  pub out : List ℕ
  pub wrote : Result ℕ Refusal
  pub work' : List ℕ
  pub out' : List ℕ
  pub promised : ElementsCall A.promise start count A.roll work out wrote work' out'

-- the rank of A
pub record Ranking (A : Generators) : Type 0 where
  pub work : List ℕ
  pub found : Result ℕ Refusal
  pub work' : List ℕ
  pub promised : RankCall A.roll work found work'

-- the log2 size of A
pub record Sizing (A : Generators) : Type 0 where
  pub work : List ℕ
  pub found : Result ℕ Refusal
  pub work' : List ℕ
  pub promised : SizeCall A.promise A.roll work found work'

-- modulo: A by B
pub record Dividing (A B : Generators) : Type 0 where
  pub work : List ℕ
  pub out : List ℕ
  pub wrote : Result ℕ Refusal
  pub work' : List ℕ
  pub out' : List ℕ
  pub promised : ModuloCall B.promise A.roll B.roll work out wrote work' out'

-- ---- pages

-- a page from number `start` on: its call told a size, and its roll, so many bytes at the front of the output that was left, holds these
-- Paulis
pub record Page (A : Generators) (start : ℕ) : Type 0 where
  pub count : ℕ
  pub call : Paging A start count
  pub size : ℕ
  pub told : told_of call.wrote ≡ answer size
  pub held : List Sparse
  pub accepted : read (take size call.out') ≡ answer held

-- Pauli i of a page, as an element: named by the page's roll and its number in that roll
abbrev pub on_page : {A : Generators} {start : ℕ} (p : Page A start) (i : ℕ) → i < length p.held → Element
on_page p i h = record { roll = take p.size p.call.out'; held = p.held; accepted = p.accepted; number = i; within = h }

-- "pages in a row": each starts where the one before ended, until a page is empty; the first starts at number `start`
pub data Pages (A : Generators) : ℕ → Type 0 where
  last : {start : ℕ} (p : Page A start) → p.held ≡ [] → Pages A start
  next : {start : ℕ} (p : Page A start) → Pages A (start + length p.held) → Pages A start

-- the Paulis in the rolls written, one page after the other
unfoldable pub collected : {A : Generators} {start : ℕ} → Pages A start → List Pauli
collected (last p e) = paulis p.held
collected (next p more) = paulis p.held ++ collected more

-- the caller's counts: that of the first of these pages is count number n, and so on
unfoldable pub Counted : {A : Generators} {start : ℕ} → (ℕ → ℕ) → ℕ → Pages A start → Type 0
Counted counts n (last p e) = p.count ≡ counts n
Counted counts n (next p more) = (p.count ≡ counts n) × Counted counts (suc n) more

-- ---- modulo

-- a call for A modulo B told a size, and C's roll is the bytes that it left at the front of its output, so many
pub record RemainderList (A B C : Generators) : Type 0 where
  pub call : Dividing A B
  pub size : ℕ
  pub told : told_of call.wrote ≡ answer size
  pub bytes : C.roll ≡ take size call.out'

-- a Pauli over B's support: "column p is X at place p, column s + p is Z, where s is the support's size"
abbrev pub row_over : Generators → Pauli → ℕ
row_over B p = row_of (support B.held) p

-- the pivots of B, without an algorithm: the columns of the first ones of a matrix in reduced row echelon form that has the row space of
-- B's generators
pub record Pivots (B : Generators) : Type 0 where
  pub rows : List ℕ
  pub columns : List ℕ
  pub form : ReducedForm (2 * length (support B.held)) rows columns
  pub space : SameSpace (map (row_over B) (list B)) rows

-- ---- false promises

-- the rolls of [X, Z] and [X] on qubit 0, and of [-X] on qubit 1
abbrev pub x_z_roll : List ℕ
x_z_roll = list_bytes (on_x 0 ∷ on_z 0 ∷ [])

abbrev pub x_roll : List ℕ
x_roll = list_bytes (on_x 0 ∷ [])

abbrev pub minus_next_x_roll : List ℕ
minus_next_x_roll = list_bytes (minus_next_x ∷ [])

-- what the calls write for these, which goes by the promise
pub record FalsePromises : Type 0 where
  -- [X, Z] promised abelian lists 4 of 8
  pub four : elements_call abelian 0 8 x_z_roll 4096 ≡ answer (list_bytes (I ∷ on_x 0 ∷ on_z 0 ∷ on_xz 0 ∷ []))
  pub no_more : elements_call abelian 4 8 x_z_roll 4096 ≡ answer (list_bytes [])
  pub eight : elements_call Promise.none 0 8 x_z_roll 4096
      ≡ answer (list_bytes (I ∷ phase 2 ∷ on_x 0 ∷ on_x 2 ∷ on_z 0 ∷ on_z 2 ∷ on_xz 0 ∷ on_xz 2 ∷ []))
  -- [-X1] modulo [X0] promised not abelian gives X1: with X0 it does not generate -X1
  pub sign_lost : modulo_call not_abelian minus_next_x_roll x_roll 4096 ≡ answer (list_bytes (next_x ∷ []))
  pub not_generated : Generated (next_x ∷ on_x 0 ∷ []) minus_next_x → ⊥
  pub sign_kept : modulo_call Promise.none minus_next_x_roll x_roll 4096 ≡ answer (list_bytes (minus_next_x ∷ []))

pub record ListedGroup : Type 0 where
  -- none of 1 to 7 refuses the roll of a page
  pub page_accepted : (A : Generators) (start count : ℕ) (c : Paging A start count) (n : ℕ) → told_of c.wrote ≡ answer n
      → (ps : List Sparse) × (read (take n c.out') ≡ answer ps)
  -- "all pages in a row hold every member": some Pauli in them equals it
  pub every : (A : Generators) (row : Pages A 0) (x : Element) → Member A x
      → (i : ℕ) × (i < length (collected row)) × Same (get_or (collected row) i I) (pauli x)
  -- "exactly once": no two in them are equal
  pub once : (A : Generators) (row : Pages A 0) (i j : ℕ) → i < length (collected row) → j < length (collected row)
      → Same (get_or (collected row) i I) (get_or (collected row) j I) → i ≡ j
  -- "and no other": each Pauli of each page, in a row or not, is a member
  pub no_other : (A : Generators) (start : ℕ) (p : Page A start) (i : ℕ) (h : i < length p.held) → Member A (on_page p i h)
  -- "2 to the power of the log2 size in number"
  pub count : (A : Generators) (row : Pages A 0) (c : Sizing A) (k : ℕ) → told_of c.found ≡ answer k → length (collected row) ≡ 2 ^ k
  pub size_told : (A : Generators) → (k : ℕ) × ((c : Sizing A) → told_of c.found ≡ if_area c.work (answer k))
  -- at most 2^18: so each start, as many as there are Paulis before it, is a number of 32 bits
  pub few : (A : Generators) (row : Pages A 0) → length (collected row) ≤ 2 ^ 18
  -- "for rank up to 16": a page that is told says so. Up to it only a short work area (9) or output (12) is refused, whatever the start and
  -- the count; above it each page is, with 10
  pub rank_told : (A : Generators) → (r : ℕ) × ((c : Ranking A) → told_of c.found ≡ if_area c.work (answer r))
  pub low_rank : (A : Generators) (start : ℕ) → Page A start → (c : Ranking A) (r : ℕ) → told_of c.found ≡ answer r → r ≤ 16
  pub page_told : (A : Generators) (c : Ranking A) (r : ℕ) → told_of c.found ≡ answer r → r ≤ 16 → (start count : ℕ)
      → (n : ℕ) × ((p : Paging A start count) → told_of p.wrote ≡ if_area p.work (if_room p.out n n))
  pub page_refused : (A : Generators) (c : Ranking A) (r : ℕ) → told_of c.found ≡ answer r → 16 < r → (start count : ℕ)
      → (p : Paging A start count) → told_of p.wrote ≡ if_area p.work (refused 10 0)
  -- so there is a row of pages, with whatever counts
  pub a_row : (A : Generators) (c : Ranking A) (r : ℕ) → told_of c.found ≡ answer r → r ≤ 16 → (counts : ℕ → ℕ)
      → (row : Pages A 0) × Counted counts 0 row
  -- none of 1 to 7 refuses the roll of A modulo B
  pub modulo_accepted : (A B : Generators) (c : Dividing A B) (n : ℕ) → told_of c.wrote ≡ answer n
      → (ps : List Sparse) × (read (take n c.out') ≡ answer ps)
  -- "a group modulo another, taken together with that other, generates what the two do"
  pub generates : (A B C : Generators) → RemainderList A B C → SameGroup (list C ++ list B) (list A ++ list B)
  -- so what is a member of the two joined lists, each by its call
  pub joined_there : (A B C J K : Generators) → RemainderList A B C → JoinedList C B J → JoinedList A B K
      → (x : Element) → Member J x → Member K x
  pub joined_back : (A B C J K : Generators) → RemainderList A B C → JoinedList C B J → JoinedList A B K
      → (x : Element) → Member K x → Member J x
  -- "no generator it returns has a one at a pivot of the other"
  pub clear : (A B C : Generators) → RemainderList A B C → (P : Pivots B)
      → All (λ p. All (λ c. bit (row_over B p) c ≡ 0) P.columns) (list C)
  -- there are pivots, and no others
  pub pivots : (B : Generators) → Pivots B
  pub same_pivots : (B : Generators) (P Q : Pivots B) → P.columns ≡ Q.columns
  -- within the limits of demand 3 only a short work area (9) or output (12) is refused; else all calls for A modulo B tell the same
  pub modulo_told : (A B : Generators) → Limits A B → (n : ℕ) × ((c : Dividing A B) → told_of c.wrote ≡ if_area c.work (if_room c.out n n))
  -- with a false promise neither need hold
  pub false_promises : FalsePromises
