-- The results of a whole roll of elements. Of a call nothing is known but what its `ensures` says, whatever it was lent,
-- answered and left, and with any promise, be it true or false. The results are measured by the single call's, and by bytes alone.
use Rattle.std.specs.Prelude.{◌≡◌, List, [], ◌∷◌, ◌++◌, ℕ, zero, suc, ◌+◌, ◌*◌, ◌≤◌, ◌<◌, length, get_or, take, drop, Result, Option as CodeOption}
use Rattle.std.proofs.Math.Option.{Option, some, none}
use Rattle.pauli.specs.Bytes.{u16_at, le16}
use Rattle.pauli.specs.Roll.{Sparse, read}
use Rattle.pauli.specs.Told.{answer}
use Rattle.pauli_theory.specs.Group.{Generated, Promise}
use Rattle.pauli_theory.specs.Standard.{if_zero}
use Rattle.pauli_group.specs.CallContracts.{MemberCall}
use Rattle.pauli_group.specs.Calls.{Factored}
use Rattle.factorizations.specs.Calls.{Totals}
use Rattle.factorizations.specs.Contract.{FactorizationsCall}
use Rattle.demand_three.specs.DemandThree.{Generators, list, Element, pauli, indexes_at, Gives}
use Rattle.pauli_group.specs.declared.answers.Factors.{Factors}
use Rattle.pauli.specs.declared.refusal.Refusal.{Refusal}
use Rattle.factorizations.specs.declared.answers.Results.{Results}
use Rattle.pauli_group.specs.Answers.{factored_in}
use Rattle.pauli.specs.Refusals.{told_by}
use Rattle.factorizations.specs.Answers.{totals_in}

-- ---- results read from bytes alone

-- how many bytes the result at the front of b takes: one for a non-member; else four, and two for each index
unfoldable pub size_in : List ℕ → ℕ
size_in b = if_zero (get_or b 0 0) 1 (4 + 2 * u16_at b 2)

-- the results that stand in b one behind the other until the bytes end, k at most: the one at the front, then those behind it
unfoldable pub results_up_to : ℕ → List ℕ → List (List ℕ)
results_up_to zero b = []
results_up_to (suc k) [] = []
results_up_to (suc k) (a ∷ b) = let n = size_in (a ∷ b) in take n (a ∷ b) ∷ results_up_to k (drop n (a ∷ b))

-- all of them: each takes a byte or more
unfoldable pub results_in : List ℕ → List (List ℕ)
results_in b = results_up_to (length b) b

-- results one behind the other
unfoldable pub together : List (List ℕ) → List ℕ
together [] = []
together (r ∷ rs) = r ++ together rs

-- what a member's result tells: "exponent (1 byte), index count (2) and the indexes (2 each), little-endian"
unfoldable pub factors_in : List ℕ → Factored
factors_in r = record { count = u16_at r 2; exponent = get_or r 1 0 }

unfoldable pub indexes_in : List ℕ → List ℕ
indexes_in r = indexes_at r 4 (u16_at r 2)

-- ---- calls: what each was lent, what it answered and what it left, as its contract promises

-- all elements of the roll e, put to the generators of the roll b: a call that is answered
pub record Answered (promise : Promise) (b e : List ℕ) : Type 0 where
  pub work : List ℕ
  pub out : List ℕ
  pub found : Result Results Refusal
  pub work' : List ℕ
  pub out' : List ℕ
  pub promised : FactorizationsCall promise b e work out found work' out'
  pub totals : Totals
  pub told : told_by totals_in found ≡ answer totals

-- the bytes that it left, as many as it told
abbrev pub bytes : {promise : Promise} {b e : List ℕ} → Answered promise b e → List ℕ
bytes c = take c.totals.bytes c.out'

-- result number n, cut from these
abbrev pub result : {promise : Promise} {b e : List ℕ} → Answered promise b e → ℕ → List ℕ
result c n = get_or (results_in (bytes c)) n []

-- element n alone, with 4,096 words and two bytes for each index that there can be
pub record Single (promise : Promise) (b e : List ℕ) (n : ℕ) : Type 0 where
  pub work : List ℕ
  pub out : List ℕ
  pub found : Result (CodeOption Factors) Refusal
  pub work' : List ℕ
  pub out' : List ℕ
  pub promised : MemberCall promise b e n work out found work' out'
  pub words : 4096 ≤ length work
  pub room : 256 ≤ length out

-- "byte 0 for a non-member, else byte 1, exponent (1 byte), index count (2) and the indexes (2 each)": by what the single call answers,
-- and as many bytes of what it leaves in its output as its indexes take
unfoldable pub result_of : Option Factored → List ℕ → List ℕ
result_of none out' = 0 ∷ []
result_of (some f) out' = 1 ∷ f.exponent ∷ le16 f.count ++ take (2 * f.count) out'

pub record ManyElements : Type 0 where
  -- accepted rolls are answered, with 4,096 words and 260 bytes for each element
  pub always_answered : (promise : Promise) (b e work out : List ℕ) (found : Result Results Refusal) (work' out' : List ℕ)
      → FactorizationsCall promise b e work out found work' out' → (gs es : List Sparse) → read b ≡ answer gs → read e ≡ answer es
      → 4096 ≤ length work → 260 * length es ≤ length out → (t : Totals) × (told_by totals_in found ≡ answer t)
  -- "one result per element out"
  pub count : (promise : Promise) (b e : List ℕ) (c : Answered promise b e) (es : List Sparse) → read e ≡ answer es
      → c.totals.count ≡ length es
  -- the bytes alone tell the results apart: as many as are told, and nothing follows
  pub as_many : (promise : Promise) (b e : List ℕ) (c : Answered promise b e) → length (results_in (bytes c)) ≡ c.totals.count
  pub nothing_else : (promise : Promise) (b e : List ℕ) (c : Answered promise b e) → together (results_in (bytes c)) ≡ bytes c
  pub all_there : (promise : Promise) (b e : List ℕ) (c : Answered promise b e) → length (bytes c) ≡ c.totals.bytes
  -- "in order. Each result equals that of the single call, members and non-members mixed": byte for byte
  pub equals : (promise : Promise) (b e : List ℕ) (c : Answered promise b e) (n : ℕ) → n < c.totals.count → (s : Single promise b e n)
      → (r : Option Factored) × (told_by factored_in s.found ≡ answer r) × (result c n ≡ result_of r s.out')
  -- byte 0 exactly where the single call answers "not a member"
  pub zero_when : (promise : Promise) (b e : List ℕ) (c : Answered promise b e) (n : ℕ) → n < c.totals.count → (s : Single promise b e n)
      → told_by factored_in s.found ≡ answer none → result c n ≡ 0 ∷ []
  pub zero_only : (promise : Promise) (b e : List ℕ) (c : Answered promise b e) (n : ℕ) → n < c.totals.count → (s : Single promise b e n)
      → get_or (result c n) 0 0 ≡ 0 → told_by factored_in s.found ≡ answer none
  -- so demand 3 holds of each result, with no abelian promise or a true one: a member's exactly where a product of generators is the element
  pub member_when : (A : Generators) (x : Element) (c : Answered A.promise A.roll x.roll) → Generated (list A) (pauli x)
      → get_or (result c x.number) 0 0 ≡ 1
  pub member_only : (A : Generators) (x : Element) (c : Answered A.promise A.roll x.roll)
      → get_or (result c x.number) 0 0 ≡ 1 → Generated (list A) (pauli x)
  -- and then the product of the generators at its indexes, times i to its exponent, is the element
  pub product_is : (A : Generators) (x : Element) (c : Answered A.promise A.roll x.roll) → get_or (result c x.number) 0 0 ≡ 1
      → Gives (list A) (indexes_in (result c x.number)) (factors_in (result c x.number)) (pauli x)
