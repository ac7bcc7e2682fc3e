-- What a change of the page that count 0 means changes of the two calls with a page: document 02, L13, "Explicit counts are untouched". The number
-- that it meant before is a parameter. Of a call nothing is known but what its `ensures` says.
use Rattle.std.specs.Prelude.{◌≡◌, ◌*◌, ◌^◌, ◌-◌, ◌<◌, List, ℕ, length, min, drop, take, nat_lt, Result}
use Rattle.pauli.specs.Refusals.{told_of}
use Rattle.pauli.specs.Told.{Told, answer, refuse_if, and_then}
use Rattle.pauli.specs.Writing.{told_bytes, left_in}
use Rattle.pauli.specs.declared.refusal.Refusal.{Refusal}
use Rattle.pauli_theory.specs.Group.{Promise}
use Rattle.pauli_theory.specs.Listing.{largest_page, phase_count, elements_of}
use Rattle.pauli_theory.specs.Standard.{if_zero, rank}
use Rattle.pauli_group.specs.CallContracts.{ElementsCall}
use Rattle.pauli_group.specs.Calls.{one_list, list_bytes, most_listed}
use Rattle.pauli_group.specs.WorkArea.{area_after}
use Rattle.sizes.specs.SizeContracts.{PageSizeCall}

-- the size of a page, where count 0 means d: of a d that is 16, document 01's
unfoldable pub size_with : ℕ → ℕ → ℕ
size_with d count = if_zero count d (min count largest_page)

-- listing, where count 0 means d
unfoldable pub elements_with : ℕ → Promise → ℕ → ℕ → List ℕ → ℕ → Told (List ℕ)
elements_with d promise start count b words =
    and_then (one_list b words) λ gs. refuse_if (nat_lt most_listed (rank gs)) 10 0
    (answer (list_bytes (take (size_with d count) (drop start (elements_of promise gs)))))

-- the size of its page, before the work
unfoldable pub page_with : ℕ → Promise → ℕ → ℕ → List ℕ → ℕ → Told ℕ
page_with d promise start count b words =
    and_then (one_list b words) λ gs. refuse_if (nat_lt most_listed (rank gs)) 10 0
    (answer (min (size_with d count) (2 ^ rank gs * phase_count promise gs - start)))

-- what the two calls promised when count 0 meant d: answer, output and area
pub record ElementsWith (d : ℕ) (promise : Promise) (start count : ℕ) (b work out : List ℕ) (r : Result ℕ Refusal) (work' out' : List ℕ) : Type 0 where
  pub told : told_of r ≡ told_bytes (elements_with d promise start count b (length work)) out
  pub left : out' ≡ left_in (elements_with d promise start count b (length work)) out
  pub area : work' ≡ area_after (one_list b (length work)) work

pub record PageWith (d : ℕ) (promise : Promise) (start count : ℕ) (b work : List ℕ) (r : Result ℕ Refusal) (work' : List ℕ) : Type 0 where
  pub told : told_of r ≡ page_with d promise start count b (length work)
  pub area : work' ≡ area_after (one_list b (length work)) work

pub record DefaultPage (d : ℕ) : Type 0 where
  -- with an explicit count every answer, output and area is as before
  pub elements : (promise : Promise) (start count : ℕ) (b work out : List ℕ) (r : Result ℕ Refusal) (work' out' : List ℕ) → 0 < count
      → ElementsCall promise start count b work out r work' out' → ElementsWith d promise start count b work out r work' out'
  pub page_size : (promise : Promise) (start count : ℕ) (b work : List ℕ) (r : Result ℕ Refusal) (work' : List ℕ) → 0 < count
      → PageSizeCall promise start count b work r work' → PageWith d promise start count b work r work'
  -- "Count 0 in a listing shall mean 64 elements": every answer, output and area with count 0 is that with count 64, which is as before
  pub elements_zero : (promise : Promise) (start : ℕ) (b work out : List ℕ) (r : Result ℕ Refusal) (work' out' : List ℕ)
      → ElementsCall promise start 0 b work out r work' out' → ElementsCall promise start 64 b work out r work' out'
  pub page_zero : (promise : Promise) (start : ℕ) (b work : List ℕ) (r : Result ℕ Refusal) (work' : List ℕ)
      → PageSizeCall promise start 0 b work r work' → PageSizeCall promise start 64 b work r work'
