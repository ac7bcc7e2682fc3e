-- The remainder of a list by another, in the work area.
use Rattle.std.specs.Prelude.{ℕ, Bool, cond, ◌+◌, ◌*◌, ◌<◌, ◌≤◌, List, map, length, take, drop, slice_index}
use mathlib.Core.List.{Memᴰ as Mem}
use Rattle.binar.specs.Row.{bit, if_bit}
use Rattle.pauli.specs.Support.{Rising}
use Rattle.pauli.specs.Pauli.{Pauli}
use Rattle.pauli.specs.Signed.{list_in, times_stored}
use Rattle.pauli.specs.Writing.{OnPlaces}
use Rattle.pauli_theory.specs.Inner.ModuloPlaces.{moved_pauli, multiplied_by_all_over}
use Rattle.pauli_group.specs.Inner.Area.{standard_at, stride_of}

-- g times other as it is stored, if g has a one at the place: in x for true, in z for false
unfoldable pub multiplied_stored : Bool → ℕ → Pauli → Pauli → Pauli
multiplied_stored is_x place other g = if_bit (cond is_x (bit g.x place) (bit g.z place)) (times_stored g other) g

-- the form and the standard generators of a list of n in the area x, over the places of own, whose numbers are all in qs
pub record Other (own qs x : List ℕ) (n rank total : ℕ) : Type 0 where
  pub own_rises : Rising 0 own
  pub rises : Rising 0 qs
  pub inside : (q : ℕ) → Mem q own → Mem q qs
  pub fits : rank ≤ total
  pub few : total ≤ 128
  pub list_few : n ≤ 128
  pub on : OnPlaces (length own) (list_in x standard_at total)
  pub pivots : (k : ℕ) → k < rank → slice_index x (n * stride_of n + k) < 2 * length own

-- the Paulis gs over the places of qs, each multiplied by the standard generators at whose pivots it has a one, in turn
unfoldable pub remainder_by : List ℕ → List ℕ → List ℕ → ℕ → ℕ → ℕ → List Pauli → List Pauli
remainder_by own qs x n rank total gs =
    multiplied_by_all_over own qs (map (moved_pauli own qs) (list_in x standard_at total)) (take rank (drop (n * stride_of n) x)) gs
