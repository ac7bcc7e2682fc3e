-- Sets of places and Paulis moved from the places of one list of qubits to those of another.
use Rattle.std.specs.Prelude.{◌≡◌, ℕ, ◌<◌, List, length, slice_index}
use mathlib.Core.List.{Memᴰ as Mem}
use Rattle.binar.specs.Row.{bit}
use Rattle.pauli.specs.Support.{Rising}
use Rattle.pauli.specs.Pauli.{Pauli}

-- the qubits of the set v of places of the list own are all in the list qs; both lists rise
pub record Movable (own qs : List ℕ) (v : ℕ) : Type 0 where
  pub own_rises : Rising 0 own
  pub rises : Rising 0 qs
  pub inside : (i : ℕ) → i < length own → bit v i ≡ 1 → Mem (slice_index own i) qs

-- so are those of a Pauli
abbrev pub MovablePauli : List ℕ → List ℕ → Pauli → Type 0
MovablePauli own qs p = Movable own qs p.x × Movable own qs p.z
