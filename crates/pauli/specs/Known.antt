-- The known qubit numbers, rising: at most one more than a list may have.
use Rattle.std.specs.Prelude.{◌≡◌, ℕ, suc, ◌≤◌, min, Bool, cond, not, List, [], ◌∷◌, length, ◌==◌, nat_lt}
use mathlib.Core.List.{Memᴰ as Mem}
use Rattle.pauli.specs.Support.{most_qubits, Rising}

-- the first place whose number passes the test, or the list's length
unfoldable pub first_place : (ℕ → Bool) → List ℕ → ℕ
first_place test [] = 0
first_place test (r ∷ rs) = cond (test r) 0 (suc (first_place test rs))

-- the place at which q is put into a rising list: how many numbers are below q
unfoldable pub lower : ℕ → List ℕ → ℕ
lower q l = first_place (λ r. not (nat_lt r q)) l

-- once the numbers S are gathered, at most one more than a list may have: those in qs are known, rising, each one of S, and they
-- are S if no more than a list may have
pub record Gathered (S qs : List ℕ) : Type 0 where
  pub count : length qs ≡ min (length S) (suc most_qubits)
  pub known : length S ≤ most_qubits → qs ≡ S
  pub among : (q : ℕ) → Mem q qs → Mem q S
  pub rises : Rising 0 qs

-- "A qubit's number and its place in the support are two counters, as in `condense` and `expand`": the place of qubit q, which is
-- the support's length if q is not in it; the qubit at place i is `get_or support i 0`
unfoldable pub place_of : List ℕ → ℕ → ℕ
place_of [] q = 0
place_of (r ∷ rs) q = cond (r == q) 0 (suc (place_of rs q))
