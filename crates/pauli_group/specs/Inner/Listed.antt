-- The listing in the work area.
use Rattle.std.specs.Prelude.{◌≡◌, ℕ, zero, suc, ◌*◌, ◌/◌, ◌%◌, ◌≤◌, List, [], ◌∷◌, length, slice_index}
use Rattle.pauli.specs.Pauli.{Pauli, turned, indexed_product}
use Rattle.pauli_theory.specs.Listing.{binomial, subset_at}

-- a slice of 17 words holds row n of Pascal's triangle
pub record RowOf (n : ℕ) (row : List ℕ) : Type 0 where
  pub size : length row ≡ 17
  pub entries : (k : ℕ) → k ≤ 16 → slice_index row k ≡ binomial n k

-- element i of a group of this rank, with so many phases at this step, by the standard generators ps
unfoldable pub element_at : ℕ → ℕ → ℕ → List Pauli → ℕ → Pauli
element_at rank phases step ps i = turned (step * (i % phases)) (indexed_product (subset_at rank (i / phases)) ps)

-- the n elements from number i on
unfoldable pub elements_from : ℕ → ℕ → ℕ → List Pauli → ℕ → ℕ → List Pauli
elements_from rank phases step ps i zero = []
elements_from rank phases step ps i (suc n) = element_at rank phases step ps i ∷ elements_from rank phases step ps (suc i) n
