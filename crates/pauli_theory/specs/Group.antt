-- The group that a list of Paulis generates: document 01, "Words of demand 3". Nothing here speaks of rows or of a step of an
-- algorithm: all is read off the list.
use Rattle.std.specs.Prelude.{◌≡◌, List, map, ℕ, ◌<◌, length, get_or}
use Rattle.pauli.specs.Support.{All}
use Rattle.pauli.specs.Pauli.{Pauli, I, Same, anticommute, product}

-- "the set of all products of finitely many of its generators, in any order, repeats allowed": p is the product of the
-- generators with these indexes
pub record Generated (gs : List Pauli) (p : Pauli) : Type 0 where
  pub indexes : List ℕ
  pub within : All (λ i. i < length gs) indexes
  pub equals : Same (product (map (λ i. get_or gs i I) indexes)) p

-- every element of the first group is one of the second
unfoldable pub Inside : List Pauli → List Pauli → Type 0
Inside gs hs = (p : Pauli) → Generated gs p → Generated hs p

-- the two lists generate the same group
pub record SameGroup (gs hs : List Pauli) : Type 0 where
  pub there : Inside gs hs
  pub back : Inside hs gs

-- "Abelian is true when no two generators of the list anticommute"
unfoldable pub Abelian : List Pauli → Type 0
Abelian gs = (i j : ℕ) → i < length gs → j < length gs → anticommute (get_or gs i I) (get_or gs j I) ≡ 0

-- "not abelian when some two do"
pub record NotAbelian (gs : List Pauli) : Type 0 where
  pub i : ℕ
  pub j : ℕ
  pub i_within : i < length gs
  pub j_within : j < length gs
  pub clash : anticommute (get_or gs i I) (get_or gs j I) ≡ 1

-- "A promise (none, abelian, not abelian)"
pub data Promise : Type 0 where
  none abelian not_abelian : Promise

-- a promise that is absent, or true of the list
unfoldable pub Honest : Promise → List Pauli → Type 0
Honest none gs = Unit {0}
Honest abelian gs = Abelian gs
Honest not_abelian gs = NotAbelian gs
