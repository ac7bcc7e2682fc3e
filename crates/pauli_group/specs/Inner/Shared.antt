-- The common part of two groups, in the work area.
use Rattle.std.specs.Prelude.{◌≡◌, ℕ, ◌+◌, ◌*◌, ◌<◌, ◌≤◌, List, ◌++◌, map, length, slice_index}
use Rattle.binar.specs.Layout.{form_in, FormLeft}
use Rattle.pauli.specs.Pauli.{Pauli}
use Rattle.pauli.specs.Signed.{pauli_in, list_in}
use Rattle.pauli_theory.specs.Standard.{support_of, standard}
use Rattle.pauli_theory.specs.Inner.CommonPlaces.{form_of_places, common_products, solved_exponent}
use Rattle.pauli_theory.specs.Inner.ModuloPlaces.{moved_pauli}
use Rattle.pauli_group.specs.Inner.Area.{target_at, list_at, further_at, row_words, stride_of}
use Rattle.pauli_group.specs.Inner.Groups.{over_support}

-- ---- the common basis

-- the numbers in qs are the support of the two lists joined
pub record Joint (gs hs : List Pauli) (qs : List ℕ) : Type 0 where
  pub support : qs ≡ support_of (gs ++ hs)
  pub count : length qs ≡ length (support_of (gs ++ hs))
  pub few : length qs ≤ 128

-- the standard generators of ks over the places of qs
unfoldable pub standard_over : List ℕ → List Pauli → List Pauli
standard_over qs ks = map (moved_pauli (support_of ks) qs) (standard (over_support ks))

-- the standard generators of the left list and then those of the right one, over the places of the joined support, in the area x
pub record Stack (gs hs : List Pauli) (x : List ℕ) (first second : ℕ) : Type 0 where
  pub first_is : first ≡ length (standard gs)
  pub second_is : second ≡ length (standard hs)
  pub left : list_in x further_at first ≡ standard_over (support_of (gs ++ hs)) gs
  pub right : list_in x (further_at + 5 * first) second ≡ standard_over (support_of (gs ++ hs)) hs

-- the common basis over the places of the joined support, up to exponents
unfoldable pub basis_over : List Pauli → List Pauli → List Pauli
basis_over gs hs = let qs = support_of (gs ++ hs) in common_products (length qs) (standard_over qs gs) (standard_over qs hs)

-- ---- the exponents of its elements

-- the list of n Paulis over so many places in the area x, and its form, by which an element can be solved for
pub record Solving (x : List ℕ) (n places rank : ℕ) : Type 0 where
  pub form : form_in (stride_of n) n row_words (2 * places) rank x ≡ form_of_places places (list_in x list_at n)
  pub solvable : FormLeft x (stride_of n) n (2 * places) rank target_at
  pub few : n ≤ 128
  pub small : places ≤ 128

-- the exponent of the product that solves for p, which is over the places of qs: by the list of n Paulis over the places of own
unfoldable pub exponent_over : List ℕ → List ℕ → ℕ → ℕ → List ℕ → Pauli → ℕ
exponent_over qs own n places x p = solved_exponent places (list_in x list_at n) (moved_pauli qs own p)

-- the same, by the list ks
unfoldable pub exponent_for : List ℕ → List Pauli → Pauli → ℕ
exponent_for qs ks p = solved_exponent (length (support_of ks)) (over_support ks) (moved_pauli qs (support_of ks) p)

-- byte i is the exponent that f tells of Pauli i of the m of the further list in the area x
abbrev pub NotedBy : (Pauli → ℕ) → List ℕ → ℕ → List ℕ → Type 0
NotedBy f by m x = (i : ℕ) → i < m → slice_index by i ≡ f (pauli_in x (further_at + 5 * i))
