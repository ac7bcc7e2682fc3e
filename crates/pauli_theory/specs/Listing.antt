-- The listing of a group's elements: document 01, "Group": "`elements`: subsets by size, then lexicographic, phases fastest", and
-- "Forms to recast": "subset from element number by binomials".
use Rattle.std.specs.Prelude.{cond, ℕ, zero, suc, ◌+◌, ◌-◌, ◌*◌, ◌/◌, min, ltb, length, take, drop}
use mathlib.Core.List.{List, [], ◌∷◌, ◌++◌, map, flat_map}
use Rattle.pauli.specs.Pauli.{Pauli, turned, pauli_weight, product}
use Rattle.pauli_theory.specs.Group.{Promise}
use Rattle.pauli_theory.specs.Standard.{if_zero, standard, phase_step, phases_of}

-- k, k + 1, .., n numbers; and the first n numbers from 0
unfoldable pub count_from : ℕ → ℕ → List ℕ
count_from k zero = []
count_from k (suc n) = k ∷ count_from (suc k) n

unfoldable pub up_to : ℕ → List ℕ
up_to n = count_from 0 n

-- ---- subsets by size, then lexicographic

-- the subsets of size k, each in the list's order, in lexicographic order of their positions: those with the first element, then
-- those without it
unfoldable pub chosen {ℓ} : {A : Type ℓ} → ℕ → List A → List (List A)
chosen zero l = [] ∷ []
chosen (suc k) [] = []
chosen (suc k) (a ∷ l) = map (a ∷◌) (chosen k l) ++ chosen (suc k) l

-- the subsets of sizes k, k + 1, .., k + f, size by size
unfoldable pub of_sizes {ℓ} : {A : Type ℓ} → ℕ → ℕ → List A → List (List A)
of_sizes zero k l = chosen k l
of_sizes (suc f) k l = chosen k l ++ of_sizes f (suc k) l

-- all subsets: "by size, then lexicographic"
unfoldable pub subsets {ℓ} : {A : Type ℓ} → List A → List (List A)
subsets l = of_sizes (length l) 0 l

-- ---- "subset from element number by binomials"

-- how many subsets of size k a list of n has
unfoldable pub binomial : ℕ → ℕ → ℕ
binomial n zero = 1
binomial zero (suc k) = 0
binomial (suc n) (suc k) = binomial n k + binomial n (suc k)

-- subset number i of size k of a list of n, as a set of positions: a number read by its binary digits. The subsets with position 0
-- come first
unfoldable pub chosen_at : ℕ → ℕ → ℕ → ℕ
chosen_at n zero i = 0
chosen_at zero (suc k) i = 0
chosen_at (suc n) (suc k) i = cond (ltb i (binomial n k)) (1 + 2 * chosen_at n k i) (2 * chosen_at n (suc k) (i - binomial n k))

-- number i among the subsets of sizes k, k + 1, .., k + f
unfoldable pub of_sizes_at : ℕ → ℕ → ℕ → ℕ → ℕ
of_sizes_at zero n k i = chosen_at n k i
of_sizes_at (suc f) n k i = cond (ltb i (binomial n k)) (chosen_at n k i) (of_sizes_at f n (suc k) (i - binomial n k))

-- subset number i of a list of n, as a set of positions
unfoldable pub subset_at : ℕ → ℕ → ℕ
subset_at n i = of_sizes_at n n 0 i

-- ---- elements

-- the standard generators before the first of weight 0
unfoldable pub nontrivial : List Pauli → List Pauli
nontrivial [] = []
nontrivial (p ∷ ps) = if_zero (pauli_weight p) [] (p ∷ nontrivial ps)

-- how many phases there are
unfoldable pub phase_count : Promise → List Pauli → ℕ
phase_count promise gs = 4 / phase_step promise gs

-- the product of ps with each of the phases
unfoldable pub with_phases : List ℕ → List Pauli → List Pauli
with_phases ks ps = map (λ k. turned k (product ps)) ks

-- "subsets by size, then lexicographic, phases fastest"
unfoldable pub elements_of : Promise → List Pauli → List Pauli
elements_of promise gs = flat_map (with_phases (phases_of promise gs)) (subsets (nontrivial (standard gs)))

-- ---- pages

-- "count 0 means 16, above 128 means 128"; document 02, L13: "Count 0 in a listing shall mean 64 elements instead of 16"
unfoldable pub default_page : ℕ
default_page = 64

unfoldable pub largest_page : ℕ
largest_page = 128

unfoldable pub page_size : ℕ → ℕ
page_size count = if_zero count default_page (min count largest_page)

-- "A page is start and count": the elements from number `start` on, as many as there are up to the page's size. "A start past the
-- end gives an empty roll"
unfoldable pub page {ℓ} : {A : Type ℓ} → ℕ → ℕ → List A → List A
page start count es = take (page_size count) (drop start es)
