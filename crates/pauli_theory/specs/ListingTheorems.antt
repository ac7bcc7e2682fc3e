-- What is proved of the listing, for every list of Paulis. Each statement is a type; its proof is in proofs/.
use Rattle.std.specs.Prelude.{◌≡◌, List, [], ◌∷◌, ◌++◌, map, ℕ, zero, suc, ◌+◌, ◌-◌, ◌*◌, ◌/◌, ◌%◌, ◌^◌, ◌≤◌, ◌<◌, min, length, get_or, take, drop}
use Rattle.pauli.specs.Support.{All}
use Rattle.pauli.specs.Pauli.{Pauli, I, Same, turned, select, indexed_product}
use Rattle.pauli.specs.PauliTheorems.{PauliOn}
use Rattle.pauli_theory.specs.Group.{Generated, Promise, Honest}
use Rattle.pauli_theory.specs.Standard.{support_of, rank, standard, phase_step, log2_size}
use Rattle.pauli_theory.specs.Listing.{up_to, chosen, subsets, binomial, subset_at, nontrivial, phase_count, elements_of, largest_page, page_size, page}

-- 1. Subsets: 2^n in all, binomial n k of size k; and the set of positions that binomials give for a number is the subset with that
-- number
pub record SubsetsLaw {A : Type 0} (l : List A) : Type 0 where
  pub count : length (subsets l) ≡ 2 ^ length l
  pub count_of_size : (k : ℕ) → length (chosen k l) ≡ binomial (length l) k
  pub at_number : (i : ℕ) → i < 2 ^ length l → select (subset_at (length l) i) l ≡ get_or (subsets l) i []
  -- the subsets are those of the positions 0, 1, .., each with the elements that stand there
  pub by_positions : (d : A) → subsets l ≡ map (map (λ i. get_or l i d)) (subsets (up_to (length l)))

-- a binomial from its neighbours, by one product and one quotient; so none is counted up from the start
pub record BinomialLaw (n k : ℕ) : Type 0 where
  pub most : binomial n k ≤ 2 ^ n
  pub next : k ≤ n → (n - k) * binomial n k / suc k ≡ binomial n (suc k)
  pub smaller : suc k * binomial (suc n) (suc k) / suc n ≡ binomial n k

-- every set of positions has exactly one number
pub record NumbersLaw (n : ℕ) : Type 0 where
  pub below : (i : ℕ) → i < 2 ^ n → subset_at n i < 2 ^ n
  pub apart : (i j : ℕ) → i < 2 ^ n → j < 2 ^ n → subset_at n i ≡ subset_at n j → i ≡ j
  pub reached : (s : ℕ) → s < 2 ^ n → (i : ℕ) × (i < 2 ^ n) × (subset_at n i ≡ s)

-- 2. Order: by the first position in which they differ
pub data Lexicographic : List ℕ → List ℕ → Type 0 where
  differ : {a b : ℕ} {s t : List ℕ} → a < b → Lexicographic (a ∷ s) (b ∷ t)
  agree : {a : ℕ} {s t : List ℕ} → Lexicographic s t → Lexicographic (a ∷ s) (a ∷ t)

-- "by size, then lexicographic": shorter before longer
pub data Before (s t : List ℕ) : Type 0 where
  shorter : length s < length t → Before s t
  same_size : length s ≡ length t → Lexicographic s t → Before s t

-- the subsets of the positions 0, 1, .., n - 1, each a list of positions, rise strictly
unfoldable pub OrderedLaw : ℕ → Type 0
OrderedLaw n = (i j : ℕ) → i < j → j < 2 ^ n → Before (get_or (subsets (up_to n)) i []) (get_or (subsets (up_to n)) j [])

-- 3. Pages: n pages in a row, each from the end of the one before
unfoldable pub pages_from : {A : Type 0} → ℕ → ℕ → ℕ → List A → List A
pages_from zero start count es = []
pages_from (suc n) start count es = page start count es ++ pages_from n (start + page_size count) count es

-- a page, with what is before and after it, is the list; it has the size asked for, or what is left of the list
pub record PageLaw {A : Type 0} (start count : ℕ) (es : List A) : Type 0 where
  pub parts : es ≡ take start es ++ (page start count es ++ drop (start + page_size count) es)
  pub size : length (page start count es) ≡ min (page_size count) (length es - start)
  pub past : length es ≤ start → page start count es ≡ []
  pub at_number : (i : ℕ) (d : A) → i < length (page start count es) → get_or (page start count es) i d ≡ get_or es (start + i) d
  pub limit : page_size count ≤ largest_page
  -- a size from 1 to 128 is taken as it is, above 128 means 128, 0 means 64
  pub as_asked : 0 < count → count ≤ 128 → page_size count ≡ count
  pub above : 128 < count → page_size count ≡ 128
  pub by_default : count ≡ 0 → page_size count ≡ 64
  -- enough pages in a row, from the start, are the whole list
  pub whole : (n : ℕ) → length es ≤ n * page_size count → pages_from n 0 count es ≡ es

-- 4. Elements by number, for any promise: the generators taken are the first ones, as many as the rank; there are 2^k elements, k the
-- log2 size; number i is the product of the subset that binomials give, with its phase; and all lie on the list's qubits and have
-- exponents 0 to 3
pub record ElementsLaw (promise : Promise) (gs : List Pauli) : Type 0 where
  pub generators : nontrivial (standard gs) ≡ take (rank gs) (standard gs)
  pub count : length (elements_of promise gs) ≡ 2 ^ log2_size promise gs
  pub count_by_rank : length (elements_of promise gs) ≡ 2 ^ rank gs * phase_count promise gs
  pub at_number : (i : ℕ) → i < length (elements_of promise gs)
      → get_or (elements_of promise gs) i I
      ≡ turned (phase_step promise gs * (i % phase_count promise gs)) (indexed_product (subset_at (rank gs) (i / phase_count promise gs)) (standard gs))
  pub on_support : All (PauliOn (support_of gs)) (elements_of promise gs)
  pub values : All (λ p. p.e < 4) (elements_of promise gs)

-- 5. With an absent or true promise the listing holds exactly the generated Paulis, each once
pub record ListedLaw (promise : Promise) (gs : List Pauli) : Type 0 where
  pub distinct : (i j : ℕ) → i < length (elements_of promise gs) → j < length (elements_of promise gs)
      → Same (get_or (elements_of promise gs) i I) (get_or (elements_of promise gs) j I) → i ≡ j
  pub generated : All (Generated gs) (elements_of promise gs)
  pub complete : (p : Pauli) → Generated gs p → (i : ℕ) × (i < length (elements_of promise gs)) × Same (get_or (elements_of promise gs) i I) p

-- all of these
pub record ListingLaws : Type 1 where
  pub subsets_law : {A : Type 0} (l : List A) → SubsetsLaw l
  pub binomial_law : (n k : ℕ) → BinomialLaw n k
  pub numbers_law : (n : ℕ) → NumbersLaw n
  pub ordered_law : (n : ℕ) → OrderedLaw n
  pub page_law : {A : Type 0} (start count : ℕ) (es : List A) → PageLaw start count es
  pub elements_law : (promise : Promise) (gs : List Pauli) → ElementsLaw promise gs
  pub listed_law : (promise : Promise) (gs : List Pauli) → Honest promise gs → ListedLaw promise gs
