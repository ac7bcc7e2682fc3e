-- Subsets of a list, by size and then lexicographic: how many there are, and which has a given number.
use mathlib.Core.Path.{◌≡◌, refl, sym, ap, ap₂, ◌∙◌}
use mathlib.Core.Bool.{cond}
use mathlib.Core.List.{List, [], ◌∷◌, ◌++◌, map, map-map, map-append}
use Prim.Native.Nat.{ℕ, zero, suc, ◌+◌, ◌-◌, ◌*◌, ◌/◌, ◌%◌, ◌^◌, ◌≤◌, ◌<◌}
use native.Mathlib.Nat.{pow-suc, add-zero}
use native.Mathlib.Decide.{dec_lt}
use native.Mathlib.Omega.{arith}
use borrow.Author.Tests.{lt-ltb, le-ltb}
use lib.Dec.{ltb}
use lib.ListN.{length, get_or, length-append, length-map, get_or-append}
use lib.Seq.{get_or-append-add, ext_get_or}
use Rattle.pauli.specs.Pauli.{cons_if, select}
use Rattle.pauli_theory.specs.ListingTheorems.{SubsetsLaw}
use Rattle.pauli_theory.specs.Listing.{up_to, chosen, of_sizes, subsets, binomial, chosen_at, of_sizes_at, subset_at}
use Rattle.pauli_theory.proofs.OverPlaces.{up_to_length, up_to_at}

-- ---- how many
-- the sum of the binomials of n for k, k + 1, .., k + f
unfoldable pub sizes : ℕ → ℕ → ℕ → ℕ
sizes zero n k = binomial n k
sizes (suc f) n k = binomial n k + sizes f n (suc k)

pub binomial_zero : (n : ℕ) → binomial n 0 ≡ 1
unfolding binomial
binomial_zero zero = refl
binomial_zero (suc n) = refl

pub binomial_past : (n k : ℕ) → n < k → binomial n k ≡ 0
unfolding binomial
binomial_past n zero h = absurd (omega arith)
binomial_past zero (suc k) h = refl
binomial_past (suc n) (suc k) h = omega (arith, binomial_past n k (omega arith), binomial_past n (suc k) (omega arith))

sizes_pascal : (f n k : ℕ) → sizes f (suc n) (suc k) ≡ sizes f n k + sizes f n (suc k)
unfolding sizes binomial
sizes_pascal zero n k = refl
sizes_pascal (suc f) n k = omega (arith, sizes_pascal f n (suc k))

sizes_last : (f n k : ℕ) → sizes (suc f) n k ≡ sizes f n k + binomial n (suc (k + f))
unfolding sizes
sizes_last zero n k = rw add-zero
sizes_last (suc f) n k =
    let e : suc (suc k + f) ≡ suc (k + suc f) = omega arith in
    omega (arith, sizes_last f n (suc k), ap (binomial n) e)

pub sizes_all : (n : ℕ) → sizes n n 0 ≡ 2 ^ n
unfolding sizes
sizes_all zero = binomial_zero 0
sizes_all (suc n) =
    omega (arith, pow-suc 2 n, binomial_zero (suc n), binomial_zero n, sizes_pascal n n 0, sizes_all n, sizes_last n n 0, binomial_past n (suc (0 + n)) (omega arith))

module _ {ℓ} {A : Type ℓ} where
  pub chosen_count : (k : ℕ) (l : List A) → length (chosen k l) ≡ binomial (length l) k
  unfolding chosen binomial
  chosen_count zero l = sym (binomial_zero (length l))
  chosen_count (suc k) [] = refl
  chosen_count (suc k) (a ∷ l) =
      length-append (map (a ∷◌) (chosen k l)) (chosen (suc k) l)
      ∙ ap₂ ◌+◌ (length-map (chosen k l) (a ∷◌) ∙ chosen_count k l) (chosen_count (suc k) l)

  of_sizes_count : (f k : ℕ) (l : List A) → length (of_sizes f k l) ≡ sizes f (length l) k
  unfolding of_sizes sizes
  of_sizes_count zero k l = chosen_count k l
  of_sizes_count (suc f) k l = length-append (chosen k l) (of_sizes f (suc k) l) ∙ ap₂ ◌+◌ (chosen_count k l) (of_sizes_count f (suc k) l)

  pub subsets_count : (l : List A) → length (subsets l) ≡ 2 ^ length l
  unfolding subsets
  subsets_count l = of_sizes_count (length l) 0 l ∙ sizes_all (length l)

-- ---- a number below or past a bound
module _ {ℓ} {X : Type ℓ} (i b : ℕ) (x y : X) where
  pub when_below : i < b → cond (ltb i b) x y ≡ x
  when_below h = rw (lt-ltb i b h)

  pub when_past : b ≤ i → cond (ltb i b) x y ≡ y
  when_past h = rw (le-ltb i b h)

-- ---- an element of two lists joined, and of a list mapped
module _ {ℓ} {A : Type ℓ} where
  get_past : (xs ys : List A) (d : A) (n i : ℕ) → length xs ≡ n → n ≤ i → get_or (xs ++ ys) i d ≡ get_or ys (i - n) d
  get_past xs ys d n i e h =
      let s : i ≡ length xs + (i - n) = omega arith in
      ap (λ (j : ℕ). get_or (xs ++ ys) j d) s ∙ get_or-append-add xs ys (i - n) d

  pub get_map {κ} : {B : Type κ} (f : A → B) (l : List A) (i : ℕ) (d : A) (e : B) → i < length l → get_or (map f l) i e ≡ f (get_or l i d)
  get_map f [] i d e h = absurd (omega arith)
  get_map f (a ∷ l) zero d e h = refl
  get_map f (a ∷ l) (suc i) d e h = get_map f l i d e (omega arith)

-- ---- the subset with a number
module _ {ℓ} {A : Type ℓ} where
  pub select_none : (l : List A) → select 0 l ≡ []
  unfolding select cons_if
  select_none [] = refl
  select_none (a ∷ l) = select_none l

  select_with : (s : ℕ) (a : A) (l : List A) → select (1 + 2 * s) (a ∷ l) ≡ a ∷ select s l
  unfolding select cons_if
  select_with s a l = ap₂ (λ (d t : ℕ). cons_if d a (select t l)) low high
    where
      low : (1 + 2 * s) % 2 ≡ 1
      low = omega arith

      high : (1 + 2 * s) / 2 ≡ s
      high = omega arith

  select_without : (s : ℕ) (a : A) (l : List A) → select (2 * s) (a ∷ l) ≡ select s l
  unfolding select cons_if
  select_without s a l = ap₂ (λ (d t : ℕ). cons_if d a (select t l)) low high
    where
      low : 2 * s % 2 ≡ 0
      low = omega arith

      high : 2 * s / 2 ≡ s
      high = omega arith

  chosen_at_lem : (k : ℕ) (l : List A) (i : ℕ) → i < binomial (length l) k → select (chosen_at (length l) k i) l ≡ get_or (chosen k l) i []
  unfolding chosen chosen_at binomial
  chosen_at_lem zero l i h =
      let e : i ≡ 0 = omega arith in
      select_none l ∙ ap (λ (j : ℕ). get_or {A = List A} ([] ∷ []) j []) (sym e)
  chosen_at_lem (suc k) [] i h = absurd (omega arith)
  chosen_at_lem (suc k) (a ∷ l) i h =
      let n = length l in
      let b = binomial n k in
      let firsts = map (a ∷◌) (chosen k l) in
      let size : length firsts ≡ b = length-map (chosen k l) (a ∷◌) ∙ chosen_count k l in
      elim (dec_lt i b) [
        | yes y ↦
            ap (λ (s : ℕ). select s (a ∷ l)) (when_below i b (1 + 2 * chosen_at n k i) (2 * chosen_at n (suc k) (i - b)) y)
            ∙ select_with (chosen_at n k i) a l ∙ ap (a ∷◌) (chosen_at_lem k l i y)
            ∙ sym (get_map (a ∷◌) (chosen k l) i [] [] (rw chosen_count y)) ∙ sym (get_or-append firsts (chosen (suc k) l) [] i (rw size y))
        | no z ↦
            ap (λ (s : ℕ). select s (a ∷ l)) (when_past i b (1 + 2 * chosen_at n k i) (2 * chosen_at n (suc k) (i - b)) (omega arith))
            ∙ select_without (chosen_at n (suc k) (i - b)) a l ∙ chosen_at_lem (suc k) l (i - b) (omega arith)
            ∙ sym (get_past firsts (chosen (suc k) l) [] b i size (omega arith))
      ]

  of_sizes_at_lem : (f k : ℕ) (l : List A) (i : ℕ) → i < sizes f (length l) k → select (of_sizes_at f (length l) k i) l ≡ get_or (of_sizes f k l) i []
  unfolding of_sizes of_sizes_at sizes
  of_sizes_at_lem zero k l i h = chosen_at_lem k l i h
  of_sizes_at_lem (suc f) k l i h =
      let n = length l in
      let b = binomial n k in
      elim (dec_lt i b) [
        | yes y ↦
            ap (λ (s : ℕ). select s l) (when_below i b (chosen_at n k i) (of_sizes_at f n (suc k) (i - b)) y)
            ∙ chosen_at_lem k l i y ∙ sym (get_or-append (chosen k l) (of_sizes f (suc k) l) [] i (rw chosen_count y))
        | no z ↦
            ap (λ (s : ℕ). select s l) (when_past i b (chosen_at n k i) (of_sizes_at f n (suc k) (i - b)) (omega arith))
            ∙ of_sizes_at_lem f (suc k) l (i - b) (omega arith)
            ∙ sym (get_past (chosen k l) (of_sizes f (suc k) l) [] b i (chosen_count k l) (omega arith))
      ]

  pub subset_at_lem : (l : List A) (i : ℕ) → i < 2 ^ length l → select (subset_at (length l) i) l ≡ get_or (subsets l) i []
  unfolding subsets subset_at
  subset_at_lem l i h = of_sizes_at_lem (length l) 0 l i (rw sizes_all h)

-- ---- by positions
module _ {A B : Type 0} (f : A → B) where
  chosen_map : (k : ℕ) (l : List A) → chosen k (map f l) ≡ map (map f) (chosen k l)
  unfolding chosen
  chosen_map zero l = refl
  chosen_map (suc k) [] = refl
  chosen_map (suc k) (a ∷ l) =
      ap₂ ◌++◌
      (ap (map (f a ∷◌)) (chosen_map k l) ∙ map-map (f a ∷◌) (map f) (chosen k l) ∙ sym (map-map (map f) (a ∷◌) (chosen k l)))
      (chosen_map (suc k) l)
      ∙ sym (map-append (map f) (map (a ∷◌) (chosen k l)) (chosen (suc k) l))

  of_sizes_map : (n k : ℕ) (l : List A) → of_sizes n k (map f l) ≡ map (map f) (of_sizes n k l)
  unfolding of_sizes
  of_sizes_map zero k l = chosen_map k l
  of_sizes_map (suc n) k l =
      ap₂ ◌++◌ (chosen_map k l) (of_sizes_map n (suc k) l) ∙ sym (map-append (map f) (chosen k l) (of_sizes n (suc k) l))

  subsets_map : (l : List A) → subsets (map f l) ≡ map (map f) (subsets l)
  unfolding subsets
  subsets_map l = ap (λ (n : ℕ). of_sizes n 0 (map f l)) (length-map l f) ∙ of_sizes_map (length l) 0 l

module _ {A : Type 0} (l : List A) (d : A) where
  named : map (λ i. get_or l i d) (up_to (length l)) ≡ l
  named =
      let f : ℕ → A = λ i. get_or l i d in
      let n = length l in
      let size : length (map f (up_to n)) ≡ n = length-map (up_to n) f ∙ up_to_length n in
      ext_get_or d (map f (up_to n)) l size λ i h.
      get_map f (up_to n) i 0 d (omega (arith, size, up_to_length n)) ∙ ap f (up_to_at n i (omega (arith, size)))

  subsets_named : subsets l ≡ map (map (λ i. get_or l i d)) (subsets (up_to (length l)))
  subsets_named = ap subsets (sym named) ∙ subsets_map (λ i. get_or l i d) (up_to (length l))

pub subsets_law : {A : Type 0} (l : List A) → SubsetsLaw l
subsets_law l = record {
  count = subsets_count l;
  count_of_size = λ k. chosen_count k l;
  at_number = subset_at_lem l;
  by_positions = subsets_named l;
}
