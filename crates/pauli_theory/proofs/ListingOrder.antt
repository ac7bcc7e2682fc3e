-- The subsets of the positions rise strictly, by size and then lexicographically.
use mathlib.Core.Path.{◌≡◌, refl, sym, ap, ◌∙◌}
use mathlib.Core.List.{List, [], ◌∷◌, ◌++◌, map}
use Prim.Native.Nat.{ℕ, zero, suc, ◌≤◌, ◌<◌}
use native.Mathlib.Omega.{arith}
use lib.ListN.{length, get_or}
use Rattle.binar.proofs.Lists.{All, all_of, all_map, all_zip, all_join, all_get, all_over}
use Rattle.pauli.specs.Support.{Rising}
use Rattle.pauli_theory.specs.Listing.{up_to, chosen, of_sizes, subsets}
use Rattle.pauli_theory.specs.ListingTheorems.{differ, agree, Before, shorter, same_size, OrderedLaw}
use Rattle.pauli_theory.proofs.OverPlaces.{up_to_length, up_to_rises}
use Rattle.pauli_theory.proofs.ListingSubsets.{subsets_count}

-- ---- each element of a list stands before all later ones
module _ {X : Type 0} (R : X → X → Type 0) where
  abbrev Ordered : List X → Type 0
  Ordered [] = Unit {0}
  Ordered (x ∷ xs) = All (R x) xs × Ordered xs

  ordered_join : (xs ys : List X) → Ordered xs → Ordered ys → All (λ x. All (R x) ys) xs → Ordered (xs ++ ys)
  ordered_join [] ys h k c = k
  ordered_join (x ∷ xs) ys h k c = (all_join (R x) xs ys h.0 c.0, ordered_join xs ys h.1 k c.1)

  ordered_map : (f : X → X) → ((x y : X) → R x y → R (f x) (f y)) → (xs : List X) → Ordered xs → Ordered (map f xs)
  ordered_map f step [] h = tt
  ordered_map f step (x ∷ xs) h = (all_over (R (f x)) f xs (all_map (step x) xs h.0), ordered_map f step xs h.1)

  ordered_get : (xs : List X) (d : X) → Ordered xs → (i j : ℕ) → i < j → j < length xs → R (get_or xs i d) (get_or xs j d)
  ordered_get [] d h i j l m = absurd (omega arith)
  ordered_get (x ∷ xs) d h zero zero l m = absurd (omega arith)
  ordered_get (x ∷ xs) d h zero (suc j) l m = all_get (R x) xs d h.0 j (omega arith)
  ordered_get (x ∷ xs) d h (suc i) zero l m = absurd (omega arith)
  ordered_get (x ∷ xs) d h (suc i) (suc j) l m = ordered_get xs d h.1 i j (omega arith) (omega arith)

-- ---- of one size
cons_before : (a : ℕ) (s t : List ℕ) → Before s t → Before (a ∷ s) (a ∷ t)
cons_before a s t (shorter l) = shorter (omega arith)
cons_before a s t (same_size e l) = same_size (ap suc e) (agree l)

chosen_sized : {A : Type 0} (k : ℕ) (l : List A) → All (λ s. length s ≡ k) (chosen k l)
unfolding chosen
chosen_sized zero l = (refl, tt)
chosen_sized (suc k) [] = tt
chosen_sized (suc k) (a ∷ l) =
    all_join (λ s. length s ≡ suc k) (map (a ∷◌) (chosen k l)) (chosen (suc k) l)
    (all_over (λ s. length s ≡ suc k) (a ∷◌) (chosen k l) (all_map (λ s e. ap suc e) (chosen k l) (chosen_sized k l))) (chosen_sized (suc k) l)

-- a list that starts with a number from `least` on
abbrev Headed : ℕ → List ℕ → Type 0
Headed least [] = ⊥
Headed least (b ∷ s) = least ≤ b

headed_from : (m n : ℕ) → m ≤ n → (s : List ℕ) → Headed n s → Headed m s
headed_from m n l [] h = h
headed_from m n l (b ∷ s) h = omega arith

chosen_headed : (k least : ℕ) (l : List ℕ) → Rising least l → All (Headed least) (chosen (suc k) l)
unfolding chosen
chosen_headed k least [] r = tt
chosen_headed k least (a ∷ l) r =
    all_join (Headed least) (map (a ∷◌) (chosen k l)) (chosen (suc k) l)
    (all_over (Headed least) (a ∷◌) (chosen k l) (all_of (λ s. r.0) (chosen k l)))
    (all_map (headed_from least (suc a) (omega arith)) (chosen (suc k) l) (chosen_headed k (suc a) l r.1))

head_before : (k a : ℕ) (s t : List ℕ) → length s ≡ k → length t ≡ suc k → Headed (suc a) t → Before (a ∷ s) t
head_before k a s [] e f h = absurd h
head_before k a s (b ∷ t) e f h = same_size (ap suc e ∙ sym f) (differ h)

chosen_ordered : (k least : ℕ) (l : List ℕ) → Rising least l → Ordered Before (chosen k l)
unfolding chosen
chosen_ordered zero least l r = (tt, tt)
chosen_ordered (suc k) least [] r = tt
chosen_ordered (suc k) least (a ∷ l) r =
    let more = chosen (suc k) l in
    ordered_join Before (map (a ∷◌) (chosen k l)) more (ordered_map Before (a ∷◌) (cons_before a) (chosen k l) (chosen_ordered k (suc a) l r.1))
    (chosen_ordered (suc k) (suc a) l r.1)
    (all_over (λ s. All (Before s) more) (a ∷◌) (chosen k l)
    (all_map (λ s e. all_zip (λ t f h. head_before k a s t e f h) more (chosen_sized (suc k) l) (chosen_headed k (suc a) l r.1)) (chosen k l) (chosen_sized k l)))

-- ---- of several sizes
of_sizes_least : {A : Type 0} (f k : ℕ) (l : List A) → All (λ s. k ≤ length s) (of_sizes f k l)
unfolding of_sizes
of_sizes_least zero k l = all_map (λ s e. omega arith) (chosen k l) (chosen_sized k l)
of_sizes_least (suc f) k l =
    all_join (λ s. k ≤ length s) (chosen k l) (of_sizes f (suc k) l) (all_map (λ s e. omega arith) (chosen k l) (chosen_sized k l))
    (all_map (λ s h. omega arith) (of_sizes f (suc k) l) (of_sizes_least f (suc k) l))

of_sizes_ordered : (f k least : ℕ) (l : List ℕ) → Rising least l → Ordered Before (of_sizes f k l)
unfolding of_sizes
of_sizes_ordered zero k least l r = chosen_ordered k least l r
of_sizes_ordered (suc f) k least l r =
    let more = of_sizes f (suc k) l in
    ordered_join Before (chosen k l) more (chosen_ordered k least l r) (of_sizes_ordered f (suc k) least l r)
    (all_map (λ s e. all_map (λ t h. shorter (omega arith)) more (of_sizes_least f (suc k) l)) (chosen k l) (chosen_sized k l))

-- ---- all sizes
pub ordered_law : (n : ℕ) → OrderedLaw n
unfolding OrderedLaw subsets
ordered_law n i j l m =
    ordered_get Before (subsets (up_to n)) [] (of_sizes_ordered (length (up_to n)) 0 0 (up_to n) (up_to_rises n)) i j l
    (rw (subsets_count (up_to n), up_to_length n) m)
