-- What holds of every element of a list.
use mathlib.Core.Path.{◌≡◌, refl, ap, ap₂}
use mathlib.Core.List.{List, [], ◌∷◌, ◌++◌, map}
use Prim.Native.Nat.{ℕ, zero, suc, ◌<◌}
use native.Mathlib.Omega.{arith}
use lib.ListN.{length, get_or, set, drop}

module _ {ℓ} {X : Type ℓ} where
  abbrev pub All : (X → Type 0) → List X → Type 0
  All P [] = Unit {0}
  All P (x ∷ xs) = P x × All P xs

  pub all_of : {P : X → Type 0} → ((x : X) → P x) → (xs : List X) → All P xs
  all_of f [] = tt
  all_of f (x ∷ xs) = (f x, all_of f xs)

  pub all_map : {P Q : X → Type 0} → ((x : X) → P x → Q x) → (xs : List X) → All P xs → All Q xs
  all_map f [] h = tt
  all_map f (x ∷ xs) h = (f x h.0, all_map f xs h.1)

  pub all_zip : {P Q R : X → Type 0} → ((x : X) → P x → Q x → R x) → (xs : List X) → All P xs → All Q xs → All R xs
  all_zip f [] h k = tt
  all_zip f (x ∷ xs) h k = (f x h.0 k.0, all_zip f xs h.1 k.1)

  pub all_join : (P : X → Type 0) (xs ys : List X) → All P xs → All P ys → All P (xs ++ ys)
  all_join P [] ys h k = k
  all_join P (x ∷ xs) ys h k = (h.0, all_join P xs ys h.1 k)

  pub all_left : (P : X → Type 0) (xs ys : List X) → All P (xs ++ ys) → All P xs
  all_left P [] ys h = tt
  all_left P (x ∷ xs) ys h = (h.0, all_left P xs ys h.1)

  pub all_right : (P : X → Type 0) (xs ys : List X) → All P (xs ++ ys) → All P ys
  all_right P [] ys h = h
  all_right P (x ∷ xs) ys h = all_right P xs ys h.1

  -- by index
  pub all_get : (P : X → Type 0) (xs : List X) (d : X) → All P xs → (i : ℕ) → i < length xs → P (get_or xs i d)
  all_get P [] d h i l = absurd (omega arith)
  all_get P (x ∷ xs) d h zero l = h.0
  all_get P (x ∷ xs) d h (suc i) l = all_get P xs d h.1 i (omega arith)

  -- past the end the default stands
  pub all_get_d : (P : X → Type 0) (xs : List X) (d : X) → P d → All P xs → (i : ℕ) → P (get_or xs i d)
  all_get_d P [] d z h i = z
  all_get_d P (x ∷ xs) d z h zero = h.0
  all_get_d P (x ∷ xs) d z h (suc i) = all_get_d P xs d z h.1 i

  pub all_by : (P : X → Type 0) (xs : List X) (d : X) → ((i : ℕ) → i < length xs → P (get_or xs i d)) → All P xs
  all_by P [] d h = tt
  all_by P (x ∷ xs) d h = (h 0 (omega arith), all_by P xs d λ i l. h (suc i) (omega arith))

module _ {ℓ ℓ'} {X : Type ℓ} {Y : Type ℓ'} (P : Y → Type 0) (f : X → Y) where
  pub all_over : (xs : List X) → All (λ x. P (f x)) xs → All P (map f xs)
  all_over [] h = tt
  all_over (x ∷ xs) h = (h.0, all_over xs h.1)

  pub all_under : (xs : List X) → All P (map f xs) → All (λ x. P (f x)) xs
  all_under [] h = tt
  all_under (x ∷ xs) h = (h.0, all_under xs h.1)

-- maps that agree on the elements
module _ {ℓ} {X : Type ℓ} {Y : Type 0} (f g : X → Y) where
  pub map_same : (xs : List X) → All (λ x. f x ≡ g x) xs → map f xs ≡ map g xs
  map_same [] h = refl
  map_same (x ∷ xs) h = ap₂ ◌∷◌ h.0 (map_same xs h.1)

  pub same_map : (xs : List X) → map f xs ≡ map g xs → All (λ x. f x ≡ g x) xs
  same_map [] h = tt
  same_map (x ∷ xs) h = (cc, same_map xs (cc))

-- a map, and what reads or writes a list by index
module _ {ℓ ℓ'} {X : Type ℓ} {Y : Type ℓ'} (f : X → Y) where
  pub map_drop : (i : ℕ) (xs : List X) → drop i (map f xs) ≡ map f (drop i xs)
  map_drop zero xs = refl
  map_drop (suc i) [] = refl
  map_drop (suc i) (x ∷ xs) = map_drop i xs

  pub map_set : (xs : List X) (i : ℕ) (y : X) → set (map f xs) i (f y) ≡ map f (set xs i y)
  map_set [] i y = refl
  map_set (x ∷ xs) zero y = refl
  map_set (x ∷ xs) (suc i) y = ap (f x ∷◌) (map_set xs i y)
