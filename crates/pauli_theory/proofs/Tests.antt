-- What the tests of a list say: `some_order_four`, `some_anticommute`, `some_imaginary` and `some_minus`.
use mathlib.Core.Path.{◌≡◌, refl, sym, ap, ap₂, ◌∙◌}
use mathlib.Core.List.{List, [], ◌∷◌, ◌++◌, map}
use Prim.Native.Nat.{ℕ, zero, suc, ◌/◌, ◌%◌, ◌<◌, max}
use native.Mathlib.Omega.{arith}
use Rattle.binar.proofs.row.Bits.{dot_comm}
use Rattle.binar.proofs.Lists.{all_map, all_zip}
use Rattle.pauli.specs.Support.{All}
use Rattle.pauli.specs.Pauli.{Pauli, anticommute, order_four}
use Rattle.pauli.proofs.signed.Algebra.{anticommute_lt, anticommute_comm}
use Rattle.pauli_theory.specs.Standard.{if_zero, some_order_four, anticommutes_with_some, some_anticommute, bare, some_imaginary, some_minus}

-- ---- the largest of a number of each Pauli
unfoldable pub largest : (Pauli → ℕ) → List Pauli → ℕ
largest f [] = 0
largest f (p ∷ ps) = max (f p) (largest f ps)

pub order_four_largest : (ps : List Pauli) → some_order_four ps ≡ largest order_four ps
unfolding some_order_four largest
order_four_largest [] = refl
order_four_largest (p ∷ ps) = ap (max (order_four p)) (order_four_largest ps)

pub anticommute_largest : (p : Pauli) (qs : List Pauli) → anticommutes_with_some p qs ≡ largest (anticommute p) qs
unfolding anticommutes_with_some largest
anticommute_largest p [] = refl
anticommute_largest p (q ∷ qs) = ap (max (anticommute p q)) (anticommute_largest p qs)

abbrev pub imaginary : Pauli → ℕ
imaginary p = bare p (p.e % 2)

abbrev pub minus : Pauli → ℕ
minus p = bare p (if_zero (p.e % 2) (p.e / 2 % 2) 0)

pub imaginary_largest : (ps : List Pauli) → some_imaginary ps ≡ largest imaginary ps
unfolding some_imaginary largest
imaginary_largest [] = refl
imaginary_largest (p ∷ ps) = ap (max (imaginary p)) (imaginary_largest ps)

pub minus_largest : (ps : List Pauli) → some_minus ps ≡ largest minus ps
unfolding some_minus largest
minus_largest [] = refl
minus_largest (p ∷ ps) = ap (max (minus p)) (minus_largest ps)

max_left : (a b : ℕ) → max a b ≡ 0 → a ≡ 0
max_left a b e = omega arith

max_right : (a b : ℕ) → max a b ≡ 0 → b ≡ 0
max_right a b e = omega arith

pub max_found : {C : Type 0} (a b : ℕ) → 0 < max a b → (0 < a → C) → (0 < b → C) → C
max_found zero b l f g = g (omega arith)
max_found (suc a) b l f g = f (omega arith)

module _ (f : Pauli → ℕ) where
  pub largest_none : (ps : List Pauli) → largest f ps ≡ 0 → All (λ p. f p ≡ 0) ps
  unfolding largest
  largest_none [] e = tt
  largest_none (p ∷ ps) e = (max_left (f p) (largest f ps) e, largest_none ps (max_right (f p) (largest f ps) e))

  pub none_largest : (ps : List Pauli) → All (λ p. f p ≡ 0) ps → largest f ps ≡ 0
  unfolding largest
  none_largest [] h = refl
  none_largest (p ∷ ps) h = omega (arith, h.0, none_largest ps h.1)

  pub largest_found : {Q : Pauli → Type 0} {C : Type 0} (ps : List Pauli) → 0 < largest f ps → All Q ps → ((p : Pauli) → 0 < f p → Q p → C) → C
  unfolding largest
  largest_found [] l h k = absurd (omega arith)
  largest_found (p ∷ ps) l h k = max_found (f p) (largest f ps) l (λ o. k p o h.0) (λ o. largest_found ps o h.1 k)

  pub largest_lt : ((p : Pauli) → f p < 2) → (ps : List Pauli) → largest f ps < 2
  unfolding largest
  largest_lt h [] = omega arith
  largest_lt h (p ∷ ps) = omega (arith, h p, largest_lt h ps)

  pub largest_append : (ps qs : List Pauli) → largest f (ps ++ qs) ≡ max (largest f ps) (largest f qs)
  unfolding largest
  largest_append [] qs = omega arith
  largest_append (p ∷ ps) qs = omega (arith, largest_append ps qs)

  pub largest_map : (g : Pauli → Pauli) (ps : List Pauli) → All (λ p. f (g p) ≡ f p) ps → largest f (map g ps) ≡ largest f ps
  unfolding largest
  largest_map g [] h = refl
  largest_map g (p ∷ ps) h = ap₂ max h.0 (largest_map g ps h.1)

-- ---- two that anticommute
anticommute_self : (p : Pauli) → anticommute p p ≡ 0
unfolding anticommute
anticommute_self p = omega (arith, dot_comm p.x p.z)

abbrev pub Commuting : List Pauli → Type 0
Commuting ps = All (λ p. All (λ q. anticommute p q ≡ 0) ps) ps

pub anticommute_none : (ps : List Pauli) → some_anticommute ps ≡ 0 → Commuting ps
unfolding some_anticommute
anticommute_none [] e = tt
anticommute_none (p ∷ ps) e =
    let a = largest_none (anticommute p) ps (sym (anticommute_largest p ps) ∙ max_left (anticommutes_with_some p ps) (some_anticommute ps) e) in
    let b = anticommute_none ps (max_right (anticommutes_with_some p ps) (some_anticommute ps) e) in
    ((anticommute_self p, a), all_zip (λ q z w. (anticommute_comm q p ∙ z, w)) ps a b)

pub none_anticommute : (ps : List Pauli) → Commuting ps → some_anticommute ps ≡ 0
unfolding some_anticommute
none_anticommute [] h = refl
none_anticommute (p ∷ ps) h =
    omega (arith, anticommute_largest p ps, none_largest (anticommute p) ps h.0.1, none_anticommute ps (all_map (λ q w. w.1) ps h.1))

pub anticommute_found : {Q : Pauli → Type 0} {C : Type 0} (ps : List Pauli) → 0 < some_anticommute ps → All Q ps
    → ((p q : Pauli) → anticommute p q ≡ 1 → Q p → Q q → C) → C
unfolding some_anticommute
anticommute_found [] l h k = absurd (omega arith)
anticommute_found (p ∷ ps) l h k =
    max_found (anticommutes_with_some p ps) (some_anticommute ps) l
    (λ o. largest_found (anticommute p) ps (omega (arith, anticommute_largest p ps)) h.1 λ q a b. k p q (omega (arith, anticommute_lt p q)) h.0 b)
    (λ o. anticommute_found ps o h.1 k)

pub some_anticommute_lt : (ps : List Pauli) → some_anticommute ps < 2
unfolding some_anticommute
some_anticommute_lt [] = omega arith
some_anticommute_lt (p ∷ ps) = omega (arith, anticommute_largest p ps, largest_lt (anticommute p) (anticommute_lt p) ps, some_anticommute_lt ps)

-- a map of Paulis that keeps commutation where Q holds
module _ (g : Pauli → Pauli) (Q : Pauli → Type 0) (h : (p q : Pauli) → Q p → Q q → anticommute (g p) (g q) ≡ anticommute p q) where
  with_some_map : (p : Pauli) → Q p → (qs : List Pauli) → All Q qs → anticommutes_with_some (g p) (map g qs) ≡ anticommutes_with_some p qs
  unfolding anticommutes_with_some
  with_some_map p a [] k = refl
  with_some_map p a (q ∷ qs) k = ap₂ max (h p q a k.0) (with_some_map p a qs k.1)

  pub some_anticommute_map : (ps : List Pauli) → All Q ps → some_anticommute (map g ps) ≡ some_anticommute ps
  unfolding some_anticommute
  some_anticommute_map [] k = refl
  some_anticommute_map (p ∷ ps) k = ap₂ max (with_some_map p k.0 ps k.1) (some_anticommute_map ps k.1)
