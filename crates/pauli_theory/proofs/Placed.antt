-- Condensing Paulis to the places of rising qubits: of Paulis on these qubits it keeps products, commutation, order and weight 0.
use mathlib.Core.Path.{◌≡◌, refl, sym, ap, ap₂, ◌∙◌}
use mathlib.Core.Logic.{⊎_elim}
use mathlib.Core.List.{List, [], ◌∷◌, ◌++◌, map, map-append, map-map}
use Prim.Native.Nat.{ℕ, zero, suc, ◌+◌, ◌/◌, ◌%◌, ◌^◌, ◌<◌, max}
use native.Mathlib.Omega.{arith}
use lib.Bits.{bit_or}
use lib.ListN.{length}
use Rattle.binar.specs.Row.{◌⊕◌, if_bit}
use Rattle.binar.proofs.row.Bits.{bit_of_zero, xor_self}
use Rattle.binar.proofs.Lists.{all_of, all_map, all_over}
use Rattle.binar.proofs.echelon.Span.{if_bit_case}
use Rattle.pauli.specs.Support.{All, Rising}
use Rattle.pauli.specs.Pauli.{Pauli, I, normal, times, order_four, select, indexed_product, phase}
use Rattle.pauli.specs.Sets.{condense, expand}
use Rattle.pauli.specs.PauliTheorems.{On, PauliOn}
use Rattle.pauli.specs.Condense.{condensed}
use Rattle.pauli.specs.Writing.{OnPlaces}
use Rattle.pauli.proofs.signed.Algebra.{pauli_path, times_normal_l}
use Rattle.pauli.proofs.signed.Products.{product_none, indexed_cons}
use Rattle.pauli.proofs.condense.MoreBits.{in_or}
use Rattle.pauli.proofs.condense.Places.{condense_lt, condense_sum, condense_or, condense_dot, expand_condense}
use Rattle.pauli.proofs.condense.Rows.{on-I}
use Rattle.pauli.proofs.write.Condensed.{condensed_times, condensed_anticommute}
use Rattle.pauli_theory.specs.Standard.{if_zero, some_order_four, some_anticommute, appended, exponent_mod, bare, some_imaginary, some_minus}
use Rattle.pauli_theory.proofs.Tests.{order_four_largest, imaginary, imaginary_largest, minus, minus_largest, largest_map, some_anticommute_map}
use Rattle.pauli_theory.proofs.Grade.{sign_test}
use Rattle.pauli_theory.proofs.Standard.{standard_of}

-- ---- any qubits
module _ (qs : List ℕ) where
  pub condense_none : condense qs 0 ≡ 0
  unfolding ◌⊕◌
  condense_none = condense_sum qs 0 0 ∙ xor_self (condense qs 0)

  pub condensed-I : condensed qs I ≡ I
  unfolding condensed I
  condensed-I = pauli_path refl condense_none condense_none

  pub condensed_phase : (k : ℕ) → condensed qs (phase k) ≡ phase k
  unfolding condensed phase
  condensed_phase k = pauli_path refl condense_none condense_none

  pub condensed_on : (ps : List Pauli) → OnPlaces (length qs) (map (condensed qs) ps)
  unfolding OnPlaces condensed
  condensed_on ps =
      all_over (λ p. (p.x < 2 ^ length qs) × (p.z < 2 ^ length qs)) (condensed qs) ps
      (all_of (λ p. (condense_lt qs p.x, condense_lt qs p.z)) ps)

  pub condensed_exponent_mod : (m : ℕ) (ps : List Pauli)
      → map (exponent_mod m) (map (condensed qs) ps) ≡ map (condensed qs) (map (exponent_mod m) ps)
  unfolding condensed exponent_mod
  condensed_exponent_mod m ps = map-map (exponent_mod m) (condensed qs) ps ∙ sym (map-map (condensed qs) (exponent_mod m) ps)

  condensed_appended : (m : ℕ) (ps : List Pauli) → appended m (map (condensed qs) ps) ≡ map (condensed qs) (appended m ps)
  unfolding appended
  condensed_appended zero ps = refl
  condensed_appended (suc zero) ps = ap (λ p. p ∷ []) (sym (condensed_phase 1))
  condensed_appended (suc (suc zero)) ps = ap (λ p. p ∷ []) (sym (condensed_phase 2))
  condensed_appended (suc (suc (suc m))) [] = ap (λ p. p ∷ []) (sym (condensed_phase 0))
  condensed_appended (suc (suc (suc m))) (p ∷ ps) = refl

  pub condensed_standard_of : (w m : ℕ) (ps : List Pauli) → standard_of w m (map (condensed qs) ps) ≡ map (condensed qs) (standard_of w m ps)
  unfolding if_zero
  condensed_standard_of zero m ps =
      ap (map (condensed qs) ps ++◌) (condensed_appended m ps) ∙ sym (map-append (condensed qs) ps (appended m ps))
  condensed_standard_of (suc w) m ps =
      let rs = map (exponent_mod 2) ps in
      ap₂ ◌++◌ (condensed_exponent_mod 2 ps) (condensed_appended (m % 2) ps) ∙ sym (map-append (condensed qs) rs (appended (m % 2) ps))

-- ---- Paulis on rising qubits
module _ (qs : List ℕ) (h : Rising 0 qs) where
  first_factor : (d : ℕ) (g p : Pauli) → times (if_bit d (normal (condensed qs g)) I) p ≡ times (condensed qs (if_bit d g I)) p
  unfolding if_bit
  first_factor zero g p = ap (λ r. times r p) (sym (condensed-I qs))
  first_factor (suc d) g p = times_normal_l (condensed qs g) p

  pub condensed_indexed : (s : ℕ) (gs : List Pauli) → All (PauliOn qs) gs
      → indexed_product s (map (λ p. normal (condensed qs p)) gs) ≡ condensed qs (indexed_product s gs)
  unfolding indexed_product select
  condensed_indexed s [] on = rw product_none (sym (condensed-I qs))
  condensed_indexed s (g ∷ gs) on =
      let a = if_bit (s % 2) g I in
      let p = indexed_product (s / 2) gs in
      indexed_cons s (normal (condensed qs g)) (map (λ q. normal (condensed qs q)) gs)
      ∙ ap (times (if_bit (s % 2) (normal (condensed qs g)) I)) (condensed_indexed (s / 2) gs on.1)
      ∙ first_factor (s % 2) g (condensed qs p)
      ∙ condensed_times qs h a p (if_bit_case (PauliOn qs) (s % 2) (λ z. on-I qs) (λ l. on.0))
      ∙ ap (condensed qs) (sym (indexed_cons s g gs))

  -- order and weight 0
  pub condensed_order_four : (p : Pauli) → PauliOn qs p → order_four (condensed qs p) ≡ order_four p
  unfolding order_four condensed
  condensed_order_four p on = ap (λ (d : ℕ). (p.e + d) % 2) (condense_dot qs h p.x p.z on.x)

  -- a set is empty exactly when it is empty over places
  condense_empty : (v : ℕ) → On qs v → condense qs v ≡ 0 → v ≡ 0
  condense_empty v on e =
      sym (expand_condense qs h v on) ∙ ap (expand qs) (e ∙ sym (condense_none qs))
      ∙ expand_condense qs h 0 (λ q o. absurd (omega (arith, bit_of_zero q)))

  if_zero_condense : (v e : ℕ) → On qs v → if_zero (condense qs v) e 0 ≡ if_zero v e 0
  unfolding if_zero
  if_zero_condense zero e on = ap (λ (n : ℕ). if_zero n e 0) (condense_none qs)
  if_zero_condense (suc v) e on = go (condense qs (suc v)) refl
    where
      go : (n : ℕ) → condense qs (suc v) ≡ n → if_zero n e 0 ≡ if_zero (suc v) e 0
      go zero k = absurd (omega (arith, condense_empty (suc v) on k))
      go (suc n) k = refl

  pub condensed_bare : (p : Pauli) (e : ℕ) → PauliOn qs p → bare (condensed qs p) e ≡ bare p e
  unfolding bare condensed
  condensed_bare p e on =
      ap (λ (n : ℕ). if_zero n e 0) (sym (condense_or qs p.x p.z))
      ∙ if_zero_condense (bit_or p.x p.z) e (λ q o. ⊎_elim (on.x q) (on.z q) (in_or p.x p.z q o))

  -- ---- tests of lists
  module _ (ps : List Pauli) (on : All (PauliOn qs) ps) where
    pub condensed_some_order_four : some_order_four (map (condensed qs) ps) ≡ some_order_four ps
    condensed_some_order_four =
        order_four_largest (map (condensed qs) ps) ∙ largest_map order_four (condensed qs) ps (all_map condensed_order_four ps on)
        ∙ sym (order_four_largest ps)

    pub condensed_some_anticommute : some_anticommute (map (condensed qs) ps) ≡ some_anticommute ps
    condensed_some_anticommute = some_anticommute_map (condensed qs) (PauliOn qs) (λ p q a b. condensed_anticommute qs h p q a) ps on

    pub condensed_some_imaginary : some_imaginary (map (condensed qs) ps) ≡ some_imaginary ps
    unfolding condensed
    condensed_some_imaginary =
        imaginary_largest (map (condensed qs) ps)
        ∙ largest_map imaginary (condensed qs) ps (all_map (λ p a. condensed_bare p (p.e % 2) a) ps on) ∙ sym (imaginary_largest ps)

    pub condensed_some_minus : some_minus (map (condensed qs) ps) ≡ some_minus ps
    unfolding condensed
    condensed_some_minus =
        minus_largest (map (condensed qs) ps)
        ∙ largest_map minus (condensed qs) ps (all_map (λ p a. condensed_bare p (if_zero (p.e % 2) (p.e / 2 % 2) 0) a) ps on)
        ∙ sym (minus_largest ps)

    pub condensed_sign_test : sign_test (map (condensed qs) ps) ≡ sign_test ps
    unfolding sign_test
    condensed_sign_test = ap₂ max condensed_some_order_four condensed_some_anticommute
