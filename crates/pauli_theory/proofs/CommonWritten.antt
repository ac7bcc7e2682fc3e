-- The common part over the places of the joined support: its phases, and the exponents that the two lists' solutions have.
use mathlib.Core.Path.{◌≡◌, refl, sym, ap, ap₂, ◌∙◌}
use mathlib.Core.List.{List, ◌∷◌, ◌++◌, map}
use mathlib.Core.Option.{Option, some, none}
use Prim.Native.Nat.{ℕ, zero, suc, ◌+◌, ◌*◌, ◌%◌, max}
use native.Mathlib.Omega.{arith}
use lib.ListN.{length}
use Rattle.binar.specs.Solve.{transpose_solve}
use Rattle.pauli.specs.Pauli.{Pauli, indexed_product, phase}
use Rattle.pauli.specs.Sets.{row_of}
use Rattle.pauli.specs.PauliTheorems.{PauliOn}
use Rattle.pauli.specs.Condense.{condensed}
use Rattle.pauli_theory.specs.Standard.{support_of, if_zero}
use Rattle.pauli_theory.specs.Common.{cons_some, phases_from}
use Rattle.pauli_theory.specs.Inner.CommonPlaces.{exponent_by, solved_exponent}
use Rattle.pauli_theory.specs.Inner.ModuloPlaces.{moved_pauli}
use Rattle.pauli_theory.proofs.IfZero.{if_zero_map}
use Rattle.pauli_theory.proofs.Rows.{support_rises, support_on}
use Rattle.pauli_theory.proofs.Placed.{condensed_phase, condensed_indexed}
use Rattle.pauli_theory.proofs.OverPlaces.{placed, places_echelon, places_form}
use Rattle.pauli_theory.proofs.ModuloPlaces.{joined, moved_pauli_lem}
use Rattle.pauli_theory.proofs.CommonExponents.{Solved}

-- ---- elements with shared exponents, one after the other
pub cons_some_append : (o : Option Pauli) (ps rs : List Pauli) → cons_some o (ps ++ rs) ≡ cons_some o ps ++ rs
unfolding cons_some
cons_some_append none ps rs = refl
cons_some_append (some p) ps rs = refl

if_append {ℓ} : {X : Type ℓ} (w : ℕ) (x : X) (xs ys : List X) → if_zero w (x ∷ (xs ++ ys)) (xs ++ ys) ≡ if_zero w (x ∷ xs) xs ++ ys
unfolding if_zero
if_append zero x xs ys = refl
if_append (suc w) x xs ys = refl

-- the phases up to exponent e + n, and that one
pub phases_next : (a b n e : ℕ) → phases_from a b (suc n) e ≡ phases_from a b n e ++ phases_from a b 1 (e + n)
unfolding phases_from
phases_next a b zero e = let z : e ≡ e + 0 = omega arith in ap (phases_from a b 1) z
phases_next a b (suc n) e =
    let w = max (e % a) (e % b) in
    let next : suc e + n ≡ e + suc n = omega arith in
    let more = phases_from a b n (suc e) in
    let rest : phases_from a b (suc n) (suc e) ≡ more ++ phases_from a b 1 (e + suc n) =
    phases_next a b n (suc e) ∙ ap (λ (k : ℕ). more ++ phases_from a b 1 k) next in
    ap (λ ps. if_zero w (phase e ∷ ps) ps) rest ∙ if_append w (phase e) more (phases_from a b 1 (e + suc n))

-- ---- over places
module _ (qs : List ℕ) where
  pub condensed_phases : (a b n e : ℕ) → map (condensed qs) (phases_from a b n e) ≡ phases_from a b n e
  unfolding phases_from
  condensed_phases a b zero e = refl
  condensed_phases a b (suc n) e =
      let w = max (e % a) (e % b) in
      let more = phases_from a b n (suc e) in
      if_zero_map (map (condensed qs)) w (phase e ∷ more) more
      ∙ ap₂ (λ (p : Pauli) (ps : List Pauli). if_zero w (p ∷ ps) ps) (condensed_phase qs e) (condensed_phases a b n (suc e))

-- the solution for a Pauli over the places of a list's own support
solved_exponent_lem : (gs : List Pauli) (p : Pauli) (w : Solved gs p)
    → solved_exponent (length (support_of gs)) (placed gs) (condensed (support_of gs) p) ≡ (indexed_product w.set gs).e
unfolding solved_exponent exponent_by row_of condensed
solved_exponent_lem gs p w =
    let own = support_of gs in
    let form = sym (places_echelon gs) ∙ places_form gs in
    ap (exponent_by (placed gs)) (ap (λ F. transpose_solve (2 * length own) F (row_of own p)) form ∙ w.solution)
    ∙ ap (λ q. q.e) (condensed_indexed own (support_rises gs) w.set gs (support_on gs))

-- ---- the common part of two lists
module _ (gs hs : List Pauli) where
  -- the exponent that a list's solution has, for an element over the places of the joined support
  abbrev pub exponent_in : List Pauli → Pauli → ℕ
  exponent_in ks q = solved_exponent (length (support_of ks)) (placed ks) (moved_pauli (joined gs hs) (support_of ks) q)

  pub exponent_at : (ks : List Pauli) (p : Pauli) → PauliOn (joined gs hs) p → (w : Solved ks p)
      → exponent_in ks (condensed (joined gs hs) p) ≡ (indexed_product w.set ks).e
  exponent_at ks p on w =
      ap (solved_exponent (length (support_of ks)) (placed ks)) (moved_pauli_lem (joined gs hs) (support_rises (gs ++ hs)) (support_of ks) p on)
      ∙ solved_exponent_lem ks p w
