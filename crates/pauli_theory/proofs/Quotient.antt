-- Quotient: none exactly when the divisor's group is not inside; else modulo.
use mathlib.Core.Path.{◌≡◌, refl}
use mathlib.Core.Logic.{◌⊎◌, inl, inr, ⊎_elim}
use mathlib.Core.List.{List, [], ◌∷◌, ◌++◌}
use mathlib.Core.Option.{Option, some, none}
use Prim.Native.Nat.{ℕ, suc, ◌<◌}
use native.Mathlib.Omega.{arith}
use lib.ListN.{length, get_or}
use Rattle.pauli.specs.Support.{All}
use Rattle.pauli.specs.Pauli.{Pauli, I}
use Rattle.pauli_theory.specs.Group.{Generated, Inside, Promise, Honest}
use Rattle.pauli_theory.specs.Membership.{Factorization, factorization_of}
use Rattle.pauli_theory.specs.Order.{Order, equal, less, greater, no_order, partial_cmp}
use Rattle.pauli_theory.specs.Modulo.{modulo, if_below, try_quotient}
use Rattle.pauli_theory.specs.Theorems.{QuotientLaw}
use Rattle.pauli_theory.proofs.Group.{inside_by, inside_join, joined_left}
use Rattle.pauli_theory.proofs.Membership.{membership_law}
use Rattle.pauli_theory.proofs.Order.{Outcome, compared}
use Rattle.pauli_theory.proofs.Modulo.{modulo_law}

-- ---- by the four outcomes
module _ {X : Type 0} (x : X) (gs hs : List Pauli) where
  below_none : (o : Order) → Outcome hs gs o → if_below o x ≡ none → Inside hs gs → ⊥
  unfolding if_below
  below_none equal c e f = let z : ◌≡◌ {A = ℕ} 0 1 = cc in omega arith
  below_none less c e f = let z : ◌≡◌ {A = ℕ} 0 1 = cc in omega arith
  below_none greater c e f = c.1 f
  below_none no_order c e f = c.0 f

  not_below : (o : Order) → Outcome hs gs o → (Inside hs gs → ⊥) → if_below o x ≡ none
  unfolding if_below
  not_below equal c n = absurd (n c.there)
  not_below less c n = absurd (n c.0)
  not_below greater c n = refl
  not_below no_order c n = refl

  below_some : (o : Order) → Outcome hs gs o → Inside hs gs → if_below o x ≡ some x
  unfolding if_below
  below_some equal c f = refl
  below_some less c f = refl
  below_some greater c f = absurd (c.1 f)
  below_some no_order c f = absurd (c.0 f)

-- ---- membership decides which generators are generated
module _ (promise : Promise) (gs : List Pauli) (honest : Honest promise gs) where
  member : (p : Pauli) → Generated gs p ⊎ (Generated gs p → ⊥)
  member p = go (factorization_of promise gs p) refl
    where
      go : (o : Option Factorization) → factorization_of promise gs p ≡ o → Generated gs p ⊎ (Generated gs p → ⊥)
      go none e = inr λ a. let c = ((membership_law promise gs p honest).complete a).1 in let z : ◌≡◌ {A = ℕ} 0 1 = cc in omega arith
      go (some f) e = inl ((membership_law promise gs p honest).sound f e)

  first_outside : (hs : List Pauli) → All (Generated gs) hs ⊎ ((i : ℕ) × (i < length hs) × (Generated gs (get_or hs i I) → ⊥))
  first_outside [] = inl tt
  first_outside (h ∷ hs) =
      ⊎_elim (λ a. ⊎_elim (λ b. inl (a, b)) (λ w. inr (suc w.0, omega (arith, w.1), w.2)) (first_outside hs))
      (λ n. inr (0, omega arith, n)) (member h)

pub quotient_law : (promise divisor_promise : Promise) (gs hs : List Pauli) → Honest promise gs → Honest divisor_promise hs
    → QuotientLaw promise divisor_promise gs hs
unfolding try_quotient
quotient_law promise divisor_promise gs hs hp hd =
    let o = partial_cmp divisor_promise promise hs gs in
    let c = compared divisor_promise promise hs gs hd hp in
    let ms = modulo divisor_promise gs hs in
    record {
      none_right = below_none ms gs hs o c;
      none_only = not_below ms gs hs o c;
      outside = λ e. ⊎_elim (λ a. absurd (below_none ms gs hs o c e (inside_by hs gs a))) (λ w. w) (first_outside promise gs hp hs);
      some_only = below_some ms gs hs o c;
      generates = λ f.
          let M = (modulo_law divisor_promise gs hs hd).generates in
          let J = joined_left gs hs f in
          record {
            there = inside_join (ms ++ hs) (gs ++ hs) gs M.there J.back;
            back = inside_join gs (gs ++ hs) (ms ++ hs) J.there M.back;
          };
    }
