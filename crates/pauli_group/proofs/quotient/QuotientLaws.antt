-- Laws of the call for the quotient.
use Rattle.std.proofs.Common.{◌≡◌, ℕ, ◌≤◌, Bool, true, false, not, List, ◌++◌, length, sym, refl, ap, ◌∙◌, subst, ⊎_elim, true≢false, arith}
use mathlib.Core.List.Memᴰ
use mathlib.Core.List.Memᴰ.{append_cases as in-append}
use mathlib.Core.List.{Memᴰ as Mem}
use Rattle.pauli.specs.Roll.{Sparse, numbers, support}
use mathlib.Core.Option.{some, none}
use Rattle.pauli.proofs.roll.ListSupport.{numbers_append, support_length}
use Rattle.pauli.specs.Pauli.{Pauli}
use Rattle.pauli_theory.specs.Group.{Promise}
use Rattle.pauli_theory.specs.Modulo.{modulo, if_below, try_quotient}
use Rattle.pauli_theory.specs.Order.{Order, equal, less, greater, no_order, partial_cmp}
use Rattle.pauli_group.specs.Inner.Compare.{is_below}

-- the other way round two lists have as many qubits
pub swapped_few : (ps qs : List Sparse) (k : ℕ) → length (support (ps ++ qs)) ≤ k → length (support (qs ++ ps)) ≤ k
swapped_few ps qs k h = omega (arith, h, support_length (qs ++ ps) (ps ++ qs) inside)
  where
    inside : (n : ℕ) → Mem n (numbers (qs ++ ps)) → Mem n (numbers (ps ++ qs))
    inside n m =
        subst (Mem n) (sym (numbers_append ps qs))
        (⊎_elim (λ a. Memᴰ.append_right (numbers ps) a) (λ a. Memᴰ.append_left (numbers qs) a)
        (in-append (numbers qs) (subst (Mem n) (numbers_append qs ps) m)))

turned : (b : Bool) → b ≡ not (not b)
turned true = refl
turned false = refl

module _ (left right : Promise) (gs hs : List Pauli) (order : Order) (e : order ≡ partial_cmp right left hs gs) (b : Bool) (test : b ≡ is_below order) where
  below_none : (o : Order) → is_below o ≡ false → if_below o (modulo right gs hs) ≡ none
  unfolding if_below
  below_none equal f = absurd (true≢false f)
  below_none less f = absurd (true≢false f)
  below_none greater f = refl
  below_none no_order f = refl

  below_some : (o : Order) → is_below o ≡ true → if_below o (modulo right gs hs) ≡ some (modulo right gs hs)
  unfolding if_below
  below_some equal f = refl
  below_some less f = refl
  below_some greater f = absurd (true≢false (sym f))
  below_some no_order f = absurd (true≢false (sym f))

  pub quotient_none : not b ≡ true → try_quotient left right gs hs ≡ none
  unfolding try_quotient
  quotient_none f = rw (← e) (below_none order (sym test ∙ turned b ∙ ap not f))

  pub quotient_some : not b ≡ false → try_quotient left right gs hs ≡ some (modulo right gs hs)
  unfolding try_quotient
  quotient_some f = rw (← e) (below_some order (sym test ∙ turned b ∙ ap not f))
