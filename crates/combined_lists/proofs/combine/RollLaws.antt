-- The rolls of a line, read in turn.
use Rattle.std.proofs.Common.{◌≡◌, ℕ, ◌≤◌, ◌<◌, Bool, true, false, not, List, [], ◌∷◌, length, get_or, map, sym, refl, ap, ◌∙◌, arith, Option, Some, None, eq-eqb, ne_eqb}
use Rattle.std.specs.Prelude.{◌==◌, ◌⊎◌, is_some}
use Rattle.std.specs.Borrow.{Bor}
use Rattle.std.proofs.Math.Logic.{inl, inr}
use Rattle.std.proofs.lemmas.Bool.{cases_lt, eqb-false}
use Rattle.std.proofs.lemmas.List.{get_or_past}
use Rattle.pauli.specs.Condense.{list_of}
use Rattle.pauli.specs.Pauli.{normal}
use Rattle.pauli.specs.Roll.{Sparse, read, count_of}
use Rattle.pauli.specs.Told.{Told, answer, refused, and_then, map_told}
use Rattle.pauli.specs.declared.roll.Roll.{Roll}
use Rattle.pauli.proofs.joined.JoinLaws.{accepted}
use Rattle.pauli.proofs.roll.Told.{map_refused}
use Rattle.pauli_group.specs.Calls.{paulis}
use Rattle.combined_lists.specs.LineCall.{rolls_in, passed, sent_of}
use Rattle.combined_lists.specs.Combining.{all_read}
use Rattle.combined_lists.specs.Inner.Slots.{sent_in, list_read, lists_in}
use Rattle.combined_lists.specs.Inner.Call.{IsRoll, AreRolls}

-- ---- one roll

module _ (b : List ℕ) where
  pub none_passes : {A : Type 0} (a : A) → true ≡ (length b == 0) → passed (answer a) ≡ all_read (b ∷ [])
  unfolding passed map_told all_read
  none_passes a e = rw (← e)

  module _ (sent : false ≡ (length b == 0)) where
    alone : all_read (b ∷ []) ≡ and_then (read b) (λ ps. answer (tt {0}))
    unfolding all_read
    alone = rw (← sent)

    pub roll_refused : (A : Type 0) (m p : ℕ) → refused m p ≡ count_of b → passed {A = A} (refused m p) ≡ all_read (b ∷ [])
    unfolding passed map_told and_then count_of
    roll_refused A m p e = rw (alone, map_refused length (read b) m p (sym e))

    pub roll_passes : {A : Type 0} (a : A) (n : ℕ) → answer n ≡ count_of b → passed (answer a) ≡ all_read (b ∷ [])
    unfolding passed map_told and_then
    roll_passes a n e = rw (alone, (accepted b n (sym e)).0)

    pub roll_is : (r : Roll) → answer r.count ≡ count_of b → r.bytes.now ≡ b → IsRoll b (Some r)
    roll_is r e same = (omega (arith, eqb-false (length b) 0 (sym sent)), same, (accepted b r.count (sym e)).0)

-- ---- the rolls in turn

-- the first, then the others
abbrev then_others : List ℕ → Told (Unit {0}) → Told (Unit {0})
then_others b others = and_then (all_read (b ∷ [])) (λ done. others)

in_turn : (b : List ℕ) (bs : List (List ℕ)) → all_read (b ∷ bs) ≡ then_others b (all_read bs)
unfolding all_read and_then
in_turn b bs = go (length b == 0) refl
  where
    told : (t : Told (List Sparse)) → and_then t (λ ps. all_read bs) ≡ and_then (and_then t (λ ps. answer (tt {0}))) (λ done. all_read bs)
    told (answer ps) = refl
    told (refused m p) = refl

    go : (x : Bool) → (length b == 0) ≡ x → all_read (b ∷ bs) ≡ then_others b (all_read bs)
    go true e = rw e
    go false e = rw e (told (read b))

-- what is told of each of four rolls, put together
pub four_read : (rolls : List (Bor (List ℕ))) (roll : Bor (List ℕ)) → length rolls ≡ 4 → (o p q r : Told (Unit {0}))
    → o ≡ all_read ((get_or rolls 0 roll).now ∷ []) → p ≡ all_read ((get_or rolls 1 roll).now ∷ [])
    → q ≡ all_read ((get_or rolls 2 roll).now ∷ []) → r ≡ all_read ((get_or rolls 3 roll).now ∷ [])
    → and_then o (λ a. and_then p (λ b. and_then q (λ c. r))) ≡ all_read (rolls_in rolls)
four_read [] roll e o p q r first second third fourth = absurd (omega arith)
four_read (a ∷ []) roll e o p q r first second third fourth = absurd (omega arith)
four_read (a ∷ b ∷ []) roll e o p q r first second third fourth = absurd (omega arith)
four_read (a ∷ b ∷ c ∷ []) roll e o p q r first second third fourth = absurd (omega arith)
four_read (a ∷ b ∷ c ∷ d ∷ []) roll e o p q r first second third fourth =
    rw (first, second, third, fourth)
    (sym (in_turn a.now _ ∙ ap (then_others a.now) (in_turn b.now _ ∙ ap (then_others b.now) (in_turn c.now (d.now ∷ [])))))
four_read (a ∷ b ∷ c ∷ d ∷ f ∷ rest) roll e o p q r first second third fourth = absurd (omega arith)

-- ---- rolls that are read

module _ {rolls : List (List ℕ)} {sent : List (Option Roll)} (are : AreRolls rolls sent) where
  pub sent_same : (a : ℕ) → sent_in sent a ≡ sent_of rolls a
  unfolding sent_of
  sent_same a = by (cases_lt a 4)
    where
      of_roll : (o : Option Roll) → IsRoll (get_or rolls a []) o → is_some o ≡ not (length (get_or rolls a []) == 0)
      of_roll None h = rw (eq-eqb _ _ h)
      of_roll (Some r) h = sym (ap not (ne_eqb _ _ (λ q. omega (arith, h.0, q))))

      by : (a < 4) ⊎ (4 ≤ a) → sent_in sent a ≡ not (length (get_or rolls a []) == 0)
      by (inl h) = of_roll (get_or sent a None) (are.each a h)
      by (inr h) = rw (get_or_past sent a None (omega (arith, are.read)), get_or_past rolls a [] (omega (arith, are.lent)))

  pub list_known : (a : ℕ) → sent_of rolls a ≡ true
      → (ps : List Sparse) × (read (get_or rolls a []) ≡ answer ps) × (lists_in sent a ≡ map normal (paulis ps))
  unfolding list_read
  list_known a s = by (cases_lt a 4)
    where
      of_roll : (o : Option Roll) → IsRoll (get_or rolls a []) o → is_some o ≡ true
          → (ps : List Sparse) × (read (get_or rolls a []) ≡ answer ps) × (list_read o ≡ map normal (paulis ps))
      of_roll None h e = absurd (cc)
      of_roll (Some r) h e = (list_of (get_or rolls a []), h.2, ap (λ b. map normal (paulis (list_of b))) h.1)

      by : (a < 4) ⊎ (4 ≤ a) → (ps : List Sparse) × (read (get_or rolls a []) ≡ answer ps) × (lists_in sent a ≡ map normal (paulis ps))
      by (inl h) = of_roll (get_or sent a None) (are.each a h) (sent_same a ∙ s)
      by (inr h) = absurd (let past = get_or_past sent a None (omega (arith, are.read)) in let e = sent_same a ∙ s in let none : false ≡ true = rw past at e in cc)
