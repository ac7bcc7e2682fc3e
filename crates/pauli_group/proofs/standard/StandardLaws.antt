-- Laws of the standard generators in the work area: how they are made of the products, and what they tell.
use Rattle.std.proofs.Common.{◌≡◌, Bool, true, false, not, ◌&&◌, ◌<◌, ℕ, zero, suc, ◌+◌, ◌-◌, ◌*◌, ◌%◌, ◌≤◌, max, List, [], ◌∷◌, ◌++◌, map, length, take, drop, sym, refl, ap, ◌∙◌, ap₂, arith, length-append, length-take-le, take_at, drop_at}
use lib.ListN.{length-map}
use Rattle.pauli.specs.Pauli.{Pauli}
use Rattle.pauli.specs.Signed.{list_in}
use Rattle.pauli.proofs.write.Writers.{length_list}
use Rattle.pauli_theory.specs.Standard.{if_zero, exponent_mod, appended, some_order_four, some_anticommute, some_imaginary, some_minus, step_of}
use Rattle.pauli_theory.proofs.StandardLaw.{appended_count}
use Rattle.pauli_theory.proofs.IfZero.{if_zero_zero, if_zero_more}
use Rattle.pauli_group.specs.Inner.Area.{standard_at, Outside}
use Rattle.pauli_group.specs.Inner.Lists.{from_products, stabilizer_of}
use Rattle.pauli_group.specs.Answers.{yes_number}
use Rattle.pauli_group.proofs.list.ListLaws.{list_append, outside_join, outside_wider}
use Rattle.pauli_group.proofs.scan.PhaseLaws.{modulus_in}

-- ---- tests

pub yes_number_not : (b : Bool) → yes_number (not b) ≡ if_zero (yes_number b) 1 0
unfolding if_zero
yes_number_not true = refl
yes_number_not false = refl

none_of_three : (a b c : Bool) → yes_number ((not a && not b) && not c) ≡ if_zero (max (yes_number a) (max (yes_number b) (yes_number c))) 1 0
none_of_three true b c = sym (if_zero_more _ 1 0 (omega arith))
none_of_three false true c = sym (if_zero_more _ 1 0 (omega arith))
none_of_three false false true = sym (if_zero_more _ 1 0 (omega arith))
none_of_three false false false = sym (if_zero_zero 1 0 refl)

-- ---- what the standard generators tell

-- the tests a, b and c of the code
module _ (clash : ℕ) (ps : List Pauli) (a b c : Bool) (ea : yes_number a ≡ clash) (eb : yes_number b ≡ some_order_four ps) (ec : yes_number c ≡ some_minus ps) where
  pub stabilizer_found : yes_number ((not a && not b) && not c) ≡ stabilizer_of clash ps
  unfolding stabilizer_of
  stabilizer_found = rw (← ea, ← eb, ← ec) (none_of_three a b c)

-- 4 where a stabilizer group is told, else 2
step_even : (n : ℕ) → ◌≡◌ {A = ℕ} (if_zero (if_zero {X = ℕ} n 1 0) 2 4) (if_zero n 4 2)
unfolding if_zero
step_even zero = refl
step_even (suc n) = refl

pub step_found : (clash : ℕ) (ps : List Pauli) (s : Bool) → yes_number s ≡ stabilizer_of clash ps → (i : Bool) → yes_number i ≡ some_imaginary ps
    → if_zero (yes_number i) (if_zero (yes_number s) 2 4) 1 ≡ step_of clash ps
unfolding step_of stabilizer_of
step_found clash ps s es i ei = rw (ei, es) (ap (λ (k : ℕ). if_zero (some_imaginary ps) k 1) (step_even (max clash (max (some_order_four ps) (some_minus ps)))))

-- ---- the standard generators, made of the products

-- only whether the list is empty matters
pub appended_map : (m : ℕ) (f : Pauli → Pauli) (ps : List Pauli) → appended m (map f ps) ≡ appended m ps
unfolding appended
appended_map zero f ps = refl
appended_map (suc zero) f ps = refl
appended_map (suc (suc zero)) f ps = refl
appended_map (suc (suc (suc m))) f [] = refl
appended_map (suc (suc (suc m))) f (p ∷ ps) = refl

-- one for each nonzero row, and at most one power of i
pub from_products_few : (r : ℕ) (qs : List Pauli) → r ≤ length qs → length (from_products r qs) ≤ r + 1
unfolding from_products if_zero
from_products_few r qs h = go (max (some_order_four ps) (some_anticommute ps))
  where
    k : ℕ
    k = modulus_in (drop r qs)

    ps : List Pauli
    ps = map (exponent_mod k) (take r qs)

    size : length ps ≡ r
    size = length-map (take r qs) (exponent_mod k) ∙ length-take-le r qs h

    go : (b : ℕ) → length (if_zero b (ps ++ appended k ps) (map (exponent_mod 2) ps ++ appended (k % 2) ps)) ≤ r + 1
    go zero = omega (arith, length-append ps (appended k ps), appended_count k ps, size)
    go (suc b) = omega (arith, length-append (map (exponent_mod 2) ps) (appended (k % 2) ps), length-map ps (exponent_mod 2), appended_count (k % 2) ps, size)

module _ (w : List ℕ) (n rank : ℕ) (h : rank ≤ n) where
  abbrev made : List Pauli
  made = from_products rank (list_in w standard_at n)

  abbrev front : List Pauli
  front = list_in w standard_at rank

  abbrev back : List Pauli
  back = list_in w (standard_at + 5 * rank) (n - rank)

  abbrev m : ℕ
  m = modulus_in back

  abbrev ps : List Pauli
  ps = map (exponent_mod m) front

  parts : list_in w standard_at n ≡ front ++ back
  parts = let e : n ≡ rank + (n - rank) = omega arith in ap (list_in w standard_at) e ∙ list_append w standard_at rank (n - rank)

  made_is : made
      ≡ if_zero (max (some_order_four ps) (some_anticommute ps)) (ps ++ appended m ps) (map (exponent_mod 2) ps ++ appended (m % 2) ps)
  unfolding from_products
  made_is =
      let size : length front ≡ rank = length_list w standard_at rank in
      let a : take rank (list_in w standard_at n) ≡ front = ap (take rank) parts ∙ take_at front back rank size in
      let b : drop rank (list_in w standard_at n) ≡ back = ap (drop rank) parts ∙ drop_at front back rank size in
      rw (a, b)

  -- what the code is to tell and to leave
  abbrev Standardized : ℕ → List ℕ → Type 0
  Standardized r x = (r ≡ length made) × ((list_in x standard_at r ≡ made) × Outside standard_at (5 * n + 5) w x)

  finished : (u x : List ℕ) (r : ℕ) (all : List Pauli) → all ≡ made → Outside standard_at (5 * rank) w u
      → r ≡ length all → list_in x standard_at r ≡ all → Outside (standard_at + 5 * rank) 5 u x → Standardized r x
  finished u x r all e o a b p = (
    a ∙ ap length e,
    (
      b ∙ e,
      outside_join (outside_wider standard_at (5 * n + 5) o (omega arith) (omega arith))
          (outside_wider standard_at (5 * n + 5) p (omega arith) (omega arith)),
    ),
  )

  -- the slice u, in which the front has its exponents mod k
  module _ (k : ℕ) (e : k ≡ m) (u : List ℕ) (l : list_in u standard_at rank ≡ map (exponent_mod k) front)
      (o : Outside standard_at (5 * rank) w u) where
    abbrev qs : List Pauli
    qs = list_in u standard_at rank

    abbrev bad : ℕ
    bad = max (some_order_four qs) (some_anticommute qs)

    made_here : made ≡ if_zero bad (qs ++ appended k qs) (map (exponent_mod 2) qs ++ appended (k % 2) qs)
    made_here =
        made_is
        ∙ ap₂
        (λ (rs : List Pauli) (j : ℕ). if_zero (max (some_order_four rs) (some_anticommute rs)) (rs ++ appended j rs)
        (map (exponent_mod 2) rs ++ appended (j % 2) rs)) (sym (l ∙ ap (λ (j : ℕ). map (exponent_mod j) front) e)) (sym e)

    pub made_plain : (r : ℕ) (x : List ℕ) → bad ≡ 0
        → r ≡ length (qs ++ appended k qs) → list_in x standard_at r ≡ qs ++ appended k qs
        → Outside (standard_at + 5 * rank) 5 u x → Standardized r x
    made_plain r x z =
        finished u x r (qs ++ appended k qs)
        (sym (made_here ∙ if_zero_zero (qs ++ appended k qs) (map (exponent_mod 2) qs ++ appended (k % 2) qs) z)) o

    pub made_halved : (r : ℕ) (v x : List ℕ) → 0 < bad
        → list_in v standard_at rank ≡ map (exponent_mod 2) qs → Outside standard_at (5 * rank) u v
        → r ≡ length (list_in v standard_at rank ++ appended (k % 2) (list_in v standard_at rank))
        → list_in x standard_at r ≡ list_in v standard_at rank ++ appended (k % 2) (list_in v standard_at rank)
        → Outside (standard_at + 5 * rank) 5 v x → Standardized r x
    made_halved r v x z half p =
        finished v x r (list_in v standard_at rank ++ appended (k % 2) (list_in v standard_at rank))
        (ap (λ (rs : List Pauli). rs ++ appended (k % 2) rs) half
        ∙ ap (map (exponent_mod 2) qs ++◌) (appended_map (k % 2) (exponent_mod 2) qs)
        ∙ sym (made_here ∙ if_zero_more bad (qs ++ appended k qs) (map (exponent_mod 2) qs ++ appended (k % 2) qs) z))
        (outside_join o p)
