-- Laws of searches among the Paulis of a list.
use Rattle.std.proofs.Common.{◌≡◌, ℕ, zero, suc, ◌+◌, ◌*◌, ◌/◌, ◌%◌, ◌<◌, ◌≤◌, not, ◌==◌, ◌&&◌, Bool, true, false, max, List, [], ◌∷◌, length, sym, refl, ap, ◌∙◌, ap₂, arith}
use Rattle.std.specs.List.{HoldsAt, AllWithin}
use Rattle.std.proofs.lemmas.Bool.{ne_eqb}
use lib.Bits.{bit_or}
use lib.Count.{ones, ones_step}
use lib.Pow.{mod-mod-pow}
use Rattle.binar.specs.Row.{weight}
use Rattle.binar.proofs.row.Bits.{ones_zero}
use Rattle.pauli.specs.declared.signed.Pauli.{Pauli as Held}
use Rattle.pauli.specs.Pauli.{Pauli, normal, anticommute, order_four, pauli_weight}
use Rattle.pauli.specs.Signed.{held, pauli_in, paulis_in}
use Rattle.pauli.proofs.signed.Algebra.{anticommute_lt}
use Rattle.pauli.proofs.signed.SignedLaws.{zero_bit}
use Rattle.pauli_theory.specs.Standard.{if_zero, some_order_four, anticommutes_with_some, some_anticommute, bare, some_imaginary, some_minus}
use Rattle.pauli_theory.proofs.IfZero.{if_zero_zero, if_zero_more}
use Rattle.pauli_theory.proofs.Tests.{imaginary, minus}
use Rattle.pauli_group.specs.Inner.Lists.{Tested, SomeTested}
use Rattle.pauli_group.specs.Answers.{yes_number}

pub more_than : (k : ℕ) → (k ≡ 0 → ⊥) → 0 < k
more_than zero h = absurd (h refl)
more_than (suc k) h = omega arith

-- ---- searches

-- T is the largest of numbers below 2: of each Pauli with those behind it, by its value
pub record Search (T : List Pauli → ℕ) (t : Pauli → List Pauli → ℕ) : Type 0 where
  pub none : T [] ≡ 0
  pub more : (p : Pauli) (ps : List Pauli) → T (p ∷ ps) ≡ max (t p ps) (T ps)
  pub small : (p : Pauli) (ps : List Pauli) → t p ps < 2
  pub value : (p : Pauli) (ps : List Pauli) → t (normal p) ps ≡ t p ps

pub search_lt : {T : List Pauli → ℕ} {t : Pauli → List Pauli → ℕ} → Search T t → (ps : List Pauli) → T ps < 2
search_lt s [] = omega (arith, s.none)
search_lt s (p ∷ ps) = omega (arith, s.more p ps, s.small p ps, search_lt s ps)

module _ {T : List Pauli → ℕ} {t : Pauli → List Pauli → ℕ} (s : Search T t) where
  -- t is the same of a Pauli that was read up to the value of its exponent
  pub at_read : (p : Held) (q : Pauli) (qs : List Pauli) → normal (held p) ≡ normal q → t (held p) qs ≡ t q qs
  at_read p q qs read = sym (s.value (held p) qs) ∙ ap (λ (r : Pauli). t r qs) read ∙ s.value q qs

  -- T by the first Pauli, for which t is told, and by those behind it
  pub found_first : (p : Held) (q : Pauli) (qs : List Pauli) → normal (held p) ≡ normal q → yes_number true ≡ t (held p) qs → yes_number true ≡ T (q ∷ qs)
  found_first p q qs read h = omega (arith, h, at_read p q qs read, s.more q qs, s.small q qs, search_lt s qs)

  pub past_first : (p : Held) (q : Pauli) (qs : List Pauli) → normal (held p) ≡ normal q → yes_number false ≡ t (held p) qs → T (q ∷ qs) ≡ T qs
  past_first p q qs read h = omega (arith, h, at_read p q qs read, s.more q qs)

  -- what a test of one Pauli tells is told of the list
  module _ (tells : Held → Bool → Type 0) (same : (p : Held) (qs : List Pauli) (r : Bool) → tells p r → yes_number r ≡ t (held p) qs) where
    some_found : (ls : List (List ℕ)) (k : ℕ) → k < length ls → HoldsAt (λ l. Tested tells l true) ls k → yes_number true ≡ T (paulis_in ls)
    unfolding paulis_in
    some_found [] k h f = absurd (omega arith)
    some_found (l ∷ ls) zero h f = let a = f l in found_first a.pauli (pauli_in l 0) (paulis_in ls) a.read (same a.pauli (paulis_in ls) true a.told)
    some_found (l ∷ ls) (suc k) h f =
        omega (arith, some_found ls k (omega arith) f, s.more (pauli_in l 0) (paulis_in ls), s.small (pauli_in l 0) (paulis_in ls), search_lt s (paulis_in ls))

    none_found : (ls : List (List ℕ)) → AllWithin (λ l. Tested tells l false) ls 0 (length ls) → yes_number false ≡ T (paulis_in ls)
    unfolding paulis_in
    none_found [] f = sym s.none
    none_found (l ∷ ls) f =
        let a = f 0 l (omega arith) (omega arith) in
        none_found ls (λ k d b e. f (suc k) d (omega arith) (omega arith))
        ∙ sym (past_first a.pauli (pauli_in l 0) (paulis_in ls) a.read (same a.pauli (paulis_in ls) false a.told))

    pub some_tested : (ls : List (List ℕ)) (r : Bool) → SomeTested tells ls r → yes_number r ≡ T (paulis_in ls)
    some_tested ls true h = some_found ls h.0 h.1 h.2
    some_tested ls false h = none_found ls h

-- ---- a test of a number below 2

pub yes_number_more : (k : ℕ) → k < 2 → yes_number (not (k == 0)) ≡ k
yes_number_more zero h = refl
yes_number_more (suc zero) h = refl
yes_number_more (suc (suc k)) h = absurd (omega arith)

pub yes_number_one : (k : ℕ) → k < 2 → yes_number (k == 1) ≡ k
yes_number_one zero h = refl
yes_number_one (suc zero) h = refl
yes_number_one (suc (suc k)) h = absurd (omega arith)

-- ---- the searches

pub order_four_lem : Search some_order_four (λ p ps. order_four p)
unfolding some_order_four order_four normal
order_four_lem = record { none = refl; more = λ p ps. refl; small = λ p ps. omega arith; value = λ p ps. omega arith }

pub with_some_lem : (p : Pauli) → Search (anticommutes_with_some p) (λ q qs. anticommute p q)
unfolding anticommutes_with_some anticommute normal
with_some_lem p = record { none = refl; more = λ q qs. refl; small = λ q qs. anticommute_lt p q; value = λ q qs. refl }

with_some_value : (p : Pauli) (qs : List Pauli) → anticommutes_with_some (normal p) qs ≡ anticommutes_with_some p qs
unfolding anticommutes_with_some anticommute normal
with_some_value p [] = refl
with_some_value p (q ∷ qs) = ap (max (anticommute p q)) (with_some_value p qs)

pub two_anticommute : Search some_anticommute anticommutes_with_some
unfolding some_anticommute
two_anticommute = record { none = refl; more = λ p ps. refl; small = λ p ps. search_lt (with_some_lem p) ps; value = with_some_value }

-- ---- Paulis of weight 0

no_ones : (k v : ℕ) → v ≤ k → ones v ≡ 0 → v ≡ 0
no_ones zero v h e = omega arith
no_ones (suc k) v h e =
    let half : v / 2 ≡ 0 = no_ones k (v / 2) (omega arith) (omega (arith, ones_step v)) in omega (arith, ones_step v)

module _ (p : Pauli) (e : ℕ) where
  bare_le : bare p e ≤ e
  unfolding bare if_zero
  bare_le = go (bit_or p.x p.z)
    where
      go : (s : ℕ) → if_zero s e 0 ≤ e
      go zero = omega arith
      go (suc s) = omega arith

  bare_none : pauli_weight p ≡ 0 → bare p e ≡ e
  unfolding bare pauli_weight weight
  bare_none h = if_zero_zero e 0 (no_ones (bit_or p.x p.z) (bit_or p.x p.z) (omega arith) h)

  bare_some : (pauli_weight p ≡ 0 → ⊥) → bare p e ≡ 0
  unfolding bare pauli_weight weight
  bare_some h = if_zero_more (bit_or p.x p.z) e 0 (more_than _ (λ z. h (ap ones z ∙ ones_zero)))

-- 1 if the phase is 2, else 0
abbrev two : ℕ → ℕ
two e = if_zero (e % 2) (e / 2 % 2) 0

two_is : (e : ℕ) → e % 4 ≡ 2 → two e ≡ 1
two_is e h = let one : e / 2 % 2 ≡ 1 = omega arith in if_zero_zero (e / 2 % 2) 0 (omega arith) ∙ one

two_not : (e : ℕ) → (e % 4 ≡ 2 → ⊥) → two e ≡ 0
two_not e h = go (e % 2) refl
  where
    go : (d : ℕ) → e % 2 ≡ d → two e ≡ 0
    go zero z = if_zero_zero (e / 2 % 2) 0 z ∙ zero_bit (e / 2 % 2) (omega arith) (λ o. h (omega arith))
    go (suc d) z = if_zero_more (e % 2) (e / 2 % 2) 0 (omega arith)

-- ---- searches among the Paulis of weight 0

pub search_imaginary : Search some_imaginary (λ p ps. imaginary p)
unfolding some_imaginary bare normal
search_imaginary = record {
  none = refl;
  more = λ p ps. refl;
  small = λ p ps. omega (arith, bare_le p (p.e % 2));
  value = λ p ps. ap (λ (d : ℕ). if_zero (bit_or p.x p.z) d 0) (mod-mod-pow p.e 1 1);
}

two_lt : (e : ℕ) → two e < 2
unfolding if_zero
two_lt e = go (e % 2)
  where
    go : (d : ℕ) → if_zero d (e / 2 % 2) 0 < 2
    go zero = omega arith
    go (suc d) = omega arith

two_value : (e : ℕ) → two (e % 4) ≡ two e
two_value e =
    let a : e % 4 % 2 ≡ e % 2 = omega arith in
    let half : e / 2 ≡ 2 * (e / 4) + e % 4 / 2 = omega arith in
    ap₂ (λ (c : ℕ) (d : ℕ). if_zero c d 0) a (sym (ap (λ (k : ℕ). k % 2) half ∙ even (e / 4) (e % 4 / 2)))
  where
    even : (a k : ℕ) → (2 * a + k) % 2 ≡ k % 2
    even a k = omega arith

pub search_minus : Search some_minus (λ p ps. minus p)
unfolding some_minus bare normal
search_minus = record {
  none = refl;
  more = λ p ps. refl;
  small = λ p ps. omega (arith, bare_le p (two p.e), two_lt p.e);
  value = λ p ps. ap (λ (d : ℕ). if_zero (bit_or p.x p.z) d 0) (two_value p.e);
}

pub imaginary_tested : (p : Pauli) → yes_number ((pauli_weight p == 0) && (p.e % 2 == 1)) ≡ imaginary p
imaginary_tested p = go (pauli_weight p) refl
  where
    go : (k : ℕ) → pauli_weight p ≡ k → yes_number ((k == 0) && (p.e % 2 == 1)) ≡ imaginary p
    go zero z = yes_number_one (p.e % 2) (omega arith) ∙ sym (bare_none p (p.e % 2) z)
    go (suc k) z = rw (ne_eqb (suc k) 0 (λ e. omega arith)) (sym (bare_some p (p.e % 2) (λ y. omega arith)))

two_tested : (e : ℕ) → yes_number (e % 4 == 2) ≡ two e
two_tested e = go (e % 4) refl
  where
    go : (d : ℕ) → e % 4 ≡ d → yes_number (d == 2) ≡ two e
    go zero z = sym (two_not e (λ y. omega arith))
    go (suc zero) z = sym (two_not e (λ y. omega arith))
    go (suc (suc zero)) z = sym (two_is e z)
    go (suc (suc (suc d))) z = rw (ne_eqb (suc (suc (suc d))) 2 (λ e. omega arith)) (sym (two_not e (λ y. omega arith)))

pub minus_tested : (p : Pauli) → yes_number ((pauli_weight p == 0) && (p.e % 4 == 2)) ≡ minus p
minus_tested p = go (pauli_weight p) refl
  where
    go : (k : ℕ) → pauli_weight p ≡ k → yes_number ((k == 0) && (p.e % 4 == 2)) ≡ minus p
    go zero z = two_tested p.e ∙ sym (bare_none p (two p.e) z)
    go (suc k) z = rw (ne_eqb (suc k) 0 (λ e. omega arith)) (sym (bare_some p (two p.e) (λ y. omega arith)))
