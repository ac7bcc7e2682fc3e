-- Laws of results kept in the work area.
use Rattle.std.proofs.Common.{◌≡◌, refl, sym, ap, ap₂, ◌∙◌, List, [], ◌∷◌, ◌++◌, map, ℕ, zero, suc, ◌+◌, ◌*◌, ◌^◌, ◌≤◌, ◌<◌, add-one, arith, length, get_or, set, take, length-set, get_or-set_same, get_or-set_other, take-suc, cond, nat_lt}
use mathlib.Core.List.{map-append}
use mathlib.Core.Option.{Option, some, none}
use borrow.Author.Tests.{lt-ltb, le-ltb}
use Rattle.pauli.specs.Pauli.{Pauli}
use Rattle.pauli.specs.Signed.{pauli_in, list_in, paulis_in}
use Rattle.pauli_theory.specs.Membership.{Factorization}
use Rattle.pauli_group.specs.Inner.Area.{Outside}
use Rattle.factorizations.specs.Stored.{result_in, put_member, put_other, stored_in, results_in, Stored}

-- ---- one result

module _ (l : List ℕ) (i : ℕ) where
  pub result_member : get_or l i 0 < 4
      → result_in l i ≡ some (record { indexes = get_or l (i + 2) 0 * 2 ^ 64 + get_or l (i + 1) 0; exponent = get_or l i 0 })
  unfolding result_in
  result_member h = rw (lt-ltb (get_or l i 0) 4 h)

  pub result_other : 4 ≤ get_or l i 0 → result_in l i ≡ none
  unfolding result_in
  result_other h = rw (le-ltb (get_or l i 0) 4 h)

pub other_stored : (l : List ℕ) (i : ℕ) → i + 5 ≤ length l → Stored l i none (put_other l i)
other_stored l i h =
    let word = get_or-set_same l i 4 0 (omega arith) in
    record {
      kept = result_other (set l i 4) i (omega arith);
      rest = record {
        size = length-set l i 4;
        before = λ k b. get_or-set_other l i k 4 0 (λ e. omega arith);
        after = λ k b. get_or-set_other l i k 4 0 (λ e. omega arith);
      };
    }

-- three stores leave the other words
three_other : (l : List ℕ) (i a b c k : ℕ) → (k ≡ i → ⊥) → (k ≡ i + 1 → ⊥) → (k ≡ i + 2 → ⊥)
    → get_or (set (set (set l i a) (i + 1) b) (i + 2) c) k 0 ≡ get_or l k 0
three_other l i a b c k p q r =
    get_or-set_other (set (set l i a) (i + 1) b) (i + 2) k c 0 r ∙ get_or-set_other (set l i a) (i + 1) k b 0 q ∙ get_or-set_other l i k a 0 p

module _ (l : List ℕ) (i : ℕ) (h : i + 5 ≤ length l) (e low high : ℕ) where
  abbrev three : List ℕ
  three = set (set (set l i e) (i + 1) low) (i + 2) high

  word : get_or three i 0 ≡ e
  word =
      get_or-set_other (set (set l i e) (i + 1) low) (i + 2) i high 0 (λ e. omega arith)
      ∙ get_or-set_other (set l i e) (i + 1) i low 0 (λ e. omega arith) ∙ get_or-set_same l i e 0 (omega arith)

  low_word : get_or three (i + 1) 0 ≡ low
  low_word =
      get_or-set_other (set (set l i e) (i + 1) low) (i + 2) (i + 1) high 0 (λ e. omega arith)
      ∙ get_or-set_same (set l i e) (i + 1) low 0 (rw length-set (omega arith))

  high_word : get_or three (i + 2) 0 ≡ high
  high_word = get_or-set_same (set (set l i e) (i + 1) low) (i + 2) high 0 (simp length-set (omega arith))

  pub member_stored : e < 4 → Stored l i (some (record { indexes = high * 2 ^ 64 + low; exponent = e })) (put_member l i e low high)
  member_stored f = record {
    kept = result_member three i (rw word f) ∙ rw (word, low_word, high_word);
    rest = record {
      size = simp length-set;
      before = λ k b. three_other l i e low high k (λ q. omega arith) (λ q. omega arith) (λ q. omega arith);
      after = λ k b. three_other l i e low high k (λ q. omega arith) (λ q. omega arith) (λ q. omega arith);
    };
  }

-- ---- results one after the other

-- a result by the Pauli that its five words would be
abbrev by_words : Pauli → Option Factorization
by_words p = cond (nat_lt p.e 4) (some (record { indexes = p.x; exponent = p.e })) none

results_words : (ls : List (List ℕ)) → results_in ls ≡ map by_words (paulis_in ls)
unfolding results_in paulis_in result_in pauli_in
results_words [] = refl
results_words (l ∷ ls) = ap (by_words (pauli_in l 0) ∷◌) (results_words ls)

stored_words : (l : List ℕ) (i n : ℕ) → stored_in l i n ≡ map by_words (list_in l i n)
unfolding stored_in list_in result_in pauli_in
stored_words l i zero = refl
stored_words l i (suc n) = ap (by_words (pauli_in l i) ∷◌) (stored_words l (i + 5) n)

-- fives of words that are the same Paulis are the same results
pub results_stored : (ls : List (List ℕ)) (l : List ℕ) (i n : ℕ) → paulis_in ls ≡ list_in l i n → results_in ls ≡ stored_in l i n
results_stored ls l i n e = results_words ls ∙ ap (map by_words) e ∙ sym (stored_words l i n)

module _ (l x : List ℕ) where
  result_same : (i : ℕ) → ((k : ℕ) → i ≤ k → k < i + 5 → get_or x k 0 ≡ get_or l k 0) → result_in x i ≡ result_in l i
  unfolding result_in
  result_same i h = rw (h i (omega arith) (omega arith), h (i + 1) (omega arith) (omega arith), h (i + 2) (omega arith) (omega arith))

  pub stored_same : (n i : ℕ) → ((k : ℕ) → i ≤ k → k < i + 5 * n → get_or x k 0 ≡ get_or l k 0) → stored_in x i n ≡ stored_in l i n
  unfolding stored_in
  stored_same zero i h = refl
  stored_same (suc n) i h =
      ap₂ ◌∷◌ (result_same i (λ k a b. h k a (omega arith))) (stored_same n (i + 5) (λ k a b. h k (omega arith) (omega arith)))

  -- words that are no results may change
  pub stored_kept : (i n : ℕ) → Outside i n l x → (base m : ℕ) → i + n ≤ base → stored_in x base m ≡ stored_in l base m
  stored_kept i n o base m h = stored_same m base (λ k a b. o.after k (omega arith))

pub length_stored : (l : List ℕ) (i n : ℕ) → length (stored_in l i n) ≡ n
unfolding stored_in
length_stored l i zero = refl
length_stored l i (suc n) = ap suc (length_stored l (i + 5) n)

stored_snoc : (l : List ℕ) (i n : ℕ) → stored_in l i (n + 1) ≡ stored_in l i n ++ (result_in l (i + 5 * n) ∷ [])
unfolding stored_in
stored_snoc l i zero = let e : i + 5 * 0 ≡ i = omega arith in rw e
stored_snoc l i (suc n) =
    let e : i + 5 * suc n ≡ i + 5 + 5 * n = omega arith in
    let more : suc n + 1 ≡ suc (n + 1) = omega arith in
    rw (e, more) (ap (result_in l i ∷◌) (stored_snoc l (i + 5) n))

-- one more result is kept
pub stored_next : (l x : List ℕ) (base n : ℕ) (o : Option Factorization) → Stored l (base + 5 * n) o x
    → stored_in x base (n + 1) ≡ stored_in l base n ++ (o ∷ [])
stored_next l x base n o s =
    stored_snoc x base n ∙ ap₂ (λ (os : List (Option Factorization)) (r : Option Factorization). os ++ (r ∷ []))
    (stored_same l x n base (λ k a b. s.rest.before k b)) s.kept

-- the results of the first n elements of a list are kept, and now that of the next
pub results_next : {A : Type 0} (f : A → Option Factorization) (es : List A) (d : A) (l x : List ℕ) (base n : ℕ)
    → stored_in l base n ≡ map f (take n es) → n < length es → Stored l (base + 5 * n) (f (get_or es n d)) x
    → stored_in x base (n + 1) ≡ map f (take (n + 1) es)
results_next f es d l x base n h b s =
    stored_next l x base n (f (get_or es n d)) s ∙ ap (◌++ (f (get_or es n d) ∷ [])) h ∙ sym (map-append f (take n es) (get_or es n d ∷ []))
    ∙ ap (map f) (sym (take-suc es n d b) ∙ ap (λ (k : ℕ). take k es) (sym (add-one n)))
