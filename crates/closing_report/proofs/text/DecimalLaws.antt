-- Laws of decimal digits.
use mathlib.Core.Path.{◌≡◌, refl, sym, ap, ◌∙◌}
use mathlib.Core.List.{List, [], ◌∷◌, ◌++◌}
use Prim.Native.Nat.{ℕ, zero, suc, ◌+◌, ◌-◌, ◌*◌, ◌/◌, ◌%◌, ◌^◌, ◌≤◌, ◌<◌}
use native.Mathlib.Omega.{arith}
use native.Mathlib.Decide.{dec_lt}
use borrow.Author.Tests.{lt-ltb, le-ltb}
use lib.ListN.{length, get_or, length-append, get_or-append}
use Rattle.std.specs.Fmt.{decimal}
use Rattle.std.proofs.lemmas.Fmt.{decimal_digit, decimal_step}
use Rattle.binar.proofs.Lists.{all_join}
use Rattle.pauli.specs.Support.{All}
use Rattle.closing_report.specs.Decimal.{digits_up_to, digits, value_from, DecimalLaw}

-- what holds below 10, and for n where it holds for n / 10, holds for every number
by_tenths : (P : ℕ → Type 0) → ((n : ℕ) → n < 10 → P n) → ((n : ℕ) → 10 ≤ n → P (n / 10) → P n) → (n : ℕ) → P n
by_tenths P one more n = go (suc n) n (omega arith)
  where
    go : (k n : ℕ) → n < k → P n
    go zero n h = absurd (omega arith)
    go (suc k) n h = elim (dec_lt n 10) [ yes l ↦ one n l | no l ↦ more n (omega arith) (go k (n / 10) (omega arith)) ]

module _ (k n : ℕ) where
  up_to_one : n < 10 → digits_up_to (suc k) n ≡ (48 + n) ∷ []
  unfolding digits_up_to
  up_to_one h = rw (lt-ltb n 10 h)

  up_to_more : 10 ≤ n → digits_up_to (suc k) n ≡ digits_up_to k (n / 10) ++ ((48 + n % 10) ∷ [])
  unfolding digits_up_to
  up_to_more h = rw (le-ltb n 10 h)

-- a count that is large enough says nothing
up_to_same : (j k n : ℕ) → n < j → n < k → digits_up_to j n ≡ digits_up_to k n
up_to_same zero k n h l = absurd (omega arith)
up_to_same (suc j) zero n h l = absurd (omega arith)
up_to_same (suc j) (suc k) n h l =
    elim (dec_lt n 10) [
      | yes s ↦ up_to_one j n s ∙ sym (up_to_one k n s)
      | no s ↦ up_to_more j n (omega arith) ∙ ap (◌++ ((48 + n % 10) ∷ [])) (up_to_same j k (n / 10) (omega arith) (omega arith))
          ∙ sym (up_to_more k n (omega arith))
    ]

module _ (n : ℕ) where
  digits_one : n < 10 → digits n ≡ (48 + n) ∷ []
  unfolding digits
  digits_one h = up_to_one n n h

  digits_more : 10 ≤ n → digits n ≡ digits (n / 10) ++ ((48 + n % 10) ∷ [])
  unfolding digits
  digits_more h = up_to_more n n h ∙ ap (◌++ ((48 + n % 10) ∷ [])) (up_to_same n (suc (n / 10)) (n / 10) (omega arith) (omega arith))

  length_one : n < 10 → length (digits n) ≡ 1
  length_one h = ap length (digits_one h)

  length_more : 10 ≤ n → length (digits n) ≡ length (digits (n / 10)) + 1
  length_more h = ap length (digits_more h) ∙ length-append (digits (n / 10)) ((48 + n % 10) ∷ [])

some_digit : (n : ℕ) → 0 < length (digits n)
some_digit = by_tenths (λ n. 0 < length (digits n)) (λ n h. omega (arith, length_one n h)) (λ n h p. omega (arith, length_more n h))

-- how many digits a number has at most
pub few_digits : (k n : ℕ) → n < 10 ^ suc k → length (digits n) ≤ suc k
few_digits zero n h = omega (arith, length_one n (omega arith))
few_digits (suc k) n h =
    elim (dec_lt n 10) [
      | yes l ↦ omega (arith, length_one n l)
      | no l ↦ omega (arith, length_more n (omega arith), few_digits k (n / 10) (omega arith))
    ]

-- the digits that the library writes of a number of 64 bits
pub digits_decimal : (n : ℕ) → n < 2 ^ 64 → decimal n ≡ digits n
digits_decimal =
    by_tenths (λ n. n < 2 ^ 64 → decimal n ≡ digits n) (λ n h l. decimal_digit n h ∙ sym (digits_one n h))
    (λ n h p l. decimal_step n h l ∙ ap (◌++ ((48 + n % 10) ∷ [])) (p (omega arith)) ∙ sym (digits_more n h))

-- ---- the law

value_last : (v : ℕ) (ds : List ℕ) (d : ℕ) → value_from v (ds ++ (d ∷ [])) ≡ 10 * value_from v ds + (d - 48)
unfolding value_from
value_last v [] d = refl
value_last v (e ∷ ds) d = value_last (10 * v + (e - 48)) ds d

value : (n : ℕ) → value_from 0 (digits n) ≡ n
unfolding value_from
value =
    by_tenths (λ n. value_from 0 (digits n) ≡ n) (λ n h. ap (value_from 0) (digits_one n h) ∙ omega arith)
    (λ n h p. ap (value_from 0) (digits_more n h) ∙ value_last 0 (digits (n / 10)) (48 + n % 10) ∙ omega (arith, p))

abbrev Digit : ℕ → Type 0
Digit d = (48 ≤ d) × (d < 58)

each : (n : ℕ) → All Digit (digits n)
each =
    by_tenths (λ n. All Digit (digits n)) (λ n h. rw (digits_one n h) ((omega arith, omega arith), tt))
    (λ n h p. rw (digits_more n h) (all_join Digit (digits (n / 10)) ((48 + n % 10) ∷ []) p ((omega arith, omega arith), tt)))

no_zero_first : (n : ℕ) → 0 < n → 48 < get_or (digits n) 0 0
no_zero_first =
    by_tenths (λ n. 0 < n → 48 < get_or (digits n) 0 0) (λ n h l. rw (digits_one n h) (omega arith))
    (λ n h p l. rw (digits_more n h, get_or-append (digits (n / 10)) ((48 + n % 10) ∷ []) 0 0 (some_digit (n / 10))) (p (omega arith)))

pub decimal_law : (n : ℕ) → DecimalLaw n
decimal_law n = record { value = value n; each = each n; zero_alone = λ e. digits_one n (omega arith) ∙ rw e; no_zero_first = no_zero_first n }
