-- Laws of the numbers of subsets: rows of Pascal's triangle, and sets chosen position by position.
use Rattle.std.proofs.Common.{◌≡◌, ℕ, zero, suc, ◌+◌, ◌-◌, ◌*◌, ◌%◌, ◌^◌, ◌<◌, ◌≤◌, List, ◌∷◌, length, get_or, set, replicate, sym, refl, ap, ◌∙◌, ap₂, add-zero, mul_assoc, pow-suc, mul-zero, mul-one, mul-add, add-one, arith, length-set, get_or-set_other, get_or-set_same, pow_pos, pow_mono}
use native.Mathlib.Decide.{dec_lt}
use lib.ListN.{get_or-replicate}
use Rattle.pauli_theory.specs.Listing.{binomial, chosen_at, of_sizes_at, subset_at}
use Rattle.pauli_theory.proofs.ListingSubsets.{binomial_zero, binomial_past}
use Rattle.pauli_theory.proofs.ListingNumbers.{at_with, at_without, sizes_below, sizes_past}
use Rattle.pauli_group.specs.Inner.Listed.{RowOf}

-- ---- a row of Pascal's triangle

pub binomial_le : (n k : ℕ) → binomial n k ≤ 2 ^ n
unfolding binomial
binomial_le zero zero = omega arith
binomial_le (suc n) zero = pow_pos (suc n)
binomial_le zero (suc k) = omega arith
binomial_le (suc n) (suc k) = omega (arith, pow-suc 2 n, binomial_le n k, binomial_le n (suc k))

pub binomial_small : (n k : ℕ) → n ≤ 16 → binomial n k ≤ 65536
binomial_small n k h = omega (arith, binomial_le n k, pow_mono {i = n} {j = 16} h)

-- the entries past k are those of the next row
pub record RowPart (n k : ℕ) (row : List ℕ) : Type 0 where
  pub size : length row ≡ 17
  pub few : k ≤ 16
  pub low : (j : ℕ) → j ≤ k → get_or row j 0 ≡ binomial n j
  pub next : (j : ℕ) → k < j → j ≤ 16 → get_or row j 0 ≡ binomial (n + 1) j

module _ (n : ℕ) where
  pascal : (k : ℕ) → 0 < k → binomial n k + binomial n (k - 1) ≡ binomial (n + 1) k
  unfolding binomial
  pascal zero h = absurd (omega arith)
  pascal (suc k) h =
      let e : suc k - 1 ≡ k = omega arith in
      let s : n + 1 ≡ suc n = omega arith in
      rw (e, s) (omega arith)

  module _ (k : ℕ) (row : List ℕ) (r : RowPart n k row) where
    pub row_small : n < 16 → get_or row k 0 + get_or row (k - 1) 0 < 2 ^ 64
    row_small h =
        let a : k - 1 ≤ k = omega arith in
        omega (arith, r.low k (omega arith), r.low (k - 1) a, binomial_small n k (omega arith), binomial_small n (k - 1) (omega arith))

    pub row_step : 0 < k → RowPart n (k - 1) (set row k (get_or row k 0 + get_or row (k - 1) 0))
    row_step h =
        let v = get_or row k 0 + get_or row (k - 1) 0 in
        let a : k - 1 ≤ k = omega arith in
        record {
          size = length-set row k v ∙ r.size;
          few = omega (arith, r.few);
          low = λ j l. get_or-set_other row k j v 0 (λ e. omega arith) ∙ r.low j (omega arith);
          next = λ j l m. elim (dec_lt k j) [
            | yes y ↦ get_or-set_other row k j v 0 (λ e. omega arith) ∙ r.next j y m
            | no z ↦
                let e : j ≡ k = omega arith in
                ap (λ (q : ℕ). get_or (set row k v) q 0) e ∙ get_or-set_same row k v 0 (omega (arith, r.size, r.few))
                ∙ ap₂ (λ (x : ℕ) (y : ℕ). x + y) (r.low k (omega arith)) (r.low (k - 1) a) ∙ pascal k h ∙ ap (binomial (n + 1)) (sym e)
          ];
        }

    pub row_end : k ≤ 0 → RowOf (n + 1) row
    row_end h = record {
      size = r.size;
      entries = λ j m. elim (dec_lt 0 j) [
        | yes y ↦ r.next j (omega arith) m
        | no z ↦
            let e : j ≡ 0 = omega arith in
            r.low j (omega arith) ∙ ap (binomial n) e ∙ binomial_zero n ∙ sym (binomial_zero (n + 1)) ∙ ap (binomial (n + 1)) (sym e)
      ];
    }

-- the first row
pub row_first : RowOf 0 (1 ∷ replicate 16 0)
row_first = record { size = refl; entries = go }
  where
    go : (k : ℕ) → k ≤ 16 → get_or (1 ∷ replicate 16 0) k 0 ≡ binomial 0 k
    go zero h = sym (binomial_zero 0)
    go (suc k) h = get_or-replicate 16 k 0 0 (omega arith) ∙ sym (binomial_past 0 (suc k) (omega arith))

-- ---- a set chosen position by position

chosen_none : (n i : ℕ) → chosen_at n 0 i ≡ 0
unfolding chosen_at
chosen_none zero i = refl
chosen_none (suc n) i = refl

pub chosen_end : (k i : ℕ) → chosen_at 0 k i ≡ 0
unfolding chosen_at
chosen_end zero i = refl
chosen_end (suc k) i = refl

module _ (p left bits number : ℕ) where
  -- no more positions are chosen
  pub choose_none : (size : ℕ) → size ≡ 0
      → bits + 2 ^ (p + 1) * chosen_at left size number ≡ bits + 2 ^ p * chosen_at (left + 1) size number
  choose_none size e = rw (e, chosen_none left number, chosen_none (left + 1) number, mul-zero, mul-zero)

  twice : (a : ℕ) → 2 ^ (p + 1) * a ≡ 2 ^ p * (2 * a)
  twice a = ap (◌* a) (ap (2 ^◌) (add-one p) ∙ pow-suc 2 p) ∙ mul_assoc (2 ^ p) 2 a

  -- position p is chosen, or not
  pub choose_with : (size : ℕ) → (size ≡ 0 → ⊥) → number < binomial left (size - 1)
      → bits + 2 ^ p + 2 ^ (p + 1) * chosen_at left (size - 1) number ≡ bits + 2 ^ p * chosen_at (left + 1) size number
  choose_with zero some h = absurd (some refl)
  choose_with (suc k) some h =
      let e : suc k - 1 ≡ k = omega arith in
      let l : number < binomial left k = rw e at h in
      rw (e, add-one left, at_with left k number l)
      (omega (arith, twice (chosen_at left k number), mul-add (2 ^ p) 1 (2 * chosen_at left k number), mul-one (2 ^ p)))

  pub choose_without : (size : ℕ) → (size ≡ 0 → ⊥) → binomial left (size - 1) ≤ number
      → bits + 2 ^ (p + 1) * chosen_at left size (number - binomial left (size - 1)) ≡ bits + 2 ^ p * chosen_at (left + 1) size number
  choose_without zero some h = absurd (some refl)
  choose_without (suc k) some h =
      let e : suc k - 1 ≡ k = omega arith in
      let l : binomial left k ≤ number = rw e at h in
      rw (e, add-one left, at_without left k number l) (ap (bits +◌) (twice (chosen_at left (suc k) (number - binomial left k))))

-- ---- sizes in turn

module _ (n k number : ℕ) where
  more : k < n → n - k ≡ suc (n - (k + 1))
  more h = omega arith

  pub size_hit : k < n → number < binomial n k → of_sizes_at (n - k) n k number ≡ chosen_at n k number
  size_hit h l = ap (λ (f : ℕ). of_sizes_at f n k number) (more h) ∙ sizes_below (n - (k + 1)) n k number l

  pub size_miss : k < n → binomial n k ≤ number → of_sizes_at (n - k) n k number ≡ of_sizes_at (n - (k + 1)) n (k + 1) (number - binomial n k)
  size_miss h l =
      ap (λ (f : ℕ). of_sizes_at f n k number) (more h) ∙ sizes_past (n - (k + 1)) n k number l
      ∙ ap (λ (j : ℕ). of_sizes_at (n - (k + 1)) n j (number - binomial n k)) (sym (add-one k))

  pub size_last : k ≤ n → n ≤ k → of_sizes_at (n - k) n k number ≡ chosen_at n n number
  unfolding of_sizes_at
  size_last a b =
      let e : n - k ≡ 0 = omega arith in
      let s : k ≡ n = omega arith in
      ap (λ (f : ℕ). of_sizes_at f n k number) e ∙ ap (λ (j : ℕ). chosen_at n j number) s

pub size_start : (n i : ℕ) → subset_at n i ≡ of_sizes_at (n - 0) n 0 i
unfolding subset_at
size_start n i = let e : n ≡ n - 0 = omega arith in ap (λ (f : ℕ). of_sizes_at f n 0 i) e

-- ---- powers

pub pow_small : (p : ℕ) → p ≤ 16 → 2 ^ p ≤ 65536
pow_small p h = pow_mono {i = p} {j = 16} h

pub one_shifted : (p : ℕ) → p ≤ 16 → 1 * 2 ^ p % 2 ^ 64 ≡ 2 ^ p
one_shifted p h = omega (arith, pow_small p h)

-- ---- from the first position to the last

pub choice_end : (n p k i bits : ℕ) → n ≤ p → bits + 2 ^ p * chosen_at (n - p) k i ≡ bits
choice_end n p k i bits h = let e : n - p ≡ 0 = omega arith in rw (e, chosen_end k i, mul-zero) (add-zero bits)
