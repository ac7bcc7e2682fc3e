-- Laws of rows in a slice of words: a row read word by word, and a row written word by word.
use mathlib.Core.Path.{◌≡◌, refl, sym, ap, ap₂, ◌∙◌, subst}
use mathlib.Core.Logic.{◌⊎◌, inl, inr, ⊎_elim}
use mathlib.Core.List.{List, [], ◌∷◌, ◌++◌, append_assoc}
use Prim.Native.Nat.{ℕ, zero, suc, ◌+◌, ◌-◌, ◌*◌, ◌/◌, ◌%◌, ◌^◌, ◌≤◌, ◌<◌}
use native.Mathlib.Nat.{add-zero, add_assoc, mul-add, mul_assoc, one-mul, mul-le-mul_right}
use native.Mathlib.Numerals.{add-one}
use native.Mathlib.Omega.{arith}
use native.Mathlib.Decide.{dec_lt}
use lib.Bits.{bit_xor, xor_block, xor_lt}
use lib.ListN.{length, replicate, get_or, set, take, drop, take-append-drop, length-set}
use lib.Pow.{high, low}
use borrow.Rule.Slice.PartMut.{put_mid}
use lib.Seq.{drop-cons, drop-drop, take-suc-set, take-set-le, drop-set-lt, drop-set-add, get_or-set_same, get_or-set_other, set_comm}
use Rattle.binar.specs.Row.{◌⊕◌}
use Rattle.binar.specs.Words.{value, words, row_at, put_row, TwoRows}

-- each element is a word
abbrev pub AreWords : List ℕ → Type 0
AreWords l = (k : ℕ) → get_or l k 0 < 2 ^ 64

-- a word stored leaves words
pub words_set : (l : List ℕ) (i x : ℕ) → i < length l → x < 2 ^ 64 → AreWords l → AreWords (set l i x)
words_set l i x h b f k =
    elim (dec_lt i k) [
      | yes a ↦ rw (get_or-set_other l i k x 0 (λ e. omega arith)) (f k)
      | no a ↦ elim (dec_lt k i) [ yes d ↦ rw (get_or-set_other l i k x 0 (λ e. omega arith)) (f k) | no d ↦ let e : k ≡ i = omega arith in rw (e, get_or-set_same l i x 0 h) b ]
    ]

-- ---- a row read

pub value_next : (l : List ℕ) (i : ℕ) → i < length l → value (drop i l) ≡ value (drop (i + 1) l) * 2 ^ 64 + get_or l i 0
unfolding value
value_next l i h = rw (drop-cons l i 0 h, add-one i)

pub row_next : (l : List ℕ) (i n : ℕ) → i < length l → row_at l i (suc n) ≡ row_at l (i + 1) n * 2 ^ 64 + get_or l i 0
unfolding row_at value
row_next l i n h = rw (drop-cons l i 0 h, add-one i)

-- the row has no word at i
unfoldable pub Outside : ℕ → ℕ → ℕ → Type 0
Outside i j n = (i < j) ⊎ (j + n ≤ i)

-- a store outside of the row leaves the row
pub row_kept : (l : List ℕ) (i j n x : ℕ) → Outside i j n → row_at (set l i x) j n ≡ row_at l j n
unfolding row_at Outside
row_kept l i j n x =
    ⊎_elim (λ h. ap (λ (t : List ℕ). value (take n t)) (drop-set-lt j l i x h))
    (λ h. let e : i ≡ j + (i - j) = omega arith in
    ap value (ap (λ (k : ℕ). take n (drop j (set l k x))) e ∙ ap (take n) (drop-set-add j l (i - j) x) ∙ take-set-le n (drop j l) (i - j) x (omega arith)))

-- ---- a row written

pub put_none : (l : List ℕ) (i v : ℕ) → put_row l i 0 v ≡ l
unfolding put_row words
put_none l i v = rw (add-zero i) (take-append-drop i l)

-- the row's words are written as a part of the slice
pub put_part : (l ws : List ℕ) (i n v : ℕ) → ws ≡ words n v → put_mid i (i + n - i) l ws ≡ put_row l i n v
unfolding put_row
put_part l ws i n v e =
    let k : i + n - i ≡ n = omega arith in
    ap₂ (λ (s : List ℕ) (t : List ℕ). take i l ++ (s ++ t)) e (ap (λ (m : ℕ). drop m (drop i l)) k ∙ drop-drop n i l)

pub zero_words : (n : ℕ) → replicate n 0 ≡ words n 0
unfolding words
zero_words zero = refl
zero_words (suc n) = ap (0 ∷◌) (zero_words n)

pub put_first : (l : List ℕ) (i n v : ℕ) → i < length l → put_row l i (suc n) v ≡ put_row (set l i (v % 2 ^ 64)) (i + 1) n (v / 2 ^ 64)
unfolding put_row words
put_first l i n v h =
    let x = v % 2 ^ 64 in
    let e : i + suc n ≡ suc i + n = omega arith in
    rw (add-one i, take-suc-set l i x h, drop-set-lt (suc i + n) l i x (omega arith), append_assoc (take i l) (x ∷ []))
    (ap (λ (k : ℕ). take i l ++ (x ∷ (words n (v / 2 ^ 64) ++ drop k l))) e)

pub put_next : (l : List ℕ) (i n v x : ℕ) → i < length l → x < 2 ^ 64 → put_row l i (suc n) (v * 2 ^ 64 + x) ≡ put_row (set l i x) (i + 1) n v
put_next l i n v x h b =
    put_first l i n (v * 2 ^ 64 + x) h ∙ ap₂ (λ (a : ℕ) (d : ℕ). put_row (set l i a) (i + 1) n d) (low v 64 b) (high v 64 b)

-- a store outside of the row written may come first
pub put_kept : (l : List ℕ) (i j n v x : ℕ) → j + n ≤ length l → Outside i j n → set (put_row l j n v) i x ≡ put_row (set l i x) j n v
unfolding Outside
put_kept l i j zero v x h o = ap (λ (m : List ℕ). set m i x) (put_none l j v) ∙ sym (put_none (set l i x) j v)
put_kept l i j (suc n) v x h o =
    ap (λ (m : List ℕ). set m i x) (put_first l j n v (omega arith))
    ∙ put_kept (set l j (v % 2 ^ 64)) i (j + 1) n (v / 2 ^ 64) x (rw length-set (omega arith)) (⊎_elim (λ a. inl (omega arith)) (λ a. inr (omega arith)) o)
    ∙ ap (λ (m : List ℕ). put_row m (j + 1) n (v / 2 ^ 64)) (set_comm l j i (v % 2 ^ 64) x (λ e. ⊎_elim (λ a. omega arith) (λ a. omega arith) o))
    ∙ sym (put_first (set l i x) j n v (rw length-set (omega arith)))

pub length_words : (n v : ℕ) → length (words n v) ≡ n
unfolding words
length_words zero v = refl
length_words (suc n) v = ap suc (length_words n (v / 2 ^ 64))

pub length_put : (l : List ℕ) (i n v : ℕ) → i + n ≤ length l → length (put_row l i n v) ≡ length l
length_put l i zero v h = ap length (put_none l i v)
length_put l i (suc n) v h =
    ap length (put_first l i n v (omega arith)) ∙ length_put (set l i (v % 2 ^ 64)) (i + 1) n (v / 2 ^ 64) (rw length-set (omega arith)) ∙ length-set l i (v % 2 ^ 64)

-- ---- one word of each kind of step

-- the rest of two rows, once the first word of row i has been stored to
pub two_next : (l : List ℕ) (i j n x : ℕ) → TwoRows l i j (suc n) → TwoRows (set l i x) (i + 1) (j + 1) n
two_next l i j n x t = record {
  first = rw length-set (omega (arith, t.first));
  second = rw length-set (omega (arith, t.second));
  apart = ⊎_elim (λ e. inl (omega arith)) (⊎_elim (λ e. inr (inl (omega arith))) (λ e. inr (inr (omega arith)))) t.apart;
}

-- a store to the first word of one row leaves the rest of the other
pub two_kept : (l : List ℕ) (i j n x : ℕ) → TwoRows l i j (suc n) → row_at (set l i x) (j + 1) n ≡ row_at l (j + 1) n
unfolding Outside
two_kept l i j n x t =
    row_kept l i (j + 1) n x (⊎_elim (λ e. inl (omega arith)) (⊎_elim (λ e. inl (omega arith)) (λ e. inr (omega arith))) t.apart)

two_swap : (l : List ℕ) (i j n : ℕ) → TwoRows l i j n → TwoRows l j i n
two_swap l i j n t = record {
  first = t.second;
  second = t.first;
  apart = ⊎_elim (λ e. inl (sym e)) (⊎_elim (λ e. inr (inr e)) (λ e. inr (inl e))) t.apart;
}

rest_kept : (l : List ℕ) (i n x : ℕ) → row_at (set l i x) (i + 1) n ≡ row_at l (i + 1) n
unfolding Outside
rest_kept l i n x = row_kept l i (i + 1) n x (inl (omega arith))

-- the rows of n words at i and j, after the second is added b times to the first, or both are exchanged
unfoldable pub added : ℕ → List ℕ → ℕ → ℕ → ℕ → List ℕ
added b l i j n = put_row l i n (row_at l i n ⊕ b * row_at l j n)

unfoldable pub exchanged : List ℕ → ℕ → ℕ → ℕ → List ℕ
exchanged l i j n = put_row (put_row l i n (row_at l j n)) j n (row_at l i n)

-- the sum of two words, and the sum of two rows by their first words and the others
module _ (b : ℕ) (hb : b ≤ 1) (l : List ℕ) (f : AreWords l) (i j : ℕ) where
  word_times : b * get_or l j 0 < 2 ^ 64
  word_times = omega (arith, mul-le-mul_right (get_or l j 0) hb, one-mul (get_or l j 0), f j)

  word_sum : bit_xor (get_or l i 0) (b * get_or l j 0) < 2 ^ 64
  word_sum = xor_lt 64 (get_or l i 0) (b * get_or l j 0) (f i) word_times

  sum_next : (n : ℕ) → i < length l → j < length l
      → row_at l i (suc n) ⊕ b * row_at l j (suc n) ≡ (row_at l (i + 1) n ⊕ b * row_at l (j + 1) n) * 2 ^ 64 + bit_xor (get_or l i 0) (b * get_or l j 0)
  unfolding ◌⊕◌
  sum_next n hi hj =
      ap₂ (λ (v : ℕ) (w : ℕ). bit_xor v (b * w)) (row_next l i n hi) (row_next l j n hj)
      ∙ ap (bit_xor (row_at l (i + 1) n * 2 ^ 64 + get_or l i 0))
      (mul-add b (row_at l (j + 1) n * 2 ^ 64) (get_or l j 0) ∙ ap (◌+ b * get_or l j 0) (sym (mul_assoc b (row_at l (j + 1) n) (2 ^ 64))))
      ∙ xor_block 64 (row_at l (i + 1) n) (b * row_at l (j + 1) n) (get_or l i 0) (b * get_or l j 0) (f i) word_times

-- the sums of two rows' words are the words of the rows' sum
pub sum_words : (b : ℕ) → b ≤ 1 → (l : List ℕ) → AreWords l → (ws : List ℕ) (i j : ℕ) → i + length ws ≤ length l → j + length ws ≤ length l
    → ((k : ℕ) → k < length ws → get_or ws k 0 ≡ bit_xor (get_or l (i + k) 0) (b * get_or l (j + k) 0))
    → ws ≡ words (length ws) (row_at l i (length ws) ⊕ b * row_at l j (length ws))
unfolding words
sum_words b hb l f [] i j hi hj h = refl
sum_words b hb l f (w ∷ ws) i j hi hj h =
    let n = length ws in
    let v = row_at l (i + 1) n ⊕ b * row_at l (j + 1) n in
    let x = bit_xor (get_or l i 0) (b * get_or l j 0) in
    let lt : x < 2 ^ 64 = word_sum b hb l f i j in
    let e = sum_next b hb l f i j n (omega arith) (omega arith) in
    let first : w ≡ x = h 0 (omega arith) ∙ simp add-zero in
    let others : ws ≡ words n v = sum_words b hb l f ws (i + 1) (j + 1) (omega arith) (omega arith)
    (λ k q. h (suc k) (omega arith) ∙ ap₂ (λ (p : ℕ) (r : ℕ). bit_xor (get_or l p 0) (b * get_or l r 0)) (omega arith) (omega arith)) in
    rw e (ap₂ ◌∷◌ (first ∙ sym (low v 64 lt)) (others ∙ ap (words n) (sym (high v 64 lt))))

module _ (l : List ℕ) (i j n : ℕ) (f : AreWords l) (t : TwoRows l i j (suc n)) where
  added_next : (b : ℕ) → b ≤ 1 → added b l i j (suc n) ≡ added b (set l i (bit_xor (get_or l i 0) (b * get_or l j 0))) (i + 1) (j + 1) n
  unfolding added ◌⊕◌
  added_next b hb =
      let x = bit_xor (get_or l i 0) (b * get_or l j 0) in
      ap (put_row l i (suc n)) (sum_next b hb l f i j n (omega (arith, t.first)) (omega (arith, t.second)))
      ∙ put_next l i n (bit_xor (row_at l (i + 1) n) (b * row_at l (j + 1) n)) x (omega (arith, t.first)) (word_sum b hb l f i j)
      ∙ sym (ap₂ (λ (v : ℕ) (w : ℕ). put_row (set l i x) (i + 1) n (bit_xor v (b * w))) (rest_kept l i n x) (two_kept l i j n x t))

  exchanged_next : exchanged l i j (suc n)
      ≡ exchanged (set (set l i (get_or l j 0)) j (get_or l i 0)) (i + 1) (j + 1) n
  unfolding exchanged Outside
  exchanged_next =
      let x = get_or l i 0 in
      let y = get_or l j 0 in
      let A = row_at l (i + 1) n in
      let B = row_at l (j + 1) n in
      let m = set l i y in
      let o : Outside j (i + 1) n = ⊎_elim (λ e. inl (omega arith)) (⊎_elim (λ e. inr (omega arith)) (λ e. inl (omega arith))) t.apart in
      let u = two_swap m i j (suc n) (record { first = rw length-set t.first; second = rw length-set t.second; apart = t.apart }) in
      ap₂ (λ (v : ℕ) (w : ℕ). put_row (put_row l i (suc n) w) j (suc n) v) (row_next l i n (omega (arith, t.first))) (row_next l j n (omega (arith, t.second)))
      ∙ ap (λ (k : List ℕ). put_row k j (suc n) (A * 2 ^ 64 + x)) (put_next l i n B y (omega (arith, t.first)) (f j))
      ∙ put_next (put_row m (i + 1) n B) j n A x (rw (length_put m (i + 1) n B (rw length-set (omega (arith, t.first))), length-set) (omega (arith, t.second))) (f i)
      ∙ ap (λ (k : List ℕ). put_row k (j + 1) n A) (put_kept m j (i + 1) n B x (rw length-set (omega (arith, t.first))) o)
      ∙ sym (ap₂ (λ (v : ℕ) (w : ℕ). put_row (put_row (set m j x) (i + 1) n w) (j + 1) n v) (two_kept m j i n x u ∙ rest_kept l i n y) (rest_kept m j n x ∙ two_kept l i j n y t))

-- a change of the slice that keeps its length keeps the rows apart
two_length : (l m : List ℕ) (i j n : ℕ) → length m ≡ length l → TwoRows l i j n → TwoRows m i j n
two_length l m i j n e t = record { first = rw e t.first; second = rw e t.second; apart = t.apart }

-- ---- the same by a counter k: what is left of the rows at i and j once k of their n words are done
module _ (l : List ℕ) (i j n k : ℕ) (h : k < n) (t : TwoRows l (i + k) (j + k) (n - k)) where
  here : n - k ≡ suc (n - (k + 1))
  here = omega arith

  two_here : TwoRows l (i + k) (j + k) (suc (n - (k + 1)))
  two_here = rw here at t

  pub two_step : (x : ℕ) → TwoRows (set l (i + k) x) (i + (k + 1)) (j + (k + 1)) (n - (k + 1))
  two_step x = subst (λ (p : ℕ). TwoRows (set l (i + k) x) p (j + (k + 1)) (n - (k + 1))) (add_assoc i k 1)
      (subst (λ (p : ℕ). TwoRows (set l (i + k) x) (i + k + 1) p (n - (k + 1))) (add_assoc j k 1) (two_next l (i + k) (j + k) (n - (k + 1)) x two_here))

  pub two_step_both : (x y : ℕ) → TwoRows (set (set l (i + k) x) (j + k) y) (i + (k + 1)) (j + (k + 1)) (n - (k + 1))
  two_step_both x y =
      two_length (set l (i + k) x) (set (set l (i + k) x) (j + k) y) (i + (k + 1)) (j + (k + 1)) (n - (k + 1)) (length-set (set l (i + k) x) (j + k) y) (two_step x)

  by_step : (F : List ℕ → ℕ → ℕ → ℕ → List ℕ) (m : List ℕ) → F l (i + k) (j + k) (suc (n - (k + 1))) ≡ F m (i + k + 1) (j + k + 1) (n - (k + 1))
      → F l (i + k) (j + k) (n - k) ≡ F m (i + (k + 1)) (j + (k + 1)) (n - (k + 1))
  by_step F m e = ap (F l (i + k) (j + k)) here ∙ e ∙ ap₂ (λ (p : ℕ) (q : ℕ). F m p q (n - (k + 1))) (add_assoc i k 1) (add_assoc j k 1)

  module _ (f : AreWords l) where
    pub added_step : (b : ℕ) → b ≤ 1 → added b l (i + k) (j + k) (n - k) ≡ added b (set l (i + k) (bit_xor (get_or l (i + k) 0) (b * get_or l (j + k) 0))) (i + (k + 1)) (j + (k + 1)) (n - (k + 1))
    added_step b hb = by_step (added b) _ (added_next l (i + k) (j + k) (n - (k + 1)) f two_here b hb)

    pub exchanged_step : exchanged l (i + k) (j + k) (n - k)
        ≡ exchanged (set (set l (i + k) (get_or l (j + k) 0)) (j + k) (get_or l (i + k) 0)) (i + (k + 1)) (j + (k + 1)) (n - (k + 1))
    exchanged_step = by_step exchanged _ (exchanged_next l (i + k) (j + k) (n - (k + 1)) f two_here)

-- nothing is left
module _ (l : List ℕ) (i j n k : ℕ) (h : n ≤ k) where
  none : n - k ≡ 0
  none = omega arith

  pub added_none : (b : ℕ) → added b l (i + k) (j + k) (n - k) ≡ l
  unfolding added
  added_none b = rw none (put_none l (i + k) _)

  pub exchanged_none : exchanged l (i + k) (j + k) (n - k) ≡ l
  unfolding exchanged
  exchanged_none = rw none (put_none _ (j + k) _ ∙ put_none l (i + k) _)
