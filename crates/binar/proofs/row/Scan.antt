-- Laws of what is read off the words of a row: a bit, the test for zero, the weight, the parity of an overlap.
use mathlib.Core.Path.{◌≡◌, refl, sym, ap, ap₂, ◌∙◌, subst}
use mathlib.Core.Bool.{Bool, true, false}
use mathlib.Core.List.{List, [], ◌∷◌}
use Prim.Native.Nat.{ℕ, zero, suc, ◌+◌, ◌-◌, ◌*◌, ◌/◌, ◌%◌, ◌^◌, ◌≤◌, ◌<◌}
use native.Mathlib.Nat.{add-zero, zero-add, sub-zero, add_assoc}
use native.Mathlib.Omega.{arith}
use native.Mathlib.Decide.{dec_lt}
use borrow.Author.Tests.{eq-eqb, ne_eqb}
use lib.Bits.{bit_and, bit_xor, and_block, and_lt}
use lib.Count.{ones, ones_cat}
use lib.Dec.{eqb, eqb-suc-zero}
use lib.ListN.{length, get_or, take, drop, length-drop}
use lib.Seq.{get_or-drop, get_or-take, length-take-le}
use Rattle.std.proofs.Common.{◌&&◌, ◌↔◌, IsTrue, EachIndex}
use lib.Pow.{high, low, shr-shr, mod-pow-add, mod-mod-pow, shl_exact}
use Rattle.binar.specs.Row.{◌⊕◌, bit, weight, dot}
use Rattle.binar.specs.Words.{value, row_at}
use Rattle.binar.proofs.row.Bits.{bit_of_zero, bit_mod, ones_xor, ones_zero, dot_lt, dot_zero_l}
use Rattle.binar.proofs.row.Slice.{AreWords, value_next, row_next}

-- bits below k are the low part's, the others the high part's
pub bit_low : (k a w c : ℕ) → c < k → w < 2 ^ k → bit (a * 2 ^ k + w) c ≡ bit w c
bit_low k a w c h b = sym (bit_mod k (a * 2 ^ k + w) c h) ∙ ap (λ (v : ℕ). bit v c) (low a k b)

pub bit_high : (k a w c : ℕ) → w < 2 ^ k → bit (a * 2 ^ k + w) (k + c) ≡ bit a c
unfolding bit
bit_high k a w c h = rw (← (shr-shr (a * 2 ^ k + w) k c), high a k h)

-- the bit of column c is bit c % 64 of word c / 64
pub bit_value : (l : List ℕ) (c : ℕ) → AreWords l → bit (value l) c ≡ bit (get_or l (c / 64) 0) (c % 64)
unfolding value
bit_value [] c f = rw (bit_of_zero, bit_of_zero)
bit_value (w ∷ ws) c f = go (λ d. bit_value ws d (λ k. f (suc k))) (dec_lt c 64)
  where
    go : ((d : ℕ) → bit (value ws) d ≡ bit (get_or ws (d / 64) 0) (d % 64)) → Dec (c < 64) → bit (value ws * 2 ^ 64 + w) c ≡ bit (get_or (w ∷ ws) (c / 64) 0) (c % 64)
    go rec (yes h) = bit_low 64 (value ws) w c h (f 0) ∙ rw (quot, rest)
      where
        quot : c / 64 ≡ 0
        quot = omega arith

        rest : c % 64 ≡ c
        rest = omega arith
    go rec (no h) = rw (quot, rest) (ap (bit (value ws * 2 ^ 64 + w)) here ∙ bit_high 64 (value ws) w (c - 64) (f 0) ∙ rec (c - 64))
      where
        here : c ≡ 64 + (c - 64)
        here = omega arith

        quot : c / 64 ≡ suc ((c - 64) / 64)
        quot = omega arith

        rest : c % 64 ≡ (c - 64) % 64
        rest = omega arith

-- ---- the test for zero in the first columns

-- whether the first c columns of the row from word i on are zero
unfoldable pub zero_from : List ℕ → ℕ → ℕ → Bool
zero_from l i c = eqb (value (drop i l) % 2 ^ c) 0

module _ (l : List ℕ) (i : ℕ) (h : i < length l) (b : get_or l i 0 < 2 ^ 64) where
  cut : (c : ℕ) → value (drop i l) % 2 ^ (c + 64) ≡ (value (drop (i + 1) l) % 2 ^ c) * 2 ^ 64 + get_or l i 0
  cut c =
      ap (λ (v : ℕ). v % 2 ^ (c + 64)) (value_next l i h)
      ∙ mod-pow-add (value (drop (i + 1) l) * 2 ^ 64 + get_or l i 0) c 64
      ∙ ap₂ (λ (v : ℕ) (w : ℕ). (v % 2 ^ c) * 2 ^ 64 + w) (high (value (drop (i + 1) l)) 64 b) (low (value (drop (i + 1) l)) 64 b)

  -- a word that is not zero
  pub zero_hit : (c : ℕ) → (get_or l i 0 ≡ 0 → ⊥) → zero_from l i (c + 64) ≡ false
  unfolding zero_from
  zero_hit c n = ne_eqb (value (drop i l) % 2 ^ (c + 64)) 0 λ e. n (omega (arith, cut c))

  -- a word that is zero
  pub zero_miss : (c : ℕ) → get_or l i 0 ≡ 0 → zero_from l i (c + 64) ≡ zero_from l (i + 1) c
  unfolding zero_from
  zero_miss c e = go (value (drop (i + 1) l) % 2 ^ c) (cut c)
    where
      go : (v : ℕ) → value (drop i l) % 2 ^ (c + 64) ≡ v * 2 ^ 64 + get_or l i 0 → eqb (value (drop i l) % 2 ^ (c + 64)) 0 ≡ eqb v 0
      go zero p = eq-eqb (value (drop i l) % 2 ^ (c + 64)) 0 (omega arith)
      go (suc v) p = ne_eqb (value (drop i l) % 2 ^ (c + 64)) 0 (λ q. omega arith) ∙ sym (eqb-suc-zero v)

  -- the last word, of which c columns count
  pub zero_last : (c : ℕ) → c ≤ 64 → zero_from l i c ≡ eqb (get_or l i 0 % 2 ^ c) 0
  unfolding zero_from
  zero_last c m =
      let e : 64 ≡ (64 - c) + c = omega arith in
      let v = value (drop (i + 1) l) * 2 ^ 64 + get_or l i 0 in
      ap (λ (n : ℕ). eqb n 0)
      (ap (λ (n : ℕ). n % 2 ^ c) (value_next l i h) ∙ sym (mod-mod-pow v (64 - c) c)
      ∙ ap (λ (k : ℕ). v % 2 ^ k % 2 ^ c) (sym e) ∙ ap (λ (n : ℕ). n % 2 ^ c) (low (value (drop (i + 1) l)) 64 b))

pub zero_none : (l : List ℕ) (i : ℕ) → zero_from l i 0 ≡ true
unfolding zero_from
zero_none l i = eq-eqb (value (drop i l) % 2 ^ 0) 0 (omega arith)

-- ---- weight and overlap, word by word

pub weight_next : (l : List ℕ) (i n : ℕ) → i < length l → get_or l i 0 < 2 ^ 64 → weight (row_at l i (suc n)) ≡ ones (get_or l i 0) + weight (row_at l (i + 1) n)
unfolding weight
weight_next l i n h b = ap ones (row_next l i n h) ∙ ones_cat 64 (row_at l (i + 1) n) (get_or l i 0) b ∙ omega arith

-- the parity of s + (v + x), where e is v + x and w has the parity of s + x
sum : (s v x e w : ℕ) → e ≡ v + x → w % 2 ≡ (s + x) % 2 → (s + e % 2) % 2 ≡ (w + v % 2) % 2
sum s v x e w p q = first ∙ second
  where
    first : (s + e % 2) % 2 ≡ (s + x + v) % 2
    first = omega arith

    second : (s + x + v) % 2 ≡ (w + v % 2) % 2
    second = omega arith

pub dot_next : (l : List ℕ) (i j n : ℕ) → i < length l → j < length l → get_or l i 0 < 2 ^ 64 → get_or l j 0 < 2 ^ 64 → (s : ℕ)
    → (ones s + dot (row_at l i (suc n)) (row_at l j (suc n))) % 2
    ≡ (ones (bit_xor s (bit_and (get_or l i 0) (get_or l j 0))) + dot (row_at l (i + 1) n) (row_at l (j + 1) n)) % 2
unfolding dot ◌⊕◌
dot_next l i j n hi hj a b s =
    let x = bit_and (get_or l i 0) (get_or l j 0) in
    let v = bit_and (row_at l (i + 1) n) (row_at l (j + 1) n) in
    let e : ones (bit_and (row_at l i (suc n)) (row_at l j (suc n))) ≡ ones v + ones x =
    ap₂ (λ (p : ℕ) (q : ℕ). ones (bit_and p q)) (row_next l i n hi) (row_next l j n hj)
    ∙ ap ones (and_block 64 (row_at l (i + 1) n) (row_at l (j + 1) n) (get_or l i 0) (get_or l j 0) a b)
    ∙ ones_cat 64 v x (and_lt 64 (get_or l i 0) (get_or l j 0) a b) in
    sum (ones s) (ones v) (ones x) _ _ e (ones_xor s x)

-- ---- the same by a counter k of the words passed
pub bit_words : (l : List ℕ) (i c : ℕ) → AreWords l → bit (value (drop i l)) c ≡ bit (get_or l (i + c / 64) 0) (c % 64)
bit_words l i c f =
    bit_value (drop i l) c (λ k. subst (λ (n : ℕ). n < 2 ^ 64) (sym (get_or-drop i l k 0)) (f (i + k))) ∙ ap (λ (n : ℕ). bit n (c % 64)) (get_or-drop i l (c / 64) 0)

-- n whole words, and the c columns behind them
module _ (l : List ℕ) (f : AreWords l) where
  zero_words : (n i c : ℕ) → i + n ≤ length l → ((k : ℕ) → k < n → get_or l (i + k) 0 ≡ 0) → zero_from l i (c + 64 * n) ≡ zero_from l (i + n) c
  zero_words zero i c h z = simp (add-zero)
  zero_words (suc n) i c h z =
      let e : c + 64 * suc n ≡ c + 64 * n + 64 = omega arith in
      let p : i + 1 + n ≡ i + suc n = omega arith in
      rw e (zero_miss l i (omega arith) (f i) (c + 64 * n) (ap (λ (j : ℕ). get_or l j 0) (sym (add-zero i)) ∙ z 0 (omega arith))
      ∙ zero_words n (i + 1) c (omega arith) (λ k q. ap (λ (j : ℕ). get_or l j 0) (omega arith) ∙ z (suc k) (omega arith))
      ∙ ap (λ (j : ℕ). zero_from l j c) p)

  words_zero : (n i c : ℕ) → i + n ≤ length l → zero_from l i (c + 64 * n) ≡ true → (k : ℕ) → k < n → get_or l (i + k) 0 ≡ 0
  words_zero zero i c h t = λ k q. absurd (omega arith)
  words_zero (suc n) i c h t =
      let e : c + 64 * suc n ≡ c + 64 * n + 64 = omega arith in
      let t' : zero_from l i (c + 64 * n + 64) ≡ true = rw e at t in
      go (λ d. words_zero n (i + 1) c (omega arith) (sym (zero_miss l i (omega arith) (f i) (c + 64 * n) d) ∙ t')) (get_or l i 0) refl t'
    where
      go : (get_or l i 0 ≡ 0 → (k : ℕ) → k < n → get_or l (i + 1 + k) 0 ≡ 0) → (w : ℕ) → get_or l i 0 ≡ w → zero_from l i (c + 64 * n + 64) ≡ true
          → (k : ℕ) → k < suc n → get_or l (i + k) 0 ≡ 0
      go rest (suc w) d t' k q =
          let miss : zero_from l i (c + 64 * n + 64) ≡ false = zero_hit l i (omega arith) (f i) (c + 64 * n) (λ z. omega arith) in
          let z : ◌≡◌ {A = ℕ} 0 1 = cc in
          absurd (omega arith)
      go rest zero d t' zero q = ap (λ (j : ℕ). get_or l j 0) (add-zero i) ∙ d
      go rest zero d t' (suc k) q = ap (λ (j : ℕ). get_or l j 0) (omega arith) ∙ rest d k (omega arith)

  -- b tells whether the whole words are zero
  pub zero_split : (i c : ℕ) (b : Bool) → i + c / 64 ≤ length l
      → (IsTrue b ↔ EachIndex (take (i + c / 64 - i) (drop i l)) (λ k. get_or (take (i + c / 64 - i) (drop i l)) k 0 ≡ 0))
      → zero_from l i c ≡ (b && zero_from l (i + c / 64) (c % 64))
  zero_split i c b h t =
      let n = c / 64 in
      let m : i + n - i ≡ n = omega arith in
      let cols : c ≡ c % 64 + 64 * n = omega arith in
      let count : length (take (i + n - i) (drop i l)) ≡ n = rw m (length-take-le n (drop i l) (rw length-drop (omega arith))) in
      let word : (k : ℕ) → k < n → get_or (take (i + n - i) (drop i l)) k 0 ≡ get_or l (i + k) 0 =
      λ k q. get_or-take (i + n - i) (drop i l) k 0 (omega arith) ∙ get_or-drop i l k 0 in
      go b refl (zero_from l i (c % 64 + 64 * n)) refl cols (λ e k q. sym (word k q) ∙ t.0 e k (omega arith))
      (λ z. t.1 (λ k q. word k (omega arith) ∙ z k (omega arith)))
    where
      go : (d : Bool) → b ≡ d → (a : Bool) → zero_from l i (c % 64 + 64 * (c / 64)) ≡ a → c ≡ c % 64 + 64 * (c / 64)
          → (b ≡ true → (k : ℕ) → k < c / 64 → get_or l (i + k) 0 ≡ 0) → (((k : ℕ) → k < c / 64 → get_or l (i + k) 0 ≡ 0) → b ≡ true)
          → zero_from l i c ≡ (b && zero_from l (i + c / 64) (c % 64))
      go true d a e cols there back = rw d (ap (zero_from l i) cols ∙ zero_words (c / 64) i (c % 64) h (there d))
      go false d false e cols there back = rw d (ap (zero_from l i) cols ∙ e)
      go false d true e cols there back =
          let zeros = back (words_zero (c / 64) i (c % 64) h e) in
          let z : ◌≡◌ {A = ℕ} 0 1 = cc in
          absurd (omega arith)

-- the code's mask for the columns below k
pub one_shifted : (k : ℕ) → k < 64 → 1 * 2 ^ k % 2 ^ 64 ≡ 2 ^ k
one_shifted k h = shl_exact {a = 1} 1 k 64 (omega arith) (omega arith) ∙ omega arith

pub weight_step : (l : List ℕ) (i n k s : ℕ) → k < n → i + k < length l → AreWords l
    → s + weight (row_at l (i + k) (n - k)) ≡ s + ones (get_or l (i + k) 0) + weight (row_at l (i + (k + 1)) (n - (k + 1)))
weight_step l i n k s h b f =
    let e : n - k ≡ suc (n - (k + 1)) = omega arith in
    rw (e, weight_next l (i + k) (n - (k + 1)) b (f (i + k)), add_assoc i k 1) (sym (add_assoc s (ones (get_or l (i + k) 0)) _))

pub weight_none : (l : List ℕ) (i n k s : ℕ) → n ≤ k → s + weight (row_at l (i + k) (n - k)) ≡ s
unfolding row_at value weight
weight_none l i n k s h = let e : n - k ≡ 0 = omega arith in rw (e, ones_zero) (add-zero s)

pub dot_start : (l : List ℕ) (i j n : ℕ) → dot (row_at l i n) (row_at l j n) ≡ (ones 0 + dot (row_at l (i + 0) (n - 0)) (row_at l (j + 0) (n - 0))) % 2
dot_start l i j n = simp (add-zero, sub-zero, ones_zero, zero-add) (omega (arith, dot_lt (row_at l i n) (row_at l j n)))

pub dot_step : (l : List ℕ) (i j n k s : ℕ) → k < n → i + k < length l → j + k < length l → AreWords l
    → (ones s + dot (row_at l (i + k) (n - k)) (row_at l (j + k) (n - k))) % 2
    ≡ (ones (bit_xor s (bit_and (get_or l (i + k) 0) (get_or l (j + k) 0))) + dot (row_at l (i + (k + 1)) (n - (k + 1))) (row_at l (j + (k + 1)) (n - (k + 1)))) % 2
dot_step l i j n k s h bi bj f =
    let e : n - k ≡ suc (n - (k + 1)) = omega arith in
    rw (e, ← add_assoc i k 1, ← add_assoc j k 1) (dot_next l (i + k) (j + k) (n - (k + 1)) bi bj (f (i + k)) (f (j + k)) s)

pub dot_none : (l : List ℕ) (i j n k s : ℕ) → n ≤ k → (ones s + dot (row_at l (i + k) (n - k)) (row_at l (j + k) (n - k))) % 2 ≡ ones s % 2
unfolding row_at value
dot_none l i j n k s h = let e : n - k ≡ 0 = omega arith in rw (e, dot_zero_l 0) (ap (λ (x : ℕ). x % 2) (add-zero (ones s)))
