-- Laws of the members of a set of places, which an iterator hands out one by one.
use Rattle.std.proofs.Common.{◌≡◌, ℕ, zero, suc, ◌+◌, ◌-◌, ◌*◌, ◌/◌, ◌%◌, ◌^◌, ◌<◌, ◌≤◌, List, [], ◌∷◌, ◌++◌, length, get_or, take, drop, sym, refl, ap, ◌∙◌, arith, drop-cons, drop-drop, drop_of_length-le, add-zero, ap₂, mul_assoc, mul_comm, pow-suc, pow_pos}
use Rattle.std.proofs.lemmas.Nat.{and_block, pow-add}
use Rattle.std.specs.Int.Bits.{bit_and, and_self, and_zero_l, and_zero_r}
use lib.Arith.{half_le}
use lib.Count.{under, count_trailing_zeros}
use Rattle.pauli.specs.declared.places.Places.{Places}
use Rattle.pauli.specs.Pauli.{cons_if, select}
use Rattle.pauli.specs.PlaceSet.{set_in}
use Rattle.pauli.specs.Sets.{members_from, members}
use Rattle.pauli.proofs.condense.Sets.{members_lowest}

-- ---- the elements of a list at indexes, of which those past its end have none

unfoldable pub at_indexes {ℓ} : {A : Type ℓ} → List ℕ → List A → List A
at_indexes [] l = []
at_indexes (i ∷ is) l = take 1 (drop i l) ++ at_indexes is l

pub at_hit : {A : Type 0} (l : List A) (i : ℕ) (is : List ℕ) (d : A) → i < length l → at_indexes (i ∷ is) l ≡ get_or l i d ∷ at_indexes is l
unfolding at_indexes
at_hit l i is d h = rw (drop-cons l i d h) refl

pub at_past : {A : Type 0} (l : List A) (i : ℕ) (is : List ℕ) → length l ≤ i → at_indexes (i ∷ is) l ≡ at_indexes is l
unfolding at_indexes
at_past l i is h = rw (drop_of_length-le l h) refl

select_zero : {A : Type 0} (l : List A) → select 0 l ≡ []
unfolding select cons_if
select_zero [] = refl
select_zero (a ∷ l) = select_zero l

module _ {A : Type 0} (l : List A) where
  select_step : (w q : ℕ) (ms : List ℕ) (rest : List A) → drop q l ≡ rest → select (w / 2) (drop 1 rest) ≡ at_indexes ms l → select w rest ≡ at_indexes (cons_if (w % 2) q ms) l
  unfolding select cons_if at_indexes
  select_step w q ms [] e h = h ∙ sym (go (w % 2))
    where
      go : (d : ℕ) → at_indexes (cons_if d q ms) l ≡ at_indexes ms l
      go zero = refl
      go (suc d) = ap (λ (x : List A). take 1 x ++ at_indexes ms l) e
  select_step w q ms (a ∷ rest) e h = ap (cons_if (w % 2) a) h ∙ go (w % 2)
    where
      go : (d : ℕ) → cons_if d a (at_indexes ms l) ≡ at_indexes (cons_if d q ms) l
      go zero = refl
      go (suc d) = sym (ap (λ (x : List A). take 1 x ++ at_indexes ms l) e)

  select_from : (n q v : ℕ) → v ≤ n → select v (drop q l) ≡ at_indexes (members_from n q v) l
  unfolding members_from at_indexes
  select_from zero q zero h = select_zero (drop q l)
  select_from zero q (suc v) h = absurd (omega arith)
  select_from (suc n) q zero h = select_zero (drop q l)
  select_from (suc n) q (suc v) h =
      let e : q + 1 ≡ suc q = omega arith in
      select_step (suc v) q _ (drop q l) refl (ap (select (suc v / 2)) (drop-drop 1 q l ∙ ap (λ (k : ℕ). drop k l) e) ∙ select_from n (suc q) (suc v / 2) (half_le h))

  -- what a set selects stands at its members
  pub select_members : (v : ℕ) → select v l ≡ at_indexes (members v) l
  unfolding members
  select_members v = select_from v 0 v (omega arith)

-- ---- the lowest digit of a word

-- w's lowest digit is of weight 2^t
pub record Lowest (k w t : ℕ) : Type 0 where
  pub half : ℕ
  pub is : w ≡ (1 + 2 * half) * 2 ^ t
  pub below : t < k

twice : (m p : ℕ) → 2 * ((1 + 2 * m) * p) ≡ (1 + 2 * m) * (p * 2)
twice m p = omega arith

doubled : (w m t : ℕ) → w % 2 ≡ 0 → w / 2 ≡ (1 + 2 * m) * 2 ^ t → w ≡ (1 + 2 * m) * 2 ^ suc t
doubled w m t e f =
    let whole : w ≡ 2 * ((1 + 2 * m) * 2 ^ t) = omega (arith, e, f) in
    whole ∙ twice m (2 ^ t) ∙ ap ((1 + 2 * m) *◌) (sym (pow-suc 2 t))

lowest_digit : (k w : ℕ) → 0 < w → w < 2 ^ k → Lowest k w (count_trailing_zeros k w)
unfolding count_trailing_zeros
lowest_digit zero w h u = absurd (omega arith)
lowest_digit (suc k) w h u = go (w % 2) refl (lowest_digit k (w / 2))
  where
    go : (d : ℕ) → w % 2 ≡ d → (0 < w / 2 → w / 2 < 2 ^ k → Lowest k (w / 2) (count_trailing_zeros k (w / 2))) → Lowest (suc k) w (under d (count_trailing_zeros k (w / 2)))
    go zero e half_lowest =
        let r = half_lowest (omega arith) (omega arith) in
        record { half = r.half; is = doubled w r.half _ e r.is; below = omega (arith, r.below) }
    go (suc d) e half_lowest = record { half = w / 2; is = omega arith; below = omega arith }

-- the word without it
and_same : {a b c d : ℕ} → a ≡ b → c ≡ d → bit_and a c ≡ bit_and b d
and_same e f = ap₂ bit_and e f

and_odd : (m : ℕ) → bit_and (1 + 2 * m) (2 * m) ≡ 2 * m
and_odd m =
    let a : 1 + 2 * m ≡ m * 2 ^ 1 + 1 = omega arith in
    let b : 2 * m ≡ m * 2 ^ 1 + 0 = omega arith in
    and_same a b ∙ and_block 1 m m 1 0 (omega arith) (omega arith) ∙ omega (arith, and_self m, and_zero_r 1)

less_one : (m p : ℕ) → 0 < p → (1 + 2 * m) * p - 1 ≡ (2 * m) * p + (p - 1)
less_one m p h = let e : (1 + 2 * m) * p ≡ p + (2 * m) * p = omega arith in omega (arith, e)

without : (m t : ℕ) → bit_and ((1 + 2 * m) * 2 ^ t) ((1 + 2 * m) * 2 ^ t - 1) ≡ 2 * m * 2 ^ t
without m t =
    let one : (1 + 2 * m) * 2 ^ t ≡ (1 + 2 * m) * 2 ^ t + 0 = omega arith in
    let small : 2 ^ t - 1 < 2 ^ t = omega (arith, pow_pos t) in
    and_same one (less_one m (2 ^ t) (pow_pos t)) ∙ and_block t (1 + 2 * m) (2 * m) 0 (2 ^ t - 1) (pow_pos t) small
    ∙ ap₂ (λ (a : ℕ) (b : ℕ). a * 2 ^ t + b) (and_odd m) (and_zero_l (2 ^ t - 1)) ∙ add-zero _

-- ---- the members of a set of two words

-- digits in front of a word whose lowest digit is of weight 2^t
high_over : (h a t : ℕ) → t < 64 → h * 2 ^ 64 + a * 2 ^ t ≡ (2 * (h * 2 ^ (63 - t)) + a) * 2 ^ t
high_over h a t l =
    let e : 64 ≡ suc (63 - t) + t = omega arith in
    ap (λ (k : ℕ). h * k + a * 2 ^ t) (ap (2 ^◌) e ∙ pow-add 2 (suc (63 - t)) t ∙ ap (◌* 2 ^ t) (pow-suc 2 (63 - t))) ∙ gather h (2 ^ (63 - t)) (2 ^ t) a
  where
    gather : (h q p a : ℕ) → h * (q * 2 * p) + a * p ≡ (2 * (h * q) + a) * p
    gather h q p a = omega arith

odd_over : (h m t : ℕ) → (2 * (h * 2 ^ (63 - t)) + (1 + 2 * m)) * 2 ^ t ≡ (1 + 2 * (h * 2 ^ (63 - t) + m)) * 2 ^ t
odd_over h m t = ap (◌* 2 ^ t) (omega arith)

even_over : (h m t : ℕ) → (2 * (h * 2 ^ (63 - t)) + 2 * m) * 2 ^ t ≡ 2 * (h * 2 ^ (63 - t) + m) * 2 ^ t
even_over h m t = ap (◌* 2 ^ t) (omega arith)

raised : (a t : ℕ) → a * 2 ^ t * 2 ^ 64 + 0 ≡ a * 2 ^ (64 + t)
raised a t = add-zero _ ∙ mul_assoc a (2 ^ t) (2 ^ 64) ∙ ap (a *◌) (mul_comm (2 ^ t) (2 ^ 64) ∙ sym (pow-add 2 64 t))

pub take_low : (s : Places) → s.low < 2 ^ 64 → (s.low ≡ 0 → ⊥) → members (set_in s) ≡ count_trailing_zeros 64 s.low ∷ members (set_in (record { low = bit_and s.low (s.low - 1); high = s.high }))
unfolding set_in
take_low s u n =
    let r = lowest_digit 64 s.low (omega arith) u in
    let t = count_trailing_zeros 64 s.low in
    let more = s.high * 2 ^ (63 - t) + r.half in
    let left : bit_and s.low (s.low - 1) ≡ 2 * r.half * 2 ^ t = ap (λ (w : ℕ). bit_and w (w - 1)) r.is ∙ without r.half t in
    ap (λ (w : ℕ). members (s.high * 2 ^ 64 + w)) r.is ∙ ap members (high_over s.high (1 + 2 * r.half) t r.below ∙ odd_over s.high r.half t) ∙ members_lowest more t
    ∙ ap (λ (v : ℕ). t ∷ members v) (sym (ap (s.high * 2 ^ 64 +◌) left ∙ high_over s.high (2 * r.half) t r.below ∙ even_over s.high r.half t))

pub take_high : (s : Places) → s.high < 2 ^ 64 → s.low ≡ 0 → (s.high ≡ 0 → ⊥)
    → members (set_in s) ≡ (64 + count_trailing_zeros 64 s.high) ∷ members (set_in (record { low = s.low; high = bit_and s.high (s.high - 1) }))
unfolding set_in
take_high s u z n =
    let r = lowest_digit 64 s.high (omega arith) u in
    let t = count_trailing_zeros 64 s.high in
    let left : bit_and s.high (s.high - 1) ≡ 2 * r.half * 2 ^ t = ap (λ (w : ℕ). bit_and w (w - 1)) r.is ∙ without r.half t in
    ap₂ (λ (w : ℕ) (l : ℕ). members (w * 2 ^ 64 + l)) r.is z ∙ ap members (raised (1 + 2 * r.half) t) ∙ members_lowest r.half (64 + t)
    ∙ ap (λ (v : ℕ). (64 + t) ∷ members v) (sym (ap₂ (λ (w : ℕ) (l : ℕ). w * 2 ^ 64 + l) left z ∙ raised (2 * r.half) t))

pub take_none : (s : Places) → s.low ≡ 0 → s.high ≡ 0 → members (set_in s) ≡ []
unfolding set_in members members_from
take_none s l h = ap₂ (λ (a : ℕ) (b : ℕ). members (a * 2 ^ 64 + b)) h l
