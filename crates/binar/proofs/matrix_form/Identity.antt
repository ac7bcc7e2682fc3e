-- Laws of the identity written beside a matrix.
use mathlib.Core.Path.{◌≡◌, sym, ap, ap₂, ◌∙◌}
use mathlib.Core.Logic.{inl}
use mathlib.Core.List.{List, [], ◌∷◌, ◌++◌}
use Prim.Native.Nat.{ℕ, zero, suc, ◌+◌, ◌-◌, ◌*◌, ◌/◌, ◌%◌, ◌^◌, ◌≤◌, ◌<◌}
use native.Mathlib.Nat.{add-zero, zero-add, add_assoc, add_comm, mul_comm, mul_assoc, mod-eq_of_lt, div-eq_of_lt}
use native.Mathlib.Numerals.{add-one}
use native.Mathlib.Omega.{arith}
use lib.ListN.{length, get_or, set, take, drop, length-set, length-drop, take-append-drop}
use lib.Pow.{high, low, pow-add, pow-lt, shr_lt, mod-pow-add}
use lib.Seq.{length-take-le, drop-drop, set-set, take-take}
use Rattle.binar.specs.Words.{value, words, row_at, put_row, matrix}
use Rattle.binar.specs.Echelon.{beside_identity}
use Rattle.binar.proofs.row.Slice.{AreWords, Outside, put_none, put_first, put_next, put_kept}
use Rattle.binar.proofs.row.Scan.{one_shifted}
use Rattle.binar.proofs.echelon.Matrix.{words_value, words_take, words_drop, row_lt, length_matrix}

-- the lowest n words of a row
pub value_mod : (l : List ℕ) (n : ℕ) → AreWords l → n ≤ length l → value l % 2 ^ (64 * n) ≡ value (take n l)
unfolding value
value_mod l zero f h = omega arith
value_mod [] (suc n) f h = absurd (omega arith)
value_mod (w ∷ ws) (suc n) f h =
    let e : 64 * suc n ≡ 64 * n + 64 = omega arith in
    rw e
    (mod-pow-add (value ws * 2 ^ 64 + w) (64 * n) 64
    ∙ ap₂ (λ (a : ℕ) (b : ℕ). (a % 2 ^ (64 * n)) * 2 ^ 64 + b) (high (value ws) 64 (f 0)) (low (value ws) 64 (f 0))
    ∙ ap (λ (a : ℕ). a * 2 ^ 64 + w) (value_mod ws n (λ k. f (suc k)) (omega arith)))

-- a row written where it is already
pub put_same : (l : List ℕ) (i n : ℕ) → AreWords l → i + n ≤ length l → put_row l i n (row_at l i n) ≡ l
unfolding put_row row_at
put_same l i n f h =
    let t : length (take n (drop i l)) ≡ n = length-take-le n (drop i l) (rw length-drop (omega arith)) in
    ap₂ (λ (a : List ℕ) (b : List ℕ). take i l ++ (a ++ b))
    (ap (λ (m : ℕ). words m (value (take n (drop i l)))) (sym t) ∙ words_value (take n (drop i l)) (words_take (drop i l) n (words_drop l i f)))
    (sym (drop-drop n i l))
    ∙ ap (take i l ++◌) (take-append-drop n (drop i l)) ∙ take-append-drop i l

-- a row of n + m words, its first n words and the others one after the other
pub put_beside : (l : List ℕ) (i n m a b : ℕ) → i + (n + m) ≤ length l → a < 2 ^ (64 * n) → put_row l i (n + m) (a + 2 ^ (64 * n) * b) ≡ put_row (put_row l i n a) (i + n) m b
put_beside l i zero m a b h s =
    let z : a + 2 ^ (64 * 0) * b ≡ b = omega arith in
    ap₂ (λ (k : ℕ) (v : ℕ). put_row l i k v) (zero-add m) z ∙ sym (ap₂ (λ (t : List ℕ) (k : ℕ). put_row t k m b) (put_none l i a) (add-zero i))
put_beside l i (suc n) m a b h s =
    let e : 64 * suc n ≡ 64 * n + 64 = omega arith in
    let v : ℕ = a + 2 ^ (64 * suc n) * b in
    let c : ℕ = a / 2 ^ 64 + 2 ^ (64 * n) * b in
    let p : 2 ^ (64 * suc n) ≡ 2 ^ (64 * n) * 2 ^ 64 = ap (2 ^◌) e ∙ pow-add 2 (64 * n) 64 in
    let q : v ≡ c * 2 ^ 64 + a % 2 ^ 64 = whole a b (2 ^ (64 * suc n)) (2 ^ (64 * n)) p in
    let k : suc n + m ≡ suc (n + m) = omega arith in
    ap₂ (λ (j : ℕ) (u : ℕ). put_row l i j u) k q
    ∙ put_first l i (n + m) (c * 2 ^ 64 + a % 2 ^ 64) (omega arith)
    ∙ ap₂ (λ (x : ℕ) (u : ℕ). put_row (set l i x) (i + 1) (n + m) u) (low c 64 (omega arith)) (high c 64 (omega arith))
    ∙ put_beside (set l i (a % 2 ^ 64)) (i + 1) n m (a / 2 ^ 64) b (rw length-set (omega arith)) (shr_lt (64 * n) 64 (rw e at s))
    ∙ ap₂ (λ (t : List ℕ) (j : ℕ). put_row t j m b) (sym (put_first l i n a (omega arith))) (add_assoc i 1 n ∙ ap (i +◌) (add_comm 1 n ∙ add-one n))
  where
    whole : (x y g d : ℕ) → g ≡ d * 2 ^ 64 → x + g * y ≡ (x / 2 ^ 64 + d * y) * 2 ^ 64 + x % 2 ^ 64
    whole x y g d r = rw (r, mul_comm (d * 2 ^ 64) y, mul_comm d y, ← mul_assoc y d (2 ^ 64)) (omega arith)

-- one bit stored to a row of zeros
pub put_unit : (l : List ℕ) (i m d e : ℕ) → i + m ≤ length l → d < m → e < 64 → set (put_row l i m 0) (i + d) (2 ^ e) ≡ put_row l i m (2 ^ (64 * d + e))
unfolding Outside
put_unit l i zero d e h k g = absurd (omega arith)
put_unit l i (suc m) zero e h k g =
    let s : 2 ^ e < 2 ^ 64 = pow-lt g in
    let z : 64 * 0 + e ≡ e = omega arith in
    ap₂ (λ (t : List ℕ) (j : ℕ). set t j (2 ^ e)) (put_first l i m 0 (omega arith)) (add-zero i)
    ∙ put_kept (set l i 0) i (i + 1) m 0 (2 ^ e) (rw length-set (omega arith)) (inl (omega arith))
    ∙ ap (λ (t : List ℕ). put_row t (i + 1) m 0) (set-set l i 0 (2 ^ e))
    ∙ sym (ap (put_row l i (suc m)) (ap (2 ^◌) z) ∙ put_first l i m (2 ^ e) (omega arith)
    ∙ ap₂ (λ (x : ℕ) (v : ℕ). put_row (set l i x) (i + 1) m v) (mod-eq_of_lt s) (div-eq_of_lt s))
put_unit l i (suc m) (suc d) e h k g =
    let p : 2 ^ (64 * suc d + e) ≡ 2 ^ (64 * d + e) * 2 ^ 64 + 0 = ap (2 ^◌) (shift d e) ∙ pow-add 2 (64 * d + e) 64 ∙ sym (add-zero (2 ^ (64 * d + e) * 2 ^ 64)) in
    let j : i + suc d ≡ i + 1 + d = omega arith in
    ap₂ (λ (t : List ℕ) (q : ℕ). set t q (2 ^ e)) (put_first l i m 0 (omega arith)) j
    ∙ put_unit (set l i 0) (i + 1) m d e (rw length-set (omega arith)) (omega arith) g
    ∙ sym (ap (put_row l i (suc m)) p ∙ put_next l i m (2 ^ (64 * d + e)) 0 (omega arith) (omega arith))
  where
    shift : (a b : ℕ) → 64 * suc a + b ≡ 64 * a + b + 64
    shift a b = omega arith

-- ---- the rows with the identity beside them

module _ (l : List ℕ) (i width s k : ℕ) (f : AreWords l) (room : i + s ≤ length l) (h : width + k / 64 < s) where
  first_words : row_at l i s % 2 ^ (64 * width) ≡ row_at l i width
  unfolding row_at
  first_words =
      value_mod (take s (drop i l)) width (words_take (drop i l) s (words_drop l i f)) (rw (length-take-le s (drop i l) (rw length-drop (omega arith))) (omega arith))
      ∙ ap value (take-take width s (drop i l) (omega arith))

  unit_written : set (put_row l (i + width) (s - width) 0) (i + width + k / 64) (2 ^ (k % 64)) ≡ put_row l i s (row_at l i s % 2 ^ (64 * width) + 2 ^ (64 * width) * 2 ^ k)
  unit_written =
      let e : width + (s - width) ≡ s = omega arith in
      let d : 64 * (k / 64) + k % 64 ≡ k = omega arith in
      put_unit l (i + width) (s - width) (k / 64) (k % 64) (omega arith) (omega arith) (omega arith)
      ∙ ap (λ (t : List ℕ). put_row t (i + width) (s - width) (2 ^ (64 * (k / 64) + k % 64))) (sym (put_same l i width f (omega arith)))
      ∙ ap (λ (q : ℕ). put_row (put_row l i width (row_at l i width)) (i + width) (s - width) (2 ^ q)) d
      ∙ sym (put_beside l i width (s - width) (row_at l i width) (2 ^ k) (omega arith) (row_lt l i width f (omega arith)))
      ∙ ap₂ (λ (m : ℕ) (v : ℕ). put_row l i m (v + 2 ^ (64 * width) * 2 ^ k)) e (sym first_words)

  -- the bit stored, in a slice m whose words past the first are cleared
  pub unit_stored : (m : List ℕ) → m ≡ put_row l (i + width) (s - width) 0
      → set m (i + width + k / 64) (1 * 2 ^ (k % 64) % 2 ^ 64) ≡ put_row l i s (row_at l i s % 2 ^ (64 * width) + 2 ^ (64 * width) * 2 ^ k)
  unit_stored m e = ap₂ (λ (t : List ℕ) (x : ℕ). set t (i + width + k / 64) x) e (one_shifted (k % 64) (omega arith)) ∙ unit_written

beside_row : (c i : ℕ) (A : List ℕ) (k : ℕ) → k < length A → get_or (beside_identity c i A) k 0 ≡ get_or A k 0 % 2 ^ c + 2 ^ c * 2 ^ (i + k)
unfolding beside_identity
beside_row c i [] k h = absurd (omega arith)
beside_row c i (v ∷ A) zero h = rw (add-zero i)
beside_row c i (v ∷ A) (suc k) h = let e : suc i + k ≡ i + suc k = omega arith in beside_row c (suc i) A k (omega arith) ∙ ap (λ (q : ℕ). get_or A k 0 % 2 ^ c + 2 ^ c * 2 ^ q) e

-- the row that the code writes, from the row that it finds
pub beside_eq : (i width s n : ℕ) (l : List ℕ) (v : ℕ) → i < n → v ≡ get_or (matrix s n l) i 0
    → v % 2 ^ (64 * width) + 2 ^ (64 * width) * 2 ^ i ≡ get_or (beside_identity (64 * width) 0 (matrix s n l)) i 0
beside_eq i width s n l v h e =
    let c = 64 * width in
    ap (λ (x : ℕ). x % 2 ^ c + 2 ^ c * 2 ^ i) e
    ∙ sym (beside_row c 0 (matrix s n l) i (rw (length_matrix s n l) h) ∙ ap (λ (q : ℕ). get_or (matrix s n l) i 0 % 2 ^ c + 2 ^ c * 2 ^ q) (zero-add i))
