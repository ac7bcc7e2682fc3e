-- Laws of Paulis written as rows: a word times a power of two in two words, a row in four words, and rows with zeros behind them.
use Rattle.std.proofs.Common.{◌≡◌, ℕ, zero, suc, ◌+◌, ◌-◌, ◌*◌, ◌/◌, ◌%◌, ◌^◌, ◌<◌, ◌≤◌, List, ◌∷◌, ◌++◌, map, length, get_or, take, drop, set, sym, ap, ◌∙◌, subst, ap₂, append_assoc, lt_of_lt_of_le, add_assoc, mod-lt, mul_assoc, mul_comm, add-mul, arith, length-set, length-take-le, take-take, drop_at, pow_pos, pow_mono, pow-add, shl_lt, shr_lt}
use native.Mathlib.Nat.{mul-mod_left}
use lib.Arith.{digits_lt}
use lib.ListN.{length-map}
use lib.Pow.{split, low, mod-mod-pow}
use lib.Seq.{take-append-le}
use Rattle.binar.specs.Words.{words, put_row, image}
use Rattle.binar.proofs.echelon.Matrix.{row_in}
use Rattle.binar.proofs.echelon.RowByRow.{rewritten, rewritten_none, rewritten_all, rewritten_row}
use Rattle.binar.proofs.row.Slice.{AreWords, put_none, put_next, length_put}
use Rattle.pauli.specs.declared.signed.Pauli.{Pauli as Held}
use Rattle.pauli.specs.Pauli.{Pauli, normal}
use Rattle.pauli.specs.Signed.{held, pauli_in, list_in}
use Rattle.pauli.specs.PlaceSet.{set_in}
use Rattle.pauli.specs.Writing.{OnPlaces}
use Rattle.pauli_group.specs.declared.rows.TwoWords.{TwoWords}
use Rattle.pauli.proofs.write.Writers.{length_list}
use Rattle.pauli_group.specs.Inner.Area.{Outside}
use Rattle.pauli_group.specs.Inner.Lists.{row_over}
use Rattle.pauli_group.proofs.list.ListLaws.{list_map_at, on_places_at, outside_refl, outside_join, outside_wider, pauli_kept_after, put_outside}

-- ---- a word shifted

module _ (a j k : ℕ) where
  abbrev rest : ℕ
  rest = a % 2 ^ j * 2 ^ k

  parts : a * 2 ^ k ≡ a / 2 ^ j * 2 ^ (j + k) + rest
  parts =
      ap (◌* 2 ^ k) (sym (split a j)) ∙ add-mul (a / 2 ^ j * 2 ^ j) (a % 2 ^ j) (2 ^ k)
      ∙ ap (◌+ rest) (mul_assoc (a / 2 ^ j) (2 ^ j) (2 ^ k) ∙ ap (a / 2 ^ j *◌) (sym (pow-add 2 j k)))

  rest_lt : rest < 2 ^ (j + k)
  rest_lt = shl_lt j k (mod-lt a (pow_pos j))

  -- what is shifted out and what is left
  sum : a / 2 ^ j * 2 ^ (j + k) + a * 2 ^ k % 2 ^ (j + k) ≡ a * 2 ^ k
  sum =
      ap (a / 2 ^ j * 2 ^ (j + k) +◌) (ap (◌% 2 ^ (j + k)) parts ∙ low (a / 2 ^ j) (j + k) rest_lt)
      ∙ sym parts

  multiple : a * 2 ^ k % 2 ^ (j + k) % 2 ^ k ≡ 0
  multiple = mod-mod-pow (a * 2 ^ k) j k ∙ mul-mod_left a (2 ^ k)

-- two words that hold a word times 2^k
abbrev pub Shift : ℕ → ℕ → TwoWords → Type 0
Shift word k r = (r.high * 2 ^ 64 + r.low ≡ word * 2 ^ k) × (r.low % 2 ^ k ≡ 0) × (r.high < 2 ^ k)

pub shift_some : (a k : ℕ) → k ≤ 64 → a < 2 ^ 64 → Shift a k (record { low = a * 2 ^ k % 2 ^ 64; high = a / 2 ^ (64 - k) })
shift_some a k h b =
    let e : 64 - k + k ≡ 64 = omega arith in
    let f : k + (64 - k) ≡ 64 = omega arith in (
      subst (λ (n : ℕ). a / 2 ^ (64 - k) * 2 ^ n + a * 2 ^ k % 2 ^ n ≡ a * 2 ^ k) e (sum a (64 - k) k),
      subst (λ (n : ℕ). a * 2 ^ k % 2 ^ n % 2 ^ k ≡ 0) e (multiple a (64 - k) k),
      shr_lt k (64 - k) (subst (λ (n : ℕ). a < 2 ^ n) (sym f) b),
    )

-- a number below 2^k and a word that is a multiple of 2^k fit a word together
pub sum_fits : (k x a : ℕ) → k ≤ 64 → x < 2 ^ k → a < 2 ^ 64 → a % 2 ^ k ≡ 0 → x + a < 2 ^ 64
sum_fits k x a h b l m =
    let e : 64 - k + k ≡ 64 = omega arith in
    let q : a / 2 ^ k < 2 ^ (64 - k) = shr_lt (64 - k) k (subst (λ (n : ℕ). a < 2 ^ n) (sym e) l) in
    let below : a / 2 ^ k * 2 ^ k + x < 2 ^ 64 =
    subst (λ (n : ℕ). a / 2 ^ k * 2 ^ k + x < n) (sym (pow-add 2 (64 - k) k) ∙ ap (2 ^◌) e) (digits_lt q b) in
    omega (arith, split a k, m, below)

-- ---- a row in four words

pub four_words : (l : List ℕ) (i a b c d v : ℕ) → i + 4 ≤ length l → a < 2 ^ 64 → b < 2 ^ 64 → c < 2 ^ 64 → d < 2 ^ 64
    → v ≡ ((d * 2 ^ 64 + c) * 2 ^ 64 + b) * 2 ^ 64 + a → set (set (set (set l i a) (i + 1) b) (i + 2) c) (i + 3) d ≡ put_row l i 4 v
four_words l i a b c d v h ha hb hc hd e =
    let two : i + 2 ≡ i + 1 + 1 = omega arith in
    let three : i + 3 ≡ i + 1 + 1 + 1 = omega arith in
    let l1 = set l i a in
    let l2 = set l1 (i + 1) b in
    let l3 = set l2 (i + 1 + 1) c in
    let zeros : d ≡ 0 * 2 ^ 64 + d = omega arith in
    rw (two, three)
    (sym
    (ap (put_row l i 4) e
    ∙ put_next l i 3 ((d * 2 ^ 64 + c) * 2 ^ 64 + b) a (omega arith) ha
    ∙ put_next l1 (i + 1) 2 (d * 2 ^ 64 + c) b (simp length-set (omega arith)) hb
    ∙ put_next l2 (i + 1 + 1) 1 d c (simp length-set (omega arith)) hc
    ∙ ap (put_row l3 (i + 1 + 1 + 1) 1) zeros
    ∙ put_next l3 (i + 1 + 1 + 1) 0 0 d (simp length-set (omega arith)) hd
    ∙ put_none _ (i + 1 + 1 + 1 + 1) 0))

-- the two words of a set of fewer than 64 places
no_high : (s a b : ℕ) → s < 64 → a * 2 ^ 64 + b < 2 ^ s → (a ≡ 0) × (b < 2 ^ s)
no_high s a b h l =
    let p : 2 ^ s ≤ 2 ^ 64 = pow_mono (let k : s ≤ 64 = omega arith in k) in
    let z : a ≡ 0 = omega arith in (z, omega arith)

-- the high word of a set of 64 places or more
high_lt : (s a b : ℕ) → 64 ≤ s → a * 2 ^ 64 + b < 2 ^ s → a < 2 ^ (s - 64)
high_lt s a b h l =
    let e : s ≡ s - 64 + 64 = omega arith in
    let p : 2 ^ s ≡ 2 ^ (s - 64) * 2 ^ 64 = ap (2 ^◌) e ∙ pow-add 2 (s - 64) 64 in
    omega arith

-- digits in front of each other, by the base m
join_digits : (m xl xh al ah bl bh : ℕ)
    → xh * m + xl + m * ((bh * m + bl) * m + (ah * m + al)) ≡ ((bh * m + (ah + bl)) * m + (xh + al)) * m + xl
join_digits m xl xh al ah bl bh =
    let high : (bh * m + bl) * m + (ah * m + al) ≡ (bh * m + (ah + bl)) * m + al =
    omega (arith, add-mul (bh * m) bl m, add-mul (bh * m) (ah + bl) m, add-mul ah bl m) in
    let u = (bh * m + (ah + bl)) * m in
    ap (λ (n : ℕ). xh * m + xl + n) (mul_comm m ((bh * m + bl) * m + (ah * m + al)) ∙ ap (◌* m) high)
    ∙ omega (arith, add-mul u al m, add-mul u (xh + al) m, add-mul xh al m)

-- the row of a Pauli over s places, in the words that the shifted words of z and those of x give
module _ (w : List ℕ) (at : ℕ) (p : Held) (s : ℕ) (room : at + 4 ≤ length w) (bx : (held p).x < 2 ^ s) (bz : (held p).z < 2 ^ s) where
  module _ (short : s < 64) (a : TwoWords) (la : a.low < 2 ^ 64) (ha : a.high < 2 ^ 64) (sa : Shift p.z.low s a) where
    pub short_fits : p.x.low + a.low < 2 ^ 64
    unfolding held set_in
    short_fits = sum_fits s p.x.low a.low (omega arith) (no_high s p.x.high p.x.low short bx).1 la sa.1

    pub short_row : set (set (set (set w at (p.x.low + a.low)) (at + 1) a.high) (at + 2) 0) (at + 3) 0
        ≡ put_row w at 4 (row_over s (held p))
    unfolding held set_in row_over
    short_row =
        let x : p.x.high ≡ 0 = (no_high s p.x.high p.x.low short bx).0 in
        let z : p.z.high ≡ 0 = (no_high s p.z.high p.z.low short bz).0 in
        let v : p.z.high * 2 ^ 64 + p.z.low ≡ p.z.low = omega arith in
        let t : 2 ^ s * (p.z.high * 2 ^ 64 + p.z.low) ≡ p.z.low * 2 ^ s = ap (2 ^ s *◌) v ∙ mul_comm (2 ^ s) p.z.low in
        four_words w at (p.x.low + a.low) a.high 0 0 _ room short_fits ha (omega arith) (omega arith)
        (omega (arith, t, sa.0))

  module _ (long : 64 ≤ s) (small : s ≤ 128) (a : TwoWords) (la : a.low < 2 ^ 64) (sa : Shift p.z.low (s - 64) a) where
    pub long_fits : p.x.high + a.low < 2 ^ 64
    unfolding held set_in
    long_fits = sum_fits (s - 64) p.x.high a.low (omega arith) (high_lt s p.x.high p.x.low long bx) la sa.1

    module _ (b : TwoWords) (lb : b.low < 2 ^ 64) (sb : Shift p.z.high (s - 64) b) where
      pub long_fits_2 : a.high + b.low < 2 ^ 64
      long_fits_2 = sum_fits (s - 64) a.high b.low (omega arith) sa.2 lb sb.1

      pub long_row : p.x.low < 2 ^ 64 → b.high < 2 ^ 64
          → set (set (set (set w at p.x.low) (at + 1) (p.x.high + a.low)) (at + 2) (a.high + b.low)) (at + 3) b.high
          ≡ put_row w at 4 (row_over s (held p))
      unfolding held set_in row_over
      long_row lx hb =
          let e : s ≡ 64 + (s - 64) = omega arith in
          let k = s - 64 in
          let zh = p.z.high in
          let zl = p.z.low in
          let shift : 2 ^ s * (zh * 2 ^ 64 + zl) ≡ 2 ^ 64 * (zh * 2 ^ k * 2 ^ 64 + zl * 2 ^ k) =
          ap (λ (n : ℕ). 2 ^ n * (zh * 2 ^ 64 + zl)) e ∙ ap (◌* (zh * 2 ^ 64 + zl)) (pow-add 2 64 k) ∙ mul_assoc (2 ^ 64) (2 ^ k) (zh * 2 ^ 64 + zl)
          ∙ ap (2 ^ 64 *◌) (mul_comm (2 ^ k) (zh * 2 ^ 64 + zl) ∙ add-mul (zh * 2 ^ 64) zl (2 ^ k)
          ∙ ap (◌+ zl * 2 ^ k) (mul_assoc zh (2 ^ 64) (2 ^ k) ∙ ap (zh *◌) (mul_comm (2 ^ 64) (2 ^ k)) ∙ sym (mul_assoc zh (2 ^ k) (2 ^ 64)))) in
          four_words w at p.x.low (p.x.high + a.low) (a.high + b.low) b.high _ room lx long_fits long_fits_2 hb
          (ap (p.x.high * 2 ^ 64 + p.x.low +◌)
          (shift ∙ ap₂ (λ (m : ℕ) (n : ℕ). 2 ^ 64 * (m * 2 ^ 64 + n)) (sym sb.0) (sym sa.0))
          ∙ join_digits (2 ^ 64) p.x.low p.x.high a.low a.high b.low b.high)

-- ---- a row of few words and zeros behind it

words_join : (m n v : ℕ) → v < 2 ^ (64 * m) → words (m + n) v ≡ words m v ++ words n 0
unfolding words
words_join zero n v h =
    let a : zero + n ≡ n = omega arith in
    let b : v ≡ 0 = omega arith in
    rw (a, b)
words_join (suc m) n v h =
    let a : suc m + n ≡ suc (m + n) = omega arith in
    let e : 64 * suc m ≡ 64 * m + 64 = omega arith in
    rw a (ap (v % 2 ^ 64 ∷◌) (words_join m n (v / 2 ^ 64) (shr_lt (64 * m) 64 (subst (λ (k : ℕ). v < 2 ^ k) e h))))

pub put_join : (l : List ℕ) (i m n v : ℕ) → i + m + n ≤ length l → v < 2 ^ (64 * m)
    → put_row (put_row l (i + m) n 0) i m v ≡ put_row l i (m + n) v
unfolding put_row
put_join l i m n v h b =
    let rest = words n 0 ++ drop (i + m + n) l in
    let front : length (take (i + m) l) ≡ i + m = length-take-le (i + m) l (omega arith) in
    ap₂ (λ (x : List ℕ) (y : List ℕ). x ++ (words m v ++ y))
    (take-append-le i (take (i + m) l) rest (rw front (omega arith)) ∙ take-take i (i + m) l (omega arith))
    (drop_at (take (i + m) l) rest (i + m) front)
    ∙ ap (take i l ++◌)
    (sym (append_assoc (words m v) (words n 0) (drop (i + m + n) l))
    ∙ ap₂ ◌++◌ (sym (words_join m n v b)) (ap (λ (k : ℕ). drop k l) (add_assoc i m n)))

pub row_lt : (s : ℕ) (p : Pauli) → s ≤ 128 → p.x < 2 ^ s → p.z < 2 ^ s → row_over s p < 2 ^ (64 * 4)
unfolding row_over
row_lt s p h x z =
    let k : s + s ≤ 64 * 4 = omega arith in
    lt_of_lt_of_le
    (subst (λ (n : ℕ). n < 2 ^ (s + s)) (omega (arith, mul_comm p.z (2 ^ s)))
    (subst (λ (n : ℕ). p.z * 2 ^ s + p.x < n) (sym (pow-add 2 s s)) (digits_lt z x)))
    (pow_mono k)

-- ---- rows written in front of their list

-- the rows of the n Paulis from word base on are to be written to the front of the slice first; the first i stand in the slice w
pub record RowsUpTo (s stride base n : ℕ) (first : List ℕ) (i : ℕ) (w : List ℕ) : Type 0 where
  pub rows : w ≡ rewritten first stride n (map (row_over s) (list_in first base n)) i
  pub rest : Outside 0 base first w

module _ (s stride base n : ℕ) (first : List ℕ) (f : AreWords first) (room : base + 5 * n ≤ length first) (front : n * stride ≤ base) where
  abbrev D : List ℕ
  D = map (row_over s) (list_in first base n)

  within : n * stride ≤ length first
  within = omega arith

  count : length D ≡ n
  count = length-map (list_in first base n) (row_over s) ∙ length_list first base n

  pub rows_none : RowsUpTo s stride base n first 0 first
  rows_none = record { rows = rewritten_none first stride n D f within count; rest = outside_refl 0 base first }

  module _ (i : ℕ) (w : List ℕ) (r : RowsUpTo s stride base n first i w) where
    pub rows_all : n ≤ i → w ≡ image stride D (drop (n * stride) first)
    rows_all h = r.rows ∙ rewritten_all first stride n D f within count i h

    module _ (h : i < n) (wide : 4 ≤ stride) (small : s ≤ 128) (on : OnPlaces s (list_in first base n)) (u : List ℕ)
        (e : u ≡ put_row w (i * stride + 4) (stride - 4) 0) where
      abbrev q : Pauli
      q = pauli_in first (base + 5 * i)

      in_rows : i * stride + stride ≤ base
      in_rows = omega (arith, row_in i n stride h)

      in_slice : i * stride + 4 + (stride - 4) ≤ length w
      in_slice = omega (arith, in_rows, r.rest.size)

      pub cleared_rest : Outside 0 base first u
      cleared_rest =
          outside_join r.rest
          (subst (Outside 0 base w) (sym e)
          (outside_wider 0 base (put_outside w (i * stride + 4) (stride - 4) 0 in_slice) (omega arith) (omega (arith, in_rows))))

      module _ (p : Held) (g : normal (held p) ≡ normal (pauli_in u (base + 5 * i))) where
        same : normal (held p) ≡ normal q
        same = g ∙ ap normal (pauli_kept_after cleared_rest (base + 5 * i) (omega arith))

        x_same : (held p).x ≡ q.x
        unfolding normal
        x_same = ap (λ (t : Pauli). t.x) same

        z_same : (held p).z ≡ q.z
        unfolding normal
        z_same = ap (λ (t : Pauli). t.z) same

        pub row_on : ((held p).x < 2 ^ s) × ((held p).z < 2 ^ s)
        row_on = let a = on_places_at s first base n i on h in (rw x_same a.0, rw z_same a.1)

        value : row_over s (held p) ≡ get_or D i 0
        unfolding row_over
        value = ap₂ (λ (a : ℕ) (b : ℕ). a + 2 ^ s * b) x_same z_same ∙ sym (list_map_at (row_over s) first base n i 0 h)

        pub rows_step : (v : List ℕ) → v ≡ put_row u (i * stride) 4 (row_over s (held p)) → RowsUpTo s stride base n first (i + 1) v
        rows_step v k =
            let four : 4 + (stride - 4) ≡ stride = omega arith in
            let size : length u ≡ length w = ap length e ∙ length_put w (i * stride + 4) (stride - 4) 0 in_slice in record {
              rows =
                  k ∙ ap (λ (l : List ℕ). put_row l (i * stride) 4 (row_over s (held p))) e
                  ∙ put_join w (i * stride) 4 (stride - 4) (row_over s (held p)) in_slice (row_lt s (held p) small row_on.0 row_on.1)
                  ∙ ap (λ (m : ℕ). put_row w (i * stride) m (row_over s (held p))) four
                  ∙ rewritten_row first stride n D f within count i h w r.rows (row_over s (held p)) value;
              rest =
                  outside_join cleared_rest
                  (subst (Outside 0 base u) (sym k)
                  (outside_wider 0 base (put_outside u (i * stride) 4 (row_over s (held p)) (omega (arith, in_slice, size))) (omega arith)
                  (omega (arith, in_rows))));
            }
