-- Laws of the echelon form in the work area, and of the products that its T names.
use Rattle.std.proofs.Common.{◌≡◌, ℕ, zero, suc, ◌+◌, ◌-◌, ◌*◌, ◌/◌, ◌%◌, ◌^◌, ◌<◌, ◌≤◌, ◌⊎◌, List, length, get_or, take, drop, sym, ap, ◌∙◌, ap₂, ⊎_elim, lt_of_lt_of_le, add-zero, mod-eq_of_lt, zero-add, arith, length-drop, length-take-le, get_or-drop, get_or-take, pow_mono, shr-shr, shr_lt}
use lib.Pow.{high, low, mod-pow-add}
use Rattle.binar.proofs.row.Slice.{AreWords, row_next}
use Rattle.binar.specs.Layout.{form_stride}
use Rattle.binar.specs.Words.{value, row_at, matrix}
use Rattle.pauli_theory.proofs.CommonPlaces.{product_mod}
use Rattle.binar.proofs.echelon.Matrix.{length_matrix, matrix_row, row_in, row_lt}
use Rattle.pauli.specs.declared.signed.Pauli.{Pauli as Held}
use Rattle.pauli.specs.Pauli.{Pauli, normal, indexed_product}
use Rattle.pauli.specs.Signed.{held, list_in}
use Rattle.pauli.proofs.write.Writers.{length_list}
use Rattle.pauli_group.specs.Inner.Area.{target_at, row_words, stride_of, Outside}
use Rattle.binar.proofs.matrix_form.Alike.{row_alike}
use Rattle.pauli_group.proofs.area.AreaLaws.{form_room_more}
use Rattle.pauli_group.proofs.list.ListLaws.{list_kept, list_kept_after}

-- the words of a row past the first k
pub row_past : (l : List ℕ) (i k n : ℕ) → AreWords l → i + (k + n) ≤ length l → row_at l i (k + n) / 2 ^ (64 * k) ≡ row_at l (i + k) n
row_past l i zero n f h =
    let z : row_at l i n / 1 ≡ row_at l i n = omega arith in
    ap (λ (m : ℕ). row_at l i m / 1) (zero-add n) ∙ z ∙ ap (λ (j : ℕ). row_at l j n) (sym (add-zero i))
row_past l i (suc k) n f h =
    let e : suc k + n ≡ suc (k + n) = omega arith in
    let s : 64 * suc k ≡ 64 + 64 * k = omega arith in
    let j : i + suc k ≡ i + 1 + k = omega arith in
    rw (e, s, j, row_next l i (k + n) (omega arith), ← shr-shr (row_at l (i + 1) (k + n) * 2 ^ 64 + get_or l i 0) 64 (64 * k), high (row_at l (i + 1) (k + n)) 64 (f i))
    (row_past l (i + 1) k n f (omega arith))

pub row_word : (l : List ℕ) (i : ℕ) → i < length l → row_at l i 1 ≡ get_or l i 0
unfolding row_at value
row_word l i h = row_next l i 0 h ∙ zero-add (get_or l i 0)

-- ---- T's part of a row

-- the first two words of a row
row_low : (l : List ℕ) (i k : ℕ) → AreWords l → i + 1 < length l → row_at l i (suc (suc k)) % 2 ^ 128 ≡ get_or l (i + 1) 0 * 2 ^ 64 + get_or l i 0
row_low l i k f h =
    let A = row_at l (i + 1) (suc k) in
    let v = row_at l i (suc (suc k)) in
    let e : v ≡ A * 2 ^ 64 + get_or l i 0 = row_next l i (suc k) (omega arith) in
    mod-pow-add v 64 64
    ∙ ap₂ (λ (a : ℕ) (b : ℕ). a % 2 ^ 64 * 2 ^ 64 + b) (ap (◌/ 2 ^ 64) e ∙ high A 64 (f i)) (ap (◌% 2 ^ 64) e ∙ low A 64 (f i))
    ∙ ap (λ (a : ℕ). a * 2 ^ 64 + get_or l i 0) (ap (◌% 2 ^ 64) (row_next l (i + 1) k h) ∙ low (row_at l (i + 1 + 1) k) 64 (f (i + 1)))

-- a form of no rows, of at most 64 and of at most 129
pub no_names : (l : List ℕ) (at n : ℕ) → AreWords l → at + stride_of n ≤ length l → n ≡ 0 → 0 ≡ row_at l at (stride_of n) / 2 ^ (64 * row_words) % 2 ^ 128
unfolding stride_of form_stride row_at value
no_names l at n f h e = rw e (sym (ap (◌% 2 ^ 128) (row_past l at 4 0 f (rw e at h))))

pub names_in_one : (l : List ℕ) (at n : ℕ) → AreWords l → at + stride_of n ≤ length l → (n ≡ 0 → ⊥) → n ≤ 64
    → 0 * 2 ^ 64 + get_or l (at + 4) 0 ≡ row_at l at (stride_of n) / 2 ^ (64 * row_words) % 2 ^ 128
unfolding stride_of form_stride
names_in_one l at n f h some few =
    let t : (n + 63) / 64 ≡ 1 = omega arith in
    let room : at + (4 + 1) ≤ length l = rw t at h in
    let small : 64 ≤ 128 = omega arith in
    zero-add (get_or l (at + 4) 0) ∙ sym (mod-eq_of_lt (lt_of_lt_of_le (f (at + 4)) (pow_mono small)))
    ∙ ap (◌% 2 ^ 128) (rw t (sym (row_past l at 4 1 f room ∙ row_word l (at + 4) (omega arith))))

pub names_in_two : (l : List ℕ) (at n : ℕ) → AreWords l → at + stride_of n ≤ length l → 64 < n → n ≤ 129
    → get_or l (at + 4 + 1) 0 * 2 ^ 64 + get_or l (at + 4) 0 ≡ row_at l at (stride_of n) / 2 ^ (64 * row_words) % 2 ^ 128
unfolding stride_of form_stride
names_in_two l at n f h many few =
    let k = (n + 63) / 64 - 2 in
    let t : (n + 63) / 64 ≡ suc (suc k) = omega arith in
    let room : at + (4 + suc (suc k)) ≤ length l = rw (← t) h in
    sym (row_low l (at + 4) k f (omega arith))
    ∙ ap (◌% 2 ^ 128) (sym (row_past l at 4 (suc (suc k)) f room) ∙ ap (λ (j : ℕ). row_at l at (4 + j) / 2 ^ (64 * row_words)) (sym t))

-- the names of a form of at most 128 rows are all there
pub names_whole : (l : List ℕ) (at n : ℕ) → AreWords l → at + stride_of n ≤ length l → n ≤ 128
    → row_at l at (stride_of n) / 2 ^ (64 * row_words) % 2 ^ 128 ≡ row_at l at (stride_of n) / 2 ^ (64 * row_words)
unfolding stride_of form_stride
names_whole l at n f h few =
    let wide : 64 * stride_of n ≤ 128 + 256 = omega arith in
    mod-eq_of_lt (shr_lt 128 256 (lt_of_lt_of_le (row_lt l at (stride_of n) f h) (pow_mono wide)))

-- ---- the products that T names

-- the products of m Paulis, which stand beside the words to which they are written
module _ (l : List ℕ) (n first count base m to : ℕ) (few : n ≤ 129) (inside : first + count ≤ n) (small : m ≤ 128) (size : length l ≡ 4096)
    (behind : target_at ≤ to) (apart : (base + 5 * m ≤ to) ⊎ (to + 5 * count ≤ base)) where
  abbrev L : List Pauli
  L = list_in l base m

  abbrev pub named_rows : List ℕ
  named_rows = take count (drop first (matrix (stride_of n) n l))

  abbrev pub product_of : ℕ → Pauli
  product_of v = indexed_product (v / 2 ^ (64 * row_words)) L

  pub named_count : length named_rows ≡ count
  named_count =
      length-take-le count (drop first (matrix (stride_of n) n l)) (rw (length-drop first (matrix (stride_of n) n l), length_matrix (stride_of n) n l) (omega arith))

  named_at : (i : ℕ) → i < count → get_or named_rows i 0 ≡ row_at l ((first + i) * stride_of n) (stride_of n)
  named_at i h =
      get_or-take count (drop first (matrix (stride_of n) n l)) i 0 h ∙ get_or-drop first (matrix (stride_of n) n l) i 0
      ∙ matrix_row (stride_of n) n l (first + i) (omega arith)

  -- a slice w in which the first i products are written
  module _ (w : List ℕ) (i : ℕ) (h : i < count) (o : Outside to (5 * count) l w) where
    pub row_room : (first + i) * stride_of n + stride_of n ≤ 1032
    row_room = omega (arith, row_in (first + i) n (stride_of n) (omega arith), (form_room_more n few).0)

    list_here : list_in w base m ≡ L
    list_here = ⊎_elim (λ a. list_kept o base m a) (λ a. list_kept_after o base m a) apart

    row_here : row_at w ((first + i) * stride_of n) (stride_of n) ≡ row_at l ((first + i) * stride_of n) (stride_of n)
    row_here =
        row_alike l w o.size ((first + i) * stride_of n) (stride_of n) (omega (arith, row_room, size)) (λ k a b. o.before k (omega (arith, row_room)))

    pub product_value : (p : Held) (set : ℕ) → set ≡ row_at w ((first + i) * stride_of n) (stride_of n) / 2 ^ (64 * row_words) % 2 ^ 128
        → normal (held p) ≡ indexed_product set (list_in w base m) → normal (held p) ≡ product_of (get_or named_rows i 0)
    product_value p set s e =
        let t = row_at l ((first + i) * stride_of n) (stride_of n) / 2 ^ (64 * row_words) in
        e ∙ ap₂ indexed_product (s ∙ ap (λ (v : ℕ). v / 2 ^ (64 * row_words) % 2 ^ 128) row_here) list_here
        ∙ product_mod t 128 L (rw (length_list l base m) small) ∙ ap product_of (sym (named_at i h))
