-- Columns in which no row has a one do not change a reduction: it swaps and adds the same rows, so that T and the rank are the same.
use mathlib.Core.Path.{◌≡◌, refl, sym, ap, ap₂, ◌∙◌}
use mathlib.Core.Bool.{Bool, true, false}
use mathlib.Core.List.{List, [], ◌∷◌, map, map-map}
use Prim.Native.Nat.{ℕ, zero, suc, ◌+◌, ◌-◌, ◌*◌, ◌/◌, ◌%◌, ◌^◌, ◌<◌}
use native.Mathlib.Nat.{zero-add}
use native.Mathlib.Numerals.{add-one}
use native.Mathlib.Omega.{arith}
use lib.Dec.{eqb}
use lib.ListN.{length, get_or, set, drop, length-map, get_or-map}
use lib.Pow.{shr-shr}
use Rattle.binar.specs.Row.{◌⊕◌, bit, if_bit}
use Rattle.binar.specs.Echelon.{in_column, by_columns, pivot_of, swap_rows, clear, unless, add_to_others, place_pivot, Reduction, with_pivot, on_found, echelonize_from, echelonize, beside_identity, echelon, T, rank}
use Rattle.std.proofs.Common.{Option, Some, None}
use Rattle.binar.specs.declared.echelon.Cell.{Cell}
use Rattle.binar.proofs.row.Bits.{bit_zero, bit_suc, xor_low, xor_half}
use Rattle.binar.proofs.Lists.{all_of, map_drop, map_set, map_same}
use Rattle.binar.proofs.echelon.Search.{col_next, col_end}
use Rattle.binar.proofs.echelon.Span.{Additive, additive_zero, if_bit_map}
use Rattle.binar.proofs.echelon.Transform.{whole, T-is}

-- ---- a row with blank columns put in
-- for each digit of the list a column: blank for 0, else the row's next one; what is past them stays past them
unfoldable pub spread : List ℕ → ℕ → ℕ
spread [] v = v
spread (zero ∷ bs) v = 2 * spread bs v
spread (suc b ∷ bs) v = v % 2 + 2 * spread bs (v / 2)

-- how many columns of the row there are
unfoldable pub columns_of : List ℕ → ℕ
columns_of [] = 0
columns_of (zero ∷ bs) = columns_of bs
columns_of (suc b ∷ bs) = suc (columns_of bs)

digit_xor : (c d x y : ℕ) → c < 2 → d < 2 → (c + 2 * x) ⊕ (d + 2 * y) ≡ (c + d) % 2 + 2 * (x ⊕ y)
digit_xor c d x y lc ld =
    let hx : (c + 2 * x) / 2 ≡ x = omega arith in
    let hy : (d + 2 * y) / 2 ≡ y = omega arith in
    omega (arith, xor_low (c + 2 * x) (d + 2 * y), xor_half (c + 2 * x) (d + 2 * y) ∙ ap₂ ◌⊕◌ hx hy)

double_xor : (x y : ℕ) → 2 * (x ⊕ y) ≡ (2 * x) ⊕ (2 * y)
double_xor x y =
    let none : 2 * (x ⊕ y) ≡ (0 + 0) % 2 + 2 * (x ⊕ y) = omega arith in
    none ∙ sym (digit_xor 0 0 x y (omega arith) (omega arith)) ∙ ap₂ ◌⊕◌ (zero-add (2 * x)) (zero-add (2 * y))

spread_additive : (bs : List ℕ) → Additive (spread bs)
unfolding spread
spread_additive [] a b = refl
spread_additive (zero ∷ bs) a b =
    ap (2 *◌) (spread_additive bs a b) ∙ double_xor (spread bs a) (spread bs b)
spread_additive (suc d ∷ bs) a b =
    let x = spread bs (a / 2) in
    let y = spread bs (b / 2) in
    ap₂ (λ (l h : ℕ). l + 2 * h) (xor_low a b ∙ digits) (ap (spread bs) (xor_half a b) ∙ spread_additive bs (a / 2) (b / 2))
    ∙ sym (digit_xor (a % 2) (b % 2) x y (omega arith) (omega arith))
  where
    digits : (a + b) % 2 ≡ (a % 2 + b % 2) % 2
    digits = omega arith

halve : (w n : ℕ) → w / 2 ^ suc n ≡ w / 2 / 2 ^ n
halve w n = ap (λ (x : ℕ). w / 2 ^ x) (omega arith) ∙ sym (shr-shr w 1 n)

next_half : (v j : ℕ) → v / 2 ^ j / 2 ≡ v / 2 ^ suc j
next_half v j = shr-shr v j 1 ∙ ap (λ (x : ℕ). v / 2 ^ x) (omega arith)

pub spread_past : (bs : List ℕ) (v : ℕ) → spread bs v / 2 ^ length bs ≡ v / 2 ^ columns_of bs
unfolding spread columns_of
spread_past [] v = refl
spread_past (zero ∷ bs) v =
    let half : 2 * spread bs v / 2 ≡ spread bs v = omega arith in
    halve (2 * spread bs v) (length bs) ∙ ap (λ (w : ℕ). w / 2 ^ length bs) half ∙ spread_past bs v
spread_past (suc b ∷ bs) v =
    let w = spread bs (v / 2) in
    let half : (v % 2 + 2 * w) / 2 ≡ w = omega arith in
    halve (v % 2 + 2 * w) (length bs) ∙ ap (λ (u : ℕ). u / 2 ^ length bs) half ∙ spread_past bs (v / 2) ∙ sym (halve v (columns_of bs))

-- ---- the columns from column j of c of a row, and from column k of d of its image
data Track (S : ℕ → ℕ) (c d : ℕ) : ℕ → ℕ → Type 0 where
  done : {j k : ℕ} → j ≡ c → k ≡ d → Track S c d j k
  skip : {j k : ℕ} → ((v : ℕ) → bit (S v) k ≡ 0) → k < d → Track S c d j (suc k) → Track S c d j k
  step : {j k : ℕ} → ((v : ℕ) → bit (S v) k ≡ bit v j) → j < c → k < d → Track S c d (suc j) (suc k) → Track S c d j k

track_from : (S : ℕ → ℕ) (bs : List ℕ) (c d j k : ℕ) → c ≡ j + columns_of bs → d ≡ k + length bs
    → ((v i : ℕ) → bit (S v) (k + i) ≡ bit (spread bs (v / 2 ^ j)) i) → Track S c d j k
unfolding columns_of spread bit
track_from S [] c d j k ec ed h = done {j = j} {k = k} (omega arith) (omega arith)
track_from S (zero ∷ bs) c d j k ec ed h = skip blank (omega arith) (track_from S bs c d j (suc k) ec (omega arith) later)
  where
    here : k + 0 ≡ k
    here = omega arith

    blank : (v : ℕ) → bit (S v) k ≡ 0
    blank v = let w = spread bs (v / 2 ^ j) in ap (bit (S v)) (sym here) ∙ h v 0 ∙ bit_zero (2 * w) ∙ omega arith

    next : (i : ℕ) → suc k + i ≡ k + suc i
    next i = omega arith

    later : (v i : ℕ) → bit (S v) (suc k + i) ≡ bit (spread bs (v / 2 ^ j)) i
    later v i =
        let w = spread bs (v / 2 ^ j) in
        let half : 2 * w / 2 ≡ w = omega arith in
        ap (bit (S v)) (next i) ∙ h v (suc i) ∙ bit_suc (2 * w) i ∙ ap (λ (u : ℕ). bit u i) half
track_from S (suc b ∷ bs) c d j k ec ed h = step same (omega arith) (omega arith) (track_from S bs c d (suc j) (suc k) (omega arith) (omega arith) later)
  where
    here : k + 0 ≡ k
    here = omega arith

    same : (v : ℕ) → bit (S v) k ≡ bit v j
    same v =
        let w = spread bs (v / 2 ^ j / 2) in
        let low : (v / 2 ^ j % 2 + 2 * w) % 2 ≡ v / 2 ^ j % 2 = omega arith in
        ap (bit (S v)) (sym here) ∙ h v 0 ∙ bit_zero (v / 2 ^ j % 2 + 2 * w) ∙ low

    next : (i : ℕ) → suc k + i ≡ k + suc i
    next i = omega arith

    later : (v i : ℕ) → bit (S v) (suc k + i) ≡ bit (spread bs (v / 2 ^ suc j)) i
    later v i =
        let w = spread bs (v / 2 ^ j / 2) in
        let half : (v / 2 ^ j % 2 + 2 * w) / 2 ≡ w = omega arith in
        ap (bit (S v)) (next i) ∙ h v (suc i) ∙ bit_suc (v / 2 ^ j % 2 + 2 * w) i ∙ ap (λ (u : ℕ). bit u i) half
        ∙ ap (λ (u : ℕ). bit (spread bs u) i) (next_half v j)

-- ---- the search
module _ (S : ℕ → ℕ) (c d : ℕ) where
  -- what is found, and what is found in the images
  data Matched : Option Cell → Option Cell → Type 0 where
    nothing : Matched None None
    found : (i : ℕ) {j k : ℕ} → ((v : ℕ) → bit (S v) k ≡ bit v j) → Track S c d (suc j) (suc k)
        → Matched (Some (record { row = i; col = j })) (Some (record { row = i; col = k }))

  blank_column : (k : ℕ) → ((v : ℕ) → bit (S v) k ≡ 0) → (i : ℕ) (vs : List ℕ) (later : Option Cell) → in_column k i (map S vs) later ≡ later
  unfolding in_column if_bit
  blank_column k h i [] later = refl
  blank_column k h i (v ∷ vs) later = rw (h v) (blank_column k h (suc i) vs later)

  matched_if : (b : ℕ) {f g f' g' : Option Cell} → Matched f g → Matched f' g' → Matched (if_bit b f f') (if_bit b g g')
  unfolding if_bit
  matched_if zero m n = n
  matched_if (suc b) m n = m

  same_column : {j k : ℕ} → ((v : ℕ) → bit (S v) k ≡ bit v j) → Track S c d (suc j) (suc k) → (i : ℕ) (vs : List ℕ) (f g : Option Cell) → Matched f g
      → Matched (in_column j i vs f) (in_column k i (map S vs) g)
  unfolding in_column
  same_column h t i [] f g m = m
  same_column {j} h t i (v ∷ vs) f g m = rw (h v) (matched_if (bit v j) (found i h t) (same_column h t (suc i) vs f g m))

  search_from : {j k : ℕ} → Track S c d j k → (i : ℕ) (vs : List ℕ) → Matched (by_columns (c - j) j i vs) (by_columns (d - k) k i (map S vs))
  search_from {j} {k} (done ej ek) i vs = rw (col_end vs c i j (omega arith), col_end (map S vs) d i k (omega arith)) nothing
  search_from {j} {k} (skip h l t) i vs =
      rw (col_next (map S vs) d i k l, blank_column k h i vs, add-one k) (search_from t i vs)
  search_from {j} {k} (step h lj lk t) i vs =
      rw (col_next vs c i j lj, col_next (map S vs) d i k lk, add-one j, add-one k) (same_column h t i vs _ _ (search_from t i vs))

  -- ---- a pivot in its place
  module _ (additive : Additive S) where
    image_at : (M : List ℕ) (i : ℕ) → get_or (map S M) i 0 ≡ S (get_or M i 0)
    image_at M i = ap (get_or (map S M) i) (sym (additive_zero S additive)) ∙ get_or-map S M i 0

    swap_image : (i r : ℕ) (M : List ℕ) → swap_rows i r (map S M) ≡ map S (swap_rows i r M)
    unfolding swap_rows
    swap_image i r M =
        ap₂ (λ (x y : ℕ). set (set (map S M) i x) r y) (image_at M r) (image_at M i)
        ∙ ap (λ (N : List ℕ). set N r (S (get_or M i 0))) (map_set S M i (get_or M r 0)) ∙ map_set S (set M i (get_or M r 0)) r (get_or M i 0)

    unless_image : (b : Bool) (v w : ℕ) → unless b (S v) (S w) ≡ S (unless b v w)
    unfolding unless
    unless_image true v w = refl
    unless_image false v w = refl

    module _ (j k : ℕ) (h : (v : ℕ) → bit (S v) k ≡ bit v j) where
      clear_image : (p v : ℕ) → clear k (S p) (S v) ≡ S (clear j p v)
      unfolding clear
      clear_image p v =
          ap₂ (λ (b w : ℕ). if_bit b w (S v)) (h v) (sym (additive v p)) ∙ sym (if_bit_map S (bit v j) (v ⊕ p) v)

      others_image : (p r i : ℕ) (M : List ℕ) → add_to_others k (S p) r i (map S M) ≡ map S (add_to_others j p r i M)
      unfolding add_to_others
      others_image p r i [] = refl
      others_image p r i (v ∷ M) =
          ap₂ ◌∷◌ (ap (unless (eqb i r) (S v)) (clear_image p v) ∙ unless_image (eqb i r) v (clear j p v)) (others_image p r (suc i) M)

      place_image : (r i : ℕ) (M : List ℕ) → place_pivot r i k (map S M) ≡ map S (place_pivot r i j M)
      unfolding place_pivot
      place_image r i M =
          ap₂ (λ (p : ℕ) (N : List ℕ). add_to_others k p r 0 N) (image_at M i) (swap_image i r M) ∙ others_image (get_or M i 0) r 0 (swap_rows i r M)

    -- ---- the reduction
    record Image (f g : Reduction) : Type 0 where
      rows : g.rows ≡ map S f.rows
      count : length g.pivots ≡ length f.pivots

    next_image : (n r : ℕ) (M : List ℕ) {f g : Option Cell} → Matched f g
        → ((j k : ℕ) → Track S c d j k → (N : List ℕ) → Image (echelonize_from c n (suc r) j N) (echelonize_from d n (suc r) k (map S N)))
        → Image (on_found f (record { rows = M; pivots = [] }) (λ i j. with_pivot j (echelonize_from c n (suc r) (suc j) (place_pivot r i j M))))
        (on_found g (record { rows = map S M; pivots = [] }) (λ i k. with_pivot k (echelonize_from d n (suc r) (suc k) (place_pivot r i k (map S M)))))
    unfolding on_found with_pivot
    next_image n r M nothing later = record { rows = refl; count = refl }
    next_image n r M (found i {j} {k} h t) later =
        let w = later (suc j) (suc k) t (place_pivot r i j M) in
        rw (place_image j k h r i M) (record { rows = w.rows; count = ap suc w.count })

    images : (n r : ℕ) {j k : ℕ} → Track S c d j k → (M : List ℕ) → Image (echelonize_from c n r j M) (echelonize_from d n r k (map S M))
    unfolding echelonize_from pivot_of
    images zero r t M = record { rows = refl; count = refl }
    images (suc n) r {j} {k} t M =
        rw (map_drop S r M) (next_image n r M (search_from t r (drop r M)) (λ j' k' u N. images n (suc r) u N))

-- ---- the form
module _ (bs : List ℕ) where
  abbrev S : ℕ → ℕ
  S = spread bs

  reduced : (M : List ℕ) → Image S (columns_of bs) (length bs) (spread_additive bs) (echelonize (columns_of bs) M) (echelonize (length bs) (map S M))
  unfolding echelonize bit
  reduced M =
      let start : (v : ℕ) → v ≡ v / 2 ^ 0 = λ v. omega arith in
      let t = track_from S bs (columns_of bs) (length bs) 0 0 (omega arith) (omega arith)
      (λ v i. ap₂ (λ (k w : ℕ). bit (spread bs w) k) (zero-add i) (start v)) in
      rw (length-map M S) (images S (columns_of bs) (length bs) (spread_additive bs) (length M) 0 t M)

  module _ (A B : List ℕ) (beside : beside_identity (length bs) 0 B ≡ map S (beside_identity (columns_of bs) 0 A)) where
    pub spread-T : T (echelon (length bs) B) ≡ T (echelon (columns_of bs) A)
    unfolding whole
    spread-T =
        let M = beside_identity (columns_of bs) 0 A in
        let N = (echelonize (columns_of bs) M).rows in
        T-is (length bs) B
        ∙ ap (map (λ v. v / 2 ^ length bs)) (ap (λ (K : List ℕ). (echelonize (length bs) K).rows) beside ∙ (reduced M).rows)
        ∙ map-map (λ v. v / 2 ^ length bs) S N
        ∙ map_same (λ v. S v / 2 ^ length bs) (λ v. v / 2 ^ columns_of bs) N (all_of (spread_past bs) N) ∙ sym (T-is (columns_of bs) A)

    pub spread_rank : rank (echelon (length bs) B) ≡ rank (echelon (columns_of bs) A)
    unfolding rank echelon
    spread_rank = ap (λ (K : List ℕ). length (echelonize (length bs) K).pivots) beside ∙ (reduced (beside_identity (columns_of bs) 0 A)).count
