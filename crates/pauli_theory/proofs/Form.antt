-- The rows of an echelon form: the pivot rows are the nonzero ones and stand first. All sets of rows come from the rows of T, and
-- those that sum to zero from the rows of T beside the zero rows.
use mathlib.Core.Path.{◌≡◌, refl, sym, ap, ap₂, ◌∙◌, subst}
use mathlib.Core.List.{List, [], ◌∷◌, ◌++◌, map, map-map, map-append}
use Prim.Native.Nat.{ℕ, zero, suc, ◌+◌, ◌/◌, ◌^◌, ◌≤◌, ◌<◌}
use native.Mathlib.Nat.{add-zero, zero-add}
use native.Mathlib.Omega.{arith}
use lib.ListN.{length, get_or, take, drop, length-take, length-map, take-append-drop, get_or-map}
use lib.Seq.{length-take-le, get_or-take, get_or-drop}
use Rattle.binar.specs.Row.{◌⊕◌, bit, row_sum, units}
use Rattle.binar.specs.Echelon.{Row, echelon, R, T, rank}
use Rattle.binar.specs.Space.{RowSpace, Independent}
use Rattle.binar.proofs.row.Bits.{bit_of_zero, xor_zero_l, xor_zero_r}
use Rattle.binar.proofs.Lists.{all_of, all_zip, all_right, all_by, all_over, all_under, map_same, same_map}
use Rattle.binar.proofs.echelon.Span.{Subspace, sum_in, row_sum_row_sum, space_subspace, space_rows}
use Rattle.binar.proofs.matrix_form.Theorems.{transform_law, reduced_law, space_law}
use Rattle.pauli.specs.Support.{All}
use Rattle.pauli_theory.specs.Standard.{zero_rows, nonzero_rows}
use Rattle.pauli_theory.proofs.IfZero.{if_zero_zero, if_zero_more}
use Rattle.pauli_theory.proofs.Spaces.{columns_narrow, below_in, row_sum_append, row_sum_zeros, free_zero}

-- ---- nonzero rows before zero rows
module _ (ys : List Row) (zeros : All (λ q. q.r ≡ 0) ys) where
  nonzero_first : (xs : List Row) → All (λ q. 0 < q.r) xs → nonzero_rows (xs ++ ys) ≡ xs
  unfolding nonzero_rows
  nonzero_first [] h = none_of ys zeros
    where
      none_of : (zs : List Row) → All (λ q. q.r ≡ 0) zs → nonzero_rows zs ≡ []
      none_of [] k = refl
      none_of (q ∷ zs) k = if_zero_zero _ _ k.0 ∙ none_of zs k.1
  nonzero_first (q ∷ xs) h = if_zero_more q.r _ _ h.0 ∙ ap (q ∷◌) (nonzero_first xs h.1)

  zero_last : (xs : List Row) → All (λ q. 0 < q.r) xs → zero_rows (xs ++ ys) ≡ ys
  unfolding zero_rows
  zero_last [] h = all_of_them ys zeros
    where
      all_of_them : (zs : List Row) → All (λ q. q.r ≡ 0) zs → zero_rows zs ≡ zs
      all_of_them [] k = refl
      all_of_them (q ∷ zs) k = if_zero_zero _ _ k.0 ∙ ap (q ∷◌) (all_of_them zs k.1)
  zero_last (q ∷ xs) h = if_zero_more q.r _ _ h.0 ∙ zero_last xs h.1

pub map_take {ℓ ℓ'} : {X : Type ℓ} {Y : Type ℓ'} (f : X → Y) (n : ℕ) (xs : List X) → map f (take n xs) ≡ take n (map f xs)
map_take f zero xs = refl
map_take f (suc n) [] = refl
map_take f (suc n) (x ∷ xs) = ap (f x ∷◌) (map_take f n xs)

-- a one makes a row nonzero
nonzero_by : (v k : ℕ) → bit v k ≡ 1 → 0 < v
nonzero_by zero k e = absurd (omega (arith, bit_of_zero k))
nonzero_by (suc v) k e = omega arith

unit_at : (P : ℕ → Type 0) (k n : ℕ) → All P (units k n) → (i : ℕ) → i < n → P (2 ^ (k + i))
unfolding units
unit_at P k zero h i l = absurd (omega arith)
unit_at P k (suc n) h zero l = rw add-zero h.0
unit_at P k (suc n) h (suc i) l = rw e at (unit_at P (suc k) n h.1 i (omega arith))
  where
    e : suc k + i ≡ k + suc i
    e = omega arith

-- rows past the end
no_row : Row
no_row = record { r = 0; t = 0 }

module _ (c : ℕ) (A : List ℕ) where
  row_at : (i : ℕ) → (get_or (echelon c A).rows i no_row).r ≡ get_or (R (echelon c A)) i 0
  unfolding R no_row
  row_at i = sym (get_or-map (λ q. q.r) (echelon c A).rows i no_row)

  rank_room : rank (echelon c A) ≤ length (echelon c A).rows
  unfolding rank R
  rank_room = omega (arith, (reduced_law c A).room, length-map (echelon c A).rows (λ q. q.r))

  first_rows : All (λ q. 0 < q.r) (take (rank (echelon c A)) (echelon c A).rows)
  unfolding rank
  first_rows =
      let f = echelon c A in
      let n = rank f in
      all_by (λ q. 0 < q.r) (take n f.rows) no_row λ i l.
      let k : i < n = omega (arith, length-take n f.rows) in
      nonzero_by _ (get_or f.pivots i 0)
      (ap (λ q. bit q.r (get_or f.pivots i 0)) (get_or-take n f.rows i no_row k) ∙ ap (λ (v : ℕ). bit v (get_or f.pivots i 0)) (row_at i) ∙ (reduced_law c A).one i k)

  last_rows : All (λ q. q.r ≡ 0) (drop (rank (echelon c A)) (echelon c A).rows)
  unfolding rank
  last_rows =
      let f = echelon c A in
      let n = rank f in
      all_by (λ q. q.r ≡ 0) (drop n f.rows) no_row λ i l.
      ap (λ q. q.r) (get_or-drop n f.rows i no_row) ∙ row_at (n + i) ∙ (reduced_law c A).zeros (n + i) (omega arith)

  pub pivot_rows_are : nonzero_rows (echelon c A).rows ≡ take (rank (echelon c A)) (echelon c A).rows
  pivot_rows_are =
      let f = echelon c A in
      ap nonzero_rows (sym (take-append-drop (rank f) f.rows)) ∙ nonzero_first (drop (rank f) f.rows) last_rows (take (rank f) f.rows) first_rows

  pub zero_rows_are : zero_rows (echelon c A).rows ≡ drop (rank (echelon c A)) (echelon c A).rows
  zero_rows_are =
      let f = echelon c A in
      ap zero_rows (sym (take-append-drop (rank f) f.rows)) ∙ zero_last (drop (rank f) f.rows) last_rows (take (rank f) f.rows) first_rows

  pub rows_split : nonzero_rows (echelon c A).rows ++ zero_rows (echelon c A).rows ≡ (echelon c A).rows
  rows_split = ap₂ ◌++◌ pivot_rows_are zero_rows_are ∙ take-append-drop (rank (echelon c A)) (echelon c A).rows

  pub pivot_count : length (nonzero_rows (echelon c A).rows) ≡ rank (echelon c A)
  pivot_count = ap length pivot_rows_are ∙ length-take-le (rank (echelon c A)) (echelon c A).rows rank_room

  pub zero_rows_zero : All (λ q. q.r ≡ 0) (zero_rows (echelon c A).rows)
  zero_rows_zero = rw zero_rows_are last_rows

  pub pivot_rows_lem : map (λ q. q.r) (nonzero_rows (echelon c A).rows) ≡ take (rank (echelon c A)) (R (echelon c A))
  unfolding R
  pivot_rows_lem = ap (map (λ q. q.r)) pivot_rows_are ∙ map_take (λ q. q.r) (rank (echelon c A)) (echelon c A).rows

  pub pivot_rows_free : Independent (map (λ q. q.r) (nonzero_rows (echelon c A).rows))
  pivot_rows_free = rw pivot_rows_lem (space_law c A).independent

  module _ (narrow : All (λ v. v < 2 ^ c) A) where
    -- T·A = R, row by row
    pub rows_made : All (λ q. row_sum q.t A ≡ q.r) (echelon c A).rows
    unfolding T R
    rows_made =
        same_map (λ q. row_sum q.t A) (λ q. q.r) (echelon c A).rows
        (sym (map-map (λ s. row_sum s A) (λ q. q.t) (echelon c A).rows) ∙ rw (columns_narrow c A narrow) at (transform_law c A).product)

    -- a subspace that has the rows of T has all sets of rows of A
    pub all_sets : {P : ℕ → Type 0} → Subspace P → All (λ q. P q.t) (echelon c A).rows → (s : ℕ) → s < 2 ^ length A → P s
    unfolding T
    all_sets {P} S h = below_in S (length A) λ i l. rw zero-add at (unit_at P 0 (length A) units_in i l)
      where
        units_in : All P (units 0 (length A))
        units_in =
            let f = echelon c A in
            let L = space_law c A in
            rw L.inverts at (all_over P (λ s. row_sum s (T f)) L.inverse (all_of (sum_in S (T f) (all_over P (λ q. q.t) f.rows h)) L.inverse))

    -- a sum over all rows, by pivot rows and zero rows
    by_parts : (F : Row → ℕ) (u : ℕ) → let f = echelon c A in
        row_sum u (map F f.rows) ≡ row_sum u (map F (nonzero_rows f.rows)) ⊕ row_sum (u / 2 ^ length (nonzero_rows f.rows)) (map F (zero_rows f.rows))
    by_parts F u =
        let D = nonzero_rows (echelon c A).rows in
        let Z = zero_rows (echelon c A).rows in
        ap (λ rs. row_sum u (map F rs)) (sym rows_split) ∙ ap (row_sum u) (map-append F D Z) ∙ row_sum_append u (map F D) (map F Z)
        ∙ ap (λ (n : ℕ). row_sum u (map F D) ⊕ row_sum (u / 2 ^ n) (map F Z)) (length-map D F)

    R-by_pivots : (u : ℕ) → row_sum u (map (λ q. q.r) (echelon c A).rows) ≡ row_sum u (map (λ q. q.r) (nonzero_rows (echelon c A).rows))
    R-by_pivots u =
        let Z = zero_rows (echelon c A).rows in
        by_parts (λ q. q.r) u ∙ rw (row_sum_zeros (map (λ q. q.r) Z) (all_over (λ v. v ≡ 0) (λ q. q.r) Z zero_rows_zero)) (xor_zero_r _)

    pub pivot_rows_span : (v : ℕ) → RowSpace A v → RowSpace (map (λ q. q.r) (nonzero_rows (echelon c A).rows)) v
    unfolding R
    pivot_rows_span v s =
        let k = (space_law c A).kept.there v (rw (columns_narrow c A narrow) s) in
        record { subset = k.subset; sums = sym (R-by_pivots k.subset) ∙ k.sums }

    -- the set u of rows of R and the set of rows of A that u names in T have the same sum
    R-sum : (u : ℕ) → row_sum u (map (λ q. q.r) (echelon c A).rows) ≡ row_sum (row_sum u (map (λ q. q.t) (echelon c A).rows)) A
    R-sum u =
        let rows = (echelon c A).rows in
        ap (row_sum u) (sym (map-map (λ t. row_sum t A) (λ q. q.t) rows ∙ map_same (λ q. row_sum q.t A) (λ q. q.r) rows rows_made))
        ∙ sym (row_sum_row_sum u (map (λ q. q.t) rows) A)

    pub pivot_rows_in : (v : ℕ) → RowSpace (map (λ q. q.r) (nonzero_rows (echelon c A).rows)) v → RowSpace A v
    pivot_rows_in v s = record {
      subset = row_sum s.subset (map (λ q. q.t) (echelon c A).rows);
      sums = sym (R-sum s.subset) ∙ R-by_pivots s.subset ∙ s.sums;
    }

    -- the rows of T beside the zero rows name sets that sum to zero
    pub zero_rows_sum : All (λ q. row_sum q.t A ≡ 0) (zero_rows (echelon c A).rows)
    zero_rows_sum =
        let D = nonzero_rows (echelon c A).rows in
        let Z = zero_rows (echelon c A).rows in
        all_zip (λ q e z. e ∙ z) Z (all_right (λ q. row_sum q.t A ≡ q.r) D Z (rw rows_split rows_made)) zero_rows_zero

    -- a set of rows of A that sums to zero comes from the rows of T beside the zero rows
    module _ {P : ℕ → Type 0} (S : Subspace P) (h : All (λ q. P q.t) (zero_rows (echelon c A).rows)) where
      zero_sum : (u : ℕ) → row_sum (row_sum u (map (λ q. q.t) (echelon c A).rows)) A ≡ 0 → P (row_sum u (map (λ q. q.t) (echelon c A).rows))
      zero_sum u e =
          let D = nonzero_rows (echelon c A).rows in
          let Z = zero_rows (echelon c A).rows in
          let none = free_zero (map (λ q. q.r) D) (map (λ q. q.t) D) (length-map D (λ q. q.t) ∙ sym (length-map D (λ q. q.r))) pivot_rows_free u
          (sym (R-by_pivots u) ∙ R-sum u ∙ e) in
          rw (by_parts (λ q. q.t) u, none, xor_zero_l) (sum_in S (map (λ q. q.t) Z) (all_over P (λ q. q.t) Z h) (u / 2 ^ length D))

      pub zero_sets : (s : ℕ) → s < 2 ^ length A → row_sum s A ≡ 0 → P s
      zero_sets s l e =
          let ts = map (λ q. q.t) (echelon c A).rows in
          let w = all_sets (space_subspace ts) (all_under (RowSpace ts) (λ q. q.t) (echelon c A).rows (space_rows ts)) s l in
          subst P w.sums (zero_sum w.subset (ap (λ (t : ℕ). row_sum t A) w.sums ∙ e))
