-- The kernel rows are a basis of the rows that have an even overlap with each row of a matrix.
use Rattle.std.proofs.Common.{◌≡◌, refl, sym, ap, ap₂, ◌∙◌, subst, List, [], ◌∷◌, map, length, get_or, take, ℕ, zero, suc, ◌+◌, ◌*◌, ◌/◌, ◌%◌, ◌^◌, ◌≤◌, ◌<◌, pow_pos, arith}
use native.Mathlib.Decide.{dec_lt}
use lib.ListN.{length-map}
use lib.Pow.{pow-lt}
use Rattle.binar.specs.Row.{◌⊕◌, bit, dot, if_bit, columns, row_sum}
use Rattle.binar.specs.Echelon.{clear, echelon, R, rank}
use Rattle.binar.specs.Solve.{sweep}
use Rattle.binar.specs.Space.{RowSpace, SameSpace, ReducedForm, Independent}
use Rattle.binar.specs.Kernel.{free_columns, pivot_part, kernel_row, kernel_of, kernel_basis}
use Rattle.binar.specs.Theorems.{KernelRowsLaw, KernelLaw}
use Rattle.binar.proofs.row.Bits.{bit_lt, bit_of_zero, bit_past, bit_xor, xors, xor_zero_l, xor_lt, dot_lt, dot_comm, dot_xor_l, dot_xor_r, dot_zero_l, dot_zero_r, blank_zero}
use Rattle.binar.proofs.row.Units.{bit_unit, bit_unit_other, bit_digit, bit_digit_other, digit_lt, dot_unit, dot_digit, dot_single}
use Rattle.binar.proofs.Lists.{All, all_of, all_map, all_zip, all_get, all_get_d, all_by, all_over, all_under, map_same}
use Rattle.binar.proofs.echelon.Span.{Subspace, sum_in, below_subspace, space_subspace, space_rows, space_in, same_flip, same_join}
use Rattle.binar.proofs.echelon.Kept.{clear_bit, clear_column}
use Rattle.binar.proofs.echelon.Reduced.{Reduced, last, next, pivots_in, reduced_from, reduced_blank}
use Rattle.binar.proofs.echelon.Unique.{unique}
use Rattle.binar.proofs.echelon.Solve.{sweep_change, sweep_clears}
use Rattle.binar.proofs.echelon.Space.{R-reduced, R-narrow, R-space, rank_unique}
use Rattle.binar.proofs.Without.{Rises, rises_least, Apart}
use Rattle.binar.proofs.echelon.FreeColumns.{reduced_rises, free_count, free_rises, free_inside, free_apart, free_cover}
use Rattle.binar.proofs.matrix_form.Form.{to_form}

-- ---- rows that have an even overlap with a row, on either side
pub even_left : (v : ℕ) → Subspace (λ u. dot u v ≡ 0)
even_left v = record { origin = dot_zero_l v; sum = λ a b h k. dot_xor_l a b v ∙ omega arith }

pub even_right : (u : ℕ) → Subspace (λ v. dot u v ≡ 0)
even_right u = record { origin = dot_zero_r u; sum = λ a b h k. dot_xor_r u a b ∙ omega arith }

all_subspace : {P : ℕ → ℕ → Type 0} → ((v : ℕ) → Subspace (P v)) → (A : List ℕ) → Subspace (λ u. All (λ v. P v u) A)
all_subspace S A = record {
  origin = all_of (λ v. (S v).origin) A;
  sum = λ a b h k. all_zip (λ v. (S v).sum a b) A h k;
}

-- ---- the ones at the pivots
part_dot : (p v : ℕ) (ps M : List ℕ) (k x : ℕ) → dot (pivot_part (p ∷ ps) (v ∷ M) k) x ≡ (bit v k * bit x p + dot (pivot_part ps M k) x) % 2
unfolding pivot_part
part_dot p v ps M k x =
    dot_xor_l (bit v k * 2 ^ p) (pivot_part ps M k) x
    ∙ ap (λ (d : ℕ). (d + dot (pivot_part ps M k) x) % 2) (dot_digit (bit v k) p x (bit_lt v k))

-- they share nothing with a row that has none there
part_even : (ps M : List ℕ) (k x : ℕ) → All (λ q. bit x q ≡ 0) ps → dot (pivot_part ps M k) x ≡ 0
unfolding pivot_part
part_even [] M k x h = dot_zero_l x
part_even (p ∷ ps) [] k x h = dot_zero_l x
part_even (p ∷ ps) (v ∷ M) k x h =
    part_dot p v ps M k x ∙ ap₂ (λ (a b : ℕ). (bit v k * a + b) % 2) h.0 (part_even ps M k x h.1) ∙ omega arith

-- and with a row of a reduced matrix as much as column k does
part_row : {c lo : ℕ} {ps M : List ℕ} (k : ℕ) → k < c → lo ≤ c → Reduced c lo ps M → All (λ x. dot (pivot_part ps M k) x ≡ bit x k) M
unfolding pivot_part
part_row k l w (last {M} z) = all_map (λ x b. dot_zero_l x ∙ sym (b k (omega arith) l)) M z
part_row k l w (next {p} {v} {ps} {M} a u x o z more) = (
  part_dot p v ps M k v ∙ ap₂ (λ (d e : ℕ). (bit v k * d + e) % 2) o (part_even ps M k v z) ∙ omega (arith, bit_lt v k),
  all_zip
      (λ y b e. part_dot p v ps M k y ∙ ap₂ (λ (d f : ℕ). (bit v k * d + f) % 2) (b p (omega arith) (omega arith)) e ∙ omega (arith, bit_lt y k))
      M (reduced_blank more u) (part_row k l u more),
)

part_bit : (ps M : List ℕ) (k j : ℕ) → Apart ps j → bit (pivot_part ps M k) j ≡ 0
unfolding pivot_part
part_bit [] M k j h = bit_of_zero j
part_bit (p ∷ ps) [] k j h = bit_of_zero j
part_bit (p ∷ ps) (v ∷ M) k j h =
    bit_xor (bit v k * 2 ^ p) (pivot_part ps M k) j ∙ omega (arith, bit_digit_other (bit v k) p j (bit_lt v k) h.0, part_bit ps M k j h.1)

part_pivot : {c lo : ℕ} {ps M : List ℕ} (k : ℕ) → Reduced c lo ps M → (j : ℕ) → j < length ps → bit (pivot_part ps M k) (get_or ps j 0) ≡ bit (get_or M j 0) k
unfolding pivot_part
part_pivot k (last z) j l = absurd (omega arith)
part_pivot k (next {p} {v} {ps} {M} a u x o z more) zero l =
    bit_xor (bit v k * 2 ^ p) (pivot_part ps M k) p
    ∙ omega (arith, bit_digit (bit v k) p (bit_lt v k), part_bit ps M k p (all_map (λ q h e. omega arith) ps (reduced_from more)), bit_lt v k)
part_pivot k (next {p} {v} {ps} {M} a u x o z more) (suc j) l =
    let q = get_or ps j 0 in
    let past : p < q = all_get (λ t. p < t) ps 0 (reduced_from more) j (omega arith) in
    bit_xor (bit v k * 2 ^ p) (pivot_part ps M k) q
    ∙ omega (arith, bit_digit_other (bit v k) p q (bit_lt v k) (λ e. omega arith), part_pivot k more j (omega arith), bit_lt (get_or M j 0) k)

pub part_lt : (c : ℕ) (ps M : List ℕ) (k : ℕ) → All (λ p. p < c) ps → pivot_part ps M k < 2 ^ c
unfolding pivot_part
part_lt c [] M k h = pow_pos c
part_lt c (p ∷ ps) [] k h = pow_pos c
part_lt c (p ∷ ps) (v ∷ M) k h =
    xor_lt c _ _ (digit_lt (bit v k) p c (bit_lt v k) h.0) (part_lt c ps M k h.1)

-- only the pivot rows count
part_take : (ps M : List ℕ) (k : ℕ) → pivot_part ps M k ≡ pivot_part ps (take (length ps) M) k
unfolding pivot_part
part_take [] M k = refl
part_take (p ∷ ps) [] k = refl
part_take (p ∷ ps) (v ∷ M) k = ap (bit v k * 2 ^ p ⊕◌) (part_take ps M k)

-- ---- rows of which each has a one in its own column, and none in the columns of those before it
abbrev Cleared : (ℕ → ℕ) → List ℕ → Type 0
Cleared f [] = Unit {0}
Cleared f (k ∷ ks) = (bit (f k) k ≡ 1) × All (λ j. bit (f j) k ≡ 0) ks × Cleared f ks

bit_subspace : (k : ℕ) → Subspace (λ v. bit v k ≡ 0)
bit_subspace k = record { origin = bit_of_zero k; sum = λ a b h g. bit_xor a b k ∙ omega arith }

cleared_independent : (f : ℕ → ℕ) (ks : List ℕ) → Cleared f ks → Independent (map f ks)
unfolding Independent row_sum if_bit
cleared_independent f [] h s l e = omega arith
cleared_independent f (k ∷ ks) h s l e =
    let w : s < 2 ^ suc (length (map f ks)) = l in
    let b : bit (row_sum (s / 2) (map f ks)) k ≡ 0 = sum_in (bit_subspace k) (map f ks) (all_over (λ v. bit v k ≡ 0) f ks h.1) (s / 2) in
    let d : s % 2 ≡ 0 = omega (arith, sym (ap (λ (v : ℕ). bit v k) e ∙ bit_of_zero k) ∙ bit_xor (if_bit (s % 2) (f k) 0) (row_sum (s / 2) (map f ks)) k, digit (s % 2) (omega arith)) in
    let t : row_sum (s / 2) (map f ks) ≡ 0 = sym (ap (λ (n : ℕ). if_bit n (f k) 0 ⊕ row_sum (s / 2) (map f ks)) d ∙ xor_zero_l _) ∙ e in
    let g : s / 2 ≡ 0 = cleared_independent f ks h.2 (s / 2) (omega arith) t in
    omega arith
  where
    digit : (d : ℕ) → d < 2 → bit (if_bit d (f k) 0) k ≡ d
    digit zero l = bit_of_zero k
    digit (suc zero) l = h.0
    digit (suc (suc d)) l = absurd (omega arith)

sweep_bit : (k : ℕ) (ps M : List ℕ) (v : ℕ) → All (λ w. bit w k ≡ 0) M → bit (sweep ps M v) k ≡ bit v k
unfolding sweep
sweep_bit k [] M v h = refl
sweep_bit k (p ∷ ps) [] v h = refl
sweep_bit k (p ∷ ps) (w ∷ M) v h = sweep_bit k ps M (clear p w v) h.1 ∙ clear_bit p w v k h.0

-- a sweep by them leaves no one in their columns
cleared_sweep : (f : ℕ → ℕ) (ks : List ℕ) → Cleared f ks → (v : ℕ) → All (λ k. bit (sweep ks (map f ks) v) k ≡ 0) ks
unfolding sweep
cleared_sweep f [] h v = tt
cleared_sweep f (k ∷ ks) h v = (
  sweep_bit k ks (map f ks) (clear k (f k) v) (all_over (λ w. bit w k ≡ 0) f ks h.1) ∙ clear_column k (f k) v h.0,
  cleared_sweep f ks h.2 (clear k (f k) v),
)

-- ---- the rows for a reduced matrix
module _ {c : ℕ} {ps M : List ℕ} (r : Reduced c 0 ps M) where
  abbrev free : List ℕ
  free = free_columns c ps

  abbrev row_for : ℕ → ℕ
  row_for = kernel_row ps M

  inside : All (λ k. k < c) free
  inside = free_inside c ps

  columns_count : length free + length ps ≡ c
  columns_count = free_count c ps (reduced_rises r) (pivots_in r)

  -- what holds at each pivot and at each other column holds of the first c
  everywhere : (Q : ℕ → Type 0) → All Q ps → All Q free → (j : ℕ) → j < c → Q j
  everywhere Q h g j l = free_cover c ps Q h g j l

  row_own : (k : ℕ) → Apart ps k → bit (row_for k) k ≡ 1
  unfolding kernel_row
  row_own k a = bit_xor (2 ^ k) (pivot_part ps M k) k ∙ omega (arith, bit_unit k, part_bit ps M k k a)

  row_other : (j k : ℕ) → Apart ps k → (k ≡ j → ⊥) → bit (row_for j) k ≡ 0
  unfolding kernel_row
  row_other j k a n = bit_xor (2 ^ j) (pivot_part ps M j) k ∙ omega (arith, bit_unit_other j k n, part_bit ps M j k a)

  cleared_from : (lo : ℕ) (ks : List ℕ) → Rises lo ks → All (Apart ps) ks → Cleared row_for ks
  cleared_from lo [] h a = tt
  cleared_from lo (k ∷ ks) h a = (
    row_own k a.0,
    all_map (λ j u. row_other j k a.0 (λ e. omega arith)) ks (rises_least (suc k) ks h.1),
    cleared_from (suc k) ks h.1 a.1,
  )

  cleared : Cleared row_for free
  cleared = cleared_from 0 free (free_rises c ps) (free_apart c ps)

  -- at pivot j it has the entry of row j
  row_pivot : (k j : ℕ) → Apart ps k → j < length ps → bit (row_for k) (get_or ps j 0) ≡ bit (get_or M j 0) k
  unfolding kernel_row
  row_pivot k j a h =
      let q = get_or ps j 0 in
      bit_xor (2 ^ k) (pivot_part ps M k) q
      ∙ omega (arith, bit_unit_other k q (λ e. all_get (λ p. k ≡ p → ⊥) ps 0 a j h (sym e)), part_pivot k r j h, bit_lt (get_or M j 0) k)

  rows_independent : Independent (map row_for free)
  rows_independent = cleared_independent row_for free cleared

  rows_lt : All (λ u. u < 2 ^ c) (map row_for free)
  unfolding kernel_row
  rows_lt = all_over (λ u. u < 2 ^ c) row_for free (all_map (λ k l. xor_lt c (2 ^ k) (pivot_part ps M k) (pow-lt l) (part_lt c ps M k (pivots_in r))) free inside)

  -- the overlap of a row with one that has none at the pivots, and with a row of the matrix
  row_dot : (k x : ℕ) → All (λ q. bit x q ≡ 0) ps → dot (row_for k) x ≡ bit x k
  unfolding kernel_row
  row_dot k x h =
      dot_xor_l (2 ^ k) (pivot_part ps M k) x ∙ omega (arith, dot_comm (2 ^ k) x ∙ dot_unit x k, part_even ps M k x h, bit_lt x k)

  row_even : (k : ℕ) → k < c → All (λ x. dot (row_for k) x ≡ 0) M
  unfolding kernel_row
  row_even k l =
      all_map (λ x e. dot_xor_l (2 ^ k) (pivot_part ps M k) x ∙ omega (arith, dot_comm (2 ^ k) x ∙ dot_unit x k, bit_lt x k)) M
      (part_row k l (omega arith) r)

  rows_even : All (λ u. All (λ x. dot u x ≡ 0) M) (map row_for free)
  rows_even = all_over (λ u. All (λ x. dot u x ≡ 0) M) row_for free (all_map row_even free inside)

  -- a row with an even overlap with each row of the matrix, and no one outside the pivots, is zero
  module _ (F : ReducedForm c M ps) (w : ℕ) (small : w < 2 ^ c) (even : All (λ x. dot w x ≡ 0) M) (off : All (λ k. bit w k ≡ 0) free) where
    at_pivot : (i : ℕ) → i < length ps → bit w (get_or ps i 0) ≡ 0
    at_pivot i l =
        let v = get_or M i 0 in
        let p = get_or ps i 0 in
        let Q : ℕ → Type 0 = λ j. (j ≡ p → ⊥) → bit w j * bit v j ≡ 0 in
        let pivots : All Q ps = all_by Q ps 0 λ j k n. ap (bit w (get_or ps j 0) *◌) (F.alone j i k (λ e. n (ap (λ (t : ℕ). get_or ps t 0) (sym e)))) ∙ omega arith in
        let others : All Q free = all_map (λ j z n. ap (◌* bit v j) z ∙ omega arith) free off in
        let only : (j : ℕ) → (j ≡ p → ⊥) → bit w j * bit v j ≡ 0 =
        λ j n. elim (dec_lt j c) [ yes u ↦ everywhere Q pivots others j u n | no u ↦ ap (◌* bit v j) (bit_past c w j small (omega arith)) ∙ omega arith ] in
        let e : bit w p * bit v p ≡ 0 = sym (dot_single w v p only) ∙ all_get_d (λ x. dot w x ≡ 0) M 0 (dot_zero_r w) even i in
        omega (arith, ap (bit w p *◌) (sym (F.one i l)) ∙ e)

    only_zero : w ≡ 0
    only_zero = blank_zero c w small λ k a u. everywhere (λ j. bit w j ≡ 0) (all_by (λ q. bit w q ≡ 0) ps 0 at_pivot) off k u

  -- ---- every row with even overlaps is a sum of kernel rows
  rows_complete : All (λ v. v < 2 ^ c) M → (u : ℕ) → u < 2 ^ c → All (λ x. dot u x ≡ 0) M → RowSpace (map row_for free) u
  rows_complete narrow u l h =
      let K = map row_for free in
      let w = sweep free K u in
      let small = sweep_change (below_subspace c) free K u rows_lt in
      let even = sweep_change (all_subspace even_left M) free K u rows_even in
      let back : (w ⊕ u) ⊕ u ≡ w = simp xors in
      let z : w ≡ 0 = only_zero (to_form r narrow) w (subst (λ t. t < 2 ^ c) back (xor_lt c (w ⊕ u) u small l))
      (subst (λ t. All (λ x. dot t x ≡ 0) M) back ((all_subspace even_left M).sum (w ⊕ u) u even h)) (cleared_sweep row_for free cleared u) in
      subst (RowSpace K) (ap (◌⊕ u) z ∙ xor_zero_l u) (sweep_change (space_subspace K) free K u (space_rows K))

  -- ---- and a row with an even overlap with each kernel row is in the row space
  rows_dual : All (λ v. v < 2 ^ c) M → (v : ℕ) → v < 2 ^ c → All (λ u. dot u v ≡ 0) (map row_for free) → RowSpace M v
  rows_dual narrow v l h =
      let w = sweep ps M v in
      let small = sweep_change (below_subspace c) ps M v narrow in
      let back : (w ⊕ v) ⊕ v ≡ w = simp xors in
      let at_pivots = sweep_clears r v in
      let change : All (λ k. dot (row_for k) (w ⊕ v) ≡ 0) free =
      all_map (λ k u. sweep_change (even_right (row_for k)) ps M v (row_even k u)) free inside in
      let off : All (λ k. bit w k ≡ 0) free =
      all_zip (λ k a b. sym (row_dot k w at_pivots) ∙ ap (dot (row_for k)) (sym back) ∙ dot_xor_r (row_for k) (w ⊕ v) v ∙ omega arith) free
      change (all_under (λ u. dot u v ≡ 0) row_for free h) in
      let z : w ≡ 0 = blank_zero c w (subst (λ t. t < 2 ^ c) back (xor_lt c (w ⊕ v) v small l)) (λ k a u. everywhere (λ j. bit w j ≡ 0) at_pivots off k u) in
      subst (RowSpace M) (ap (◌⊕ v) z ∙ xor_zero_l v) (sweep_change (space_subspace M) ps M v (space_rows M))

-- ---- the rows by index
get_or_map_lt : (f : ℕ → ℕ) (ks : List ℕ) (i : ℕ) → i < length ks → get_or (map f ks) i 0 ≡ f (get_or ks i 0)
get_or_map_lt f [] i l = absurd (omega arith)
get_or_map_lt f (k ∷ ks) zero l = refl
get_or_map_lt f (k ∷ ks) (suc i) l = get_or_map_lt f ks i (omega arith)

rises_get : (lo : ℕ) (ks : List ℕ) → Rises lo ks → (i j : ℕ) → i < j → j < length ks → get_or ks i 0 < get_or ks j 0
rises_get lo [] h i j l u = absurd (omega arith)
rises_get lo (k ∷ ks) h zero zero l u = absurd (omega arith)
rises_get lo (k ∷ ks) h zero (suc j) l u = all_get (λ q. k < q) ks 0 (rises_least (suc k) ks h.1) j (omega arith)
rises_get lo (k ∷ ks) h (suc i) zero l u = absurd (omega arith)
rises_get lo (k ∷ ks) h (suc i) (suc j) l u = rises_get (suc k) ks h.1 i j (omega arith) (omega arith)

rises_apart : (lo : ℕ) (ks : List ℕ) → Rises lo ks → (i j : ℕ) → i < length ks → j < length ks → get_or ks i 0 ≡ get_or ks j 0 → i ≡ j
rises_apart lo ks h i j l u e = go (dec_lt i j) (dec_lt j i)
  where
    go : Dec (i < j) → Dec (j < i) → i ≡ j
    go (yes a) b = absurd (omega (arith, rises_get lo ks h i j a u))
    go (no a) (yes b) = absurd (omega (arith, rises_get lo ks h j i b l))
    go (no a) (no b) = omega arith

-- ---- of numbers 0 and 1, all are 0 or one is 1
some_one : (f : ℕ → ℕ) (vs : List ℕ) → All (λ v. f v < 2) vs → (All (λ v. f v ≡ 0) vs → ⊥) → (i : ℕ) × (i < length vs) × (f (get_or vs i 0) ≡ 1)
some_one f [] h n = absurd (n tt)
some_one f (v ∷ vs) h n = go (f v) refl (some_one f vs h.1)
  where
    go : (d : ℕ) → f v ≡ d → ((All (λ w. f w ≡ 0) vs → ⊥) → (i : ℕ) × (i < length vs) × (f (get_or vs i 0) ≡ 1))
        → (i : ℕ) × (i < length (v ∷ vs)) × (f (get_or (v ∷ vs) i 0) ≡ 1)
    go zero e more = let (i, l, o) = more (λ a. n (e, a)) in (suc i, omega arith, o)
    go (suc d) e more = (0, omega arith, omega (arith, h.0))

module _ (c : ℕ) (A : List ℕ) where
  abbrev K : List ℕ
  K = kernel_basis c A

  -- an even overlap with each row of R is one with each row of A
  from_form : (u : ℕ) → All (λ x. dot u x ≡ 0) (R (echelon c A)) → All (λ x. dot u x ≡ 0) (columns c A)
  from_form u h = all_map (λ x s. space_in (even_right u) h x ((R-space c A).there x s)) (columns c A) (space_rows (columns c A))

  to_rows : (u : ℕ) → All (λ x. dot u x ≡ 0) (columns c A) → All (λ x. dot u x ≡ 0) (R (echelon c A))
  to_rows u h = all_map (λ x s. space_in (even_right u) h x ((R-space c A).back x s)) (R (echelon c A)) (space_rows (R (echelon c A)))

  kernel_even : All (λ u. All (λ x. dot u x ≡ 0) (columns c A)) K
  unfolding kernel_basis kernel_of
  kernel_even = all_map (λ u h. from_form u h) K (rows_even (R-reduced c A))

  kernel_dual : (v : ℕ) → v < 2 ^ c → All (λ u. dot u v ≡ 0) K → RowSpace (columns c A) v
  unfolding kernel_basis kernel_of
  kernel_dual v l h = (R-space c A).back v (rows_dual (R-reduced c A) (R-narrow c A) v l h)

  kernel_pivots : K ≡ let ps = (echelon c A).pivots in map (kernel_row ps (take (length ps) (R (echelon c A)))) (free_columns c ps)
  unfolding kernel_basis kernel_of kernel_row
  kernel_pivots =
      let ps = (echelon c A).pivots in
      let M = R (echelon c A) in
      let ks = free_columns c ps in
      map_same (kernel_row ps M) (kernel_row ps (take (length ps) M)) ks (all_of (λ k. ap (2 ^ k ⊕◌) (part_take ps M k)) ks)

  pub kernel_rows_law : KernelRowsLaw c A
  unfolding kernel_basis kernel_of rank
  kernel_rows_law =
      let ps = (echelon c A).pivots in
      let ks = free_columns c ps in
      let f = kernel_row ps (R (echelon c A)) in
      let r = R-reduced c A in
      let apart : (i : ℕ) → i < length ks → Apart ps (get_or ks i 0) = all_get (Apart ps) ks 0 (free_apart c ps) in
      let row : (i : ℕ) → i < length ks → get_or (map f ks) i 0 ≡ f (get_or ks i 0) = λ i l. get_or_map_lt f ks i l in
      record {
        free = ks;
        rise = rises_get 0 ks (free_rises c ps);
        inside = all_get (λ k. k < c) ks 0 (inside r);
        no_pivot = λ i j l h. all_get (λ p. get_or ks i 0 ≡ p → ⊥) ps 0 (apart i l) j h;
        all_columns = columns_count r;
        count = length-map ks f;
        own = λ i l. ap (λ (v : ℕ). bit v (get_or ks i 0)) (row i l) ∙ row_own r (get_or ks i 0) (apart i l);
        others = λ i j l h n. ap (λ (v : ℕ). bit v (get_or ks j 0)) (row i l)
            ∙ row_other r (get_or ks i 0) (get_or ks j 0) (apart j h) (λ e. n (sym (rises_apart 0 ks (free_rises c ps) j i h l e)));
        at_pivots = λ i j l h. ap (λ (v : ℕ). bit v (get_or ps j 0)) (row i l) ∙ row_pivot r (get_or ks i 0) j (apart i l) h;
      }

kernel_same : (c : ℕ) (A B : List ℕ) → SameSpace (columns c A) (columns c B) → kernel_basis c A ≡ kernel_basis c B
kernel_same c A B s =
    let u = unique (R-reduced c A) (R-reduced c B) (R-narrow c A) (R-narrow c B) (same_join (same_flip (R-space c A)) (same_join s (R-space c B))) in
    kernel_pivots c A ∙ ap₂ (λ (ps M : List ℕ). map (kernel_row ps M) (free_columns c ps)) u.0 u.1 ∙ sym (kernel_pivots c B)

pub kernel_law : (c : ℕ) (A : List ℕ) → KernelLaw c A
unfolding kernel_basis kernel_of rank
kernel_law c A = record {
  narrow = all_get_d (λ u. u < 2 ^ c) (K c A) 0 (pow_pos c) (rows_lt (R-reduced c A));
  sound = λ v s j. all_get_d (λ x. dot v x ≡ 0) (columns c A) 0 (dot_zero_r v) (space_in (all_subspace even_left (columns c A)) (kernel_even c A) v s) j;
  complete = λ v l h. rows_complete (R-reduced c A) (R-narrow c A) v l (to_rows c A v (all_by (λ x. dot v x ≡ 0) (columns c A) 0 λ j u. h j));
  independent = rows_independent (R-reduced c A);
  count = λ d h. omega (arith, rank_unique c A d h, length-map (free_columns c (echelon c A).pivots) (kernel_row (echelon c A).pivots (R (echelon c A))), columns_count (R-reduced c A));
  dual = λ v l h. kernel_dual c A v l (all_by (λ u. dot u v ≡ 0) (K c A) 0 λ i u. h i);
  odd = λ v l n. some_one (λ u. dot u v) (K c A) (all_of (λ u. dot_lt u v) (K c A)) (λ h. n (kernel_dual c A v l h));
  same = kernel_same c A;
}
