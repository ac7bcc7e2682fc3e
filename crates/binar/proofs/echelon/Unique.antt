-- A row space has one reduced form, and the pivot rows of a reduced form are independent.
use mathlib.Core.Path.{◌≡◌, refl, sym, ap, ap₂, ◌∙◌}
use mathlib.Core.List.{List, [], ◌∷◌}
use Prim.Native.Nat.{ℕ, zero, suc, ◌/◌, ◌%◌, ◌^◌, ◌≤◌, ◌<◌}
use native.Mathlib.Nat.{le_refl}
use native.Mathlib.Decide.{dec_lt}
use native.Mathlib.Omega.{arith}
use lib.ListN.{length, take}
use Rattle.binar.specs.Row.{◌⊕◌, bit, if_bit, row_sum}
use Rattle.binar.specs.Space.{RowSpace, SameSpace, Independent}
use Rattle.binar.proofs.row.Bits.{bit_of_zero, bit_xor, xor_zero_l, xor_eq_zero, xor_lt, Blank, blank_zero}
use Rattle.binar.proofs.Lists.{All, all_map, all_zip}
use Rattle.binar.proofs.echelon.Span.{sum_in, blank_subspace, space_subspace, space_head, space_tail, space_in}
use Rattle.binar.proofs.echelon.Reduced.{Reduced, last, next, reduced_blank}

-- ---- sums of the rows of a reduced matrix
-- a sum has no one before the first pivot
sum_blank : {c lo : ℕ} {ps M : List ℕ} → Reduced c lo ps M → lo ≤ c → (s : ℕ) → Blank 0 lo (row_sum s M)
sum_blank {lo} {M} r l = sum_in (blank_subspace 0 lo) M (reduced_blank r l)

-- its one at the first pivot says whether the first row is in it
sum_digit : {c lo p v : ℕ} {ps M : List ℕ} → Reduced c lo (p ∷ ps) (v ∷ M) → (s : ℕ) → bit (row_sum s (v ∷ M)) p ≡ s % 2
unfolding row_sum if_bit
sum_digit {p} {v} {M} (next a u x o z more) s =
    bit_xor (if_bit (s % 2) v 0) (row_sum (s / 2) M) p ∙ omega (arith, sum_blank more u (s / 2) p (omega arith) (omega arith), digit (s % 2) (omega arith))
  where
    digit : (d : ℕ) → d < 2 → bit (if_bit d v 0) p ≡ d
    digit zero h = bit_of_zero p
    digit (suc zero) h = o
    digit (suc (suc d)) h = absurd (omega arith)

-- with no one at the first pivot it is a sum of the later rows
sum_tail : {c lo p v : ℕ} {ps M : List ℕ} → Reduced c lo (p ∷ ps) (v ∷ M) → (s : ℕ) → bit (row_sum s (v ∷ M)) p ≡ 0 → row_sum s (v ∷ M) ≡ row_sum (s / 2) M
unfolding row_sum if_bit
sum_tail {v} {M} r s h =
    let e : s % 2 ≡ 0 = sym (sum_digit r s) ∙ h in
    rw e (xor_zero_l (row_sum (s / 2) M))

-- with no one at any pivot it has none in the first c columns
pub sum_null : {c lo : ℕ} {ps M : List ℕ} → Reduced c lo ps M → (s : ℕ) → All (λ q. bit (row_sum s M) q ≡ 0) ps → Blank 0 c (row_sum s M)
sum_null {c} (last {M} z) s h = sum_in (blank_subspace 0 c) M z s
sum_null {c} (next {ps} a u x o z more) s h =
    let e = sum_tail (next a u x o z more) s h.0 in
    rw e (sum_null more (s / 2) (all_map (λ q b. ap (λ (v : ℕ). bit v q) (sym e) ∙ b) ps h.1))

pub reduced_independent : {c lo : ℕ} {ps M : List ℕ} → Reduced c lo ps M → length ps ≡ length M → Independent M
unfolding Independent
reduced_independent (last {M = []} z) e s l h = omega arith
reduced_independent (last {M = v ∷ M} z) e s l h = absurd (omega arith)
reduced_independent (next {p} {v} {M} a u x o z more) e s l h =
    let r = next a u x o z more in
    let w : s < 2 ^ suc (length M) = l in
    let b : bit (row_sum s (v ∷ M)) p ≡ 0 = ap (λ (t : ℕ). bit t p) h ∙ bit_of_zero p in
    let d : s % 2 ≡ 0 = sym (sum_digit r s) ∙ b in
    let g : s / 2 ≡ 0 = reduced_independent more (omega arith) (s / 2) (omega arith) (sym (sum_tail r s b) ∙ h) in
    omega arith

-- ---- two reduced matrices
-- the first pivot row is no sum of rows that are blank up to and at its pivot
pivot_row_outside : {c lo p v d : ℕ} {ps M N : List ℕ} → Reduced c lo (p ∷ ps) (v ∷ M) → p < d → All (Blank 0 d) N → RowSpace N v → ⊥
pivot_row_outside {p} {v} {d} (next a u x o z more) l b s = omega (arith, o, space_in (blank_subspace 0 d) b v s p (omega arith) l)

first_pivot_from : {c lo p v lo' : ℕ} {ps M qs N : List ℕ} → Reduced c lo (p ∷ ps) (v ∷ M) → Reduced c lo' qs N → lo' ≤ c → RowSpace N v → lo' ≤ p
first_pivot_from {p} {lo'} r r' l s = go (dec_lt p lo')
  where
    go : Dec (p < lo') → lo' ≤ p
    go (yes y) = absurd (pivot_row_outside r y (reduced_blank r' l) s)
    go (no n) = omega arith

-- what the later rows span, given what all rows span
later_space : {c lo p v lo' q w : ℕ} {ps M qs N : List ℕ} → Reduced c lo (p ∷ ps) (v ∷ M) → Reduced c lo' (q ∷ qs) (w ∷ N) → p ≡ q
    → ((t : ℕ) → RowSpace (v ∷ M) t → RowSpace (w ∷ N) t) → (t : ℕ) → RowSpace M t → RowSpace N t
later_space {p} {v} {q} {w} {N} (next a u x o z more) r e f t h =
    let k = f t (space_tail v h) in
    let b : bit (row_sum k.subset (w ∷ N)) q ≡ 0 = ap₂ bit (k.sums ∙ sym h.sums) (sym e) ∙ sum_blank more u h.subset p (omega arith) (omega arith) in
    record { subset = k.subset / 2; sums = sym (sum_tail r k.subset b) ∙ k.sums }

pub unique : {c lo lo' : ℕ} {ps qs M N : List ℕ} → Reduced c lo ps M → Reduced c lo' qs N → All (λ v. v < 2 ^ c) M → All (λ v. v < 2 ^ c) N → SameSpace M N
    → (ps ≡ qs) × (take (length ps) M ≡ take (length qs) N)
unique (last z) (last w) hM hN s = (refl, refl)
unique (last z) (next {v} {M = N} a u x o w more) hM hN s = absurd (pivot_row_outside (next a u x o w more) u z (s.back v (space_head v N)))
unique (next {v} {M} a u x o w more) (last z) hM hN s = absurd (pivot_row_outside (next a u x o w more) u z (s.there v (space_head v M)))
unique {c} (next {p} {v} {ps} {M} a u x o z more) (next {p = q} {v = w} {ps = qs} {M = N} a' u' x' o' z' more') hM hN s =
    let r : Reduced c p (p ∷ ps) (v ∷ M) = next (le_refl p) u x o z more in
    let r' : Reduced c q (q ∷ qs) (w ∷ N) = next (le_refl q) u' x' o' z' more' in
    let l : q ≤ p = first_pivot_from r r' (omega arith) (s.there v (space_head v M)) in
    let l' : p ≤ q = first_pivot_from r' r (omega arith) (s.back w (space_head w N)) in
    let e : p ≡ q = omega arith in
    let later : SameSpace M N = record { there = later_space r r' e s.there; back = later_space r' r (sym e) s.back } in
    let same = unique more more' hM.1 hN.1 later in
    let d = (space_subspace (v ∷ M)).sum v w (space_head v M) (s.back w (space_head w N)) in
    let b : bit (row_sum d.subset (v ∷ M)) p ≡ 0 = ap (λ (t : ℕ). bit t p) d.sums ∙ omega (arith, bit_xor v w p, ap (bit w) e) in
    let t : row_sum (d.subset / 2) M ≡ v ⊕ w = sym (sum_tail r d.subset b) ∙ d.sums in
    let zs : All (λ j. bit (v ⊕ w) j ≡ 0) ps = all_zip (λ j f g. omega (arith, bit_xor v w j)) ps z (rw (← same.0) at z') in
    let n : Blank 0 c (v ⊕ w) = rw t at (sum_null more (d.subset / 2) (rw t zs)) in
    (ap₂ ◌∷◌ e same.0, ap₂ ◌∷◌ (xor_eq_zero v w (blank_zero c (v ⊕ w) (xor_lt c v w hM.0 hN.0) n)) same.1)
