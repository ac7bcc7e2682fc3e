-- Reduced form as an inductive notion, for the first c columns of a matrix: the reduction leads to it.
use mathlib.Core.Path.{◌≡◌, refl, sym, ◌∙◌}
use mathlib.Core.List.{List, [], ◌∷◌, ◌++◌, map, append-nil}
use Prim.Native.Nat.{ℕ, suc, ◌+◌, ◌%◌, ◌^◌, ◌≤◌, ◌<◌}
use native.Mathlib.Omega.{arith}
use lib.ListN.{length, take, drop, length-append, length-map}
use lib.Seq.{append_snoc, drop_at}
use Rattle.binar.specs.Row.{bit, columns}
use Rattle.binar.specs.Echelon.{clear, Reduction, with_pivot, echelonize}
use Rattle.binar.proofs.row.Bits.{bit_mod, Blank, blank_one, blank_join}
use Rattle.binar.proofs.Lists.{All, all_of, all_map, all_zip, all_join, all_right, all_over}
use Rattle.binar.proofs.echelon.Span.{blank_subspace}
use Rattle.binar.proofs.echelon.Steps.{others, others_in, Run, stop, step, run_is}
use Rattle.binar.proofs.echelon.Kept.{clear_bit, clear_column, clear_in}

-- M's first c columns are reduced, with the pivots ps, the first no smaller than lo; the rows past the pivots are blank there
pub data Reduced (c : ℕ) : ℕ → List ℕ → List ℕ → Type 0 where
  last : {lo : ℕ} {M : List ℕ} → All (Blank 0 c) M → Reduced c lo [] M
  next : {lo p v : ℕ} {ps M : List ℕ} → lo ≤ p → p < c → Blank 0 p v → bit v p ≡ 1 → All (λ q. bit v q ≡ 0) ps → Reduced c (suc p) ps M
      → Reduced c lo (p ∷ ps) (v ∷ M)

pub pivots_in : {c lo : ℕ} {ps M : List ℕ} → Reduced c lo ps M → All (λ q. q < c) ps
pivots_in (last z) = tt
pivots_in (next a u x o z more) = (u, pivots_in more)

pub reduced_drop : {c lo : ℕ} {ps M : List ℕ} → Reduced c lo ps M → All (Blank 0 c) (drop (length ps) M)
reduced_drop (last z) = z
reduced_drop (next a u x o z more) = reduced_drop more

-- ---- a step of the reduction
-- with no ones in rest from column c up to d, the first d columns are reduced as the first c are
more_columns : {c lo : ℕ} {ps : List ℕ} (d : ℕ) (done rest : List ℕ) → c ≤ d → length ps ≡ length done → All (Blank c d) rest → Reduced c lo ps (done ++ rest)
    → Reduced d lo ps (done ++ rest)
more_columns {c} d [] rest l e b (last z) = last (all_zip (λ v. blank_join 0 c d v) rest z b)
more_columns d [] rest l e b (next a u x o z more) = absurd (omega arith)
more_columns d (v ∷ done) rest l e b (last z) = absurd (omega arith)
more_columns d (v ∷ done) rest l e b (next a u x o z more) = next a (omega arith) x o z (more_columns d done rest l (omega arith) b more)

rest_blank : {c lo : ℕ} {ps : List ℕ} (done rest : List ℕ) → length ps ≡ length done → Reduced c lo ps (done ++ rest) → All (Blank 0 c) rest
rest_blank {ps} done rest e r = rw (drop_at done rest (length ps) (sym e)) at (reduced_drop r)

-- a pivot row p for column c, put after done, and the column cleared in all other rows
module _ (c p : ℕ) (low : Blank 0 c p) (one : bit p c ≡ 1) where
  cleared : (v : ℕ) → Blank 0 c v → Blank 0 (suc c) (clear c p v)
  cleared v b = blank_join 0 c (suc c) (clear c p v) (clear_in c p v (blank_subspace 0 c) low b) (blank_one c (clear c p v) (clear_column c p v one))

  place : {lo : ℕ} {ps : List ℕ} (done rest left : List ℕ) → lo ≤ c → length ps ≡ length done → All (Blank 0 c) left → Reduced c lo ps (done ++ rest)
      → Reduced (suc c) lo (ps ++ c ∷ []) (map (clear c p) done ++ p ∷ map (clear c p) left)
  place [] rest left l e b (last z) = next l (omega arith) low one tt (last (all_over (Blank 0 (suc c)) (clear c p) left (all_map cleared left b)))
  place [] rest left l e b (next a u x o z more) = absurd (omega arith)
  place (v ∷ done) rest left l e b (last z) = absurd (omega arith)
  place (v ∷ done) rest left l e b (next {p = q} {ps = qs} a u x o z more) =
      next a (omega arith)
      (clear_in c p v (blank_subspace 0 q) (λ k h g. low k h (omega arith)) x)
      (clear_bit c p v q (low q (omega arith) u) ∙ o)
      (all_join (λ k. bit (clear c p v) k ≡ 0) qs (c ∷ [])
      (all_zip (λ k g h. clear_bit c p v k (low k (omega arith) g) ∙ h) qs (pivots_in more) z)
      (clear_column c p v one, tt))
      (place done rest left u (omega arith) b more)

run_reduced : {cols c : ℕ} {done rest : List ℕ} {f : Reduction} (ps : List ℕ) → Run cols c done rest f → c ≤ cols → length ps ≡ length done
    → Reduced c 0 ps (done ++ rest) → Reduced cols 0 (ps ++ f.pivots) f.rows
unfolding with_pivot
run_reduced {cols} {done} {rest} ps (stop b) l e r = rw append-nil (more_columns cols done rest l e b r)
run_reduced {done} ps (step {j} {f} pre p post l u o b more) h e r =
    let w = more_columns j done (pre ++ p ∷ post) l e b r in
    let z = rest_blank done (pre ++ p ∷ post) e w in
    let low = (all_right (Blank 0 j) pre (p ∷ post) z).0 in
    let n = place j p low o done (pre ++ p ∷ post) (others pre post) (omega arith) e (others_in (Blank 0 j) pre p post z) w in
    rw (← append_snoc ps j f.pivots)
    (run_reduced (ps ++ j ∷ []) more u (simp (length-append, length-map) (omega arith))
    (rw (append_snoc (map (clear j p) done) p (map (clear j p) (others pre post))) n))

pub echelonize_reduced : (cols : ℕ) (M : List ℕ) → Reduced cols 0 (echelonize cols M).pivots (echelonize cols M).rows
echelonize_reduced cols M = run_reduced [] (run_is cols M) (omega arith) refl (last (all_of (λ v k l u. absurd (omega arith)) M))

-- ---- bounds
pub reduced_room : {c lo : ℕ} {ps M : List ℕ} → Reduced c lo ps M → length ps ≤ length M
reduced_room (last z) = omega arith
reduced_room (next a u x o z more) = omega (arith, reduced_room more)

pub reduced_width : {c lo : ℕ} {ps M : List ℕ} → Reduced c lo ps M → lo ≤ c → lo + length ps ≤ c
reduced_width (last z) l = omega arith
reduced_width (next a u x o z more) l = omega (arith, reduced_width more u)

pub reduced_from : {c lo : ℕ} {ps M : List ℕ} → Reduced c lo ps M → All (λ q. lo ≤ q) ps
reduced_from (last z) = tt
reduced_from (next {ps} a u x o z more) = (a, all_map (λ q h. omega arith) ps (reduced_from more))

-- no row has a one before the first pivot
pub reduced_blank : {c lo : ℕ} {ps M : List ℕ} → Reduced c lo ps M → lo ≤ c → All (Blank 0 lo) M
reduced_blank (last {M} z) l = all_map (λ v b k h u. b k h (omega arith)) M z
reduced_blank (next {M} a u x o z more) l = (λ k h g. x k h (omega arith), all_map (λ v b k h g. b k h (omega arith)) M (reduced_blank more u))

-- ---- parts of a reduced matrix
pub reduced_take : {c lo : ℕ} {ps M : List ℕ} → Reduced c lo ps M → Reduced c lo ps (take (length ps) M)
reduced_take (last z) = last tt
reduced_take (next a u x o z more) = next a u x o z (reduced_take more)

pub reduced_columns : {c lo : ℕ} {ps M : List ℕ} → Reduced c lo ps M → Reduced c lo ps (columns c M)
unfolding columns
reduced_columns {c} (last {M} z) = last (all_over (Blank 0 c) (λ v. v % 2 ^ c) M (all_map (λ v b k l u. bit_mod c v k u ∙ b k l u) M z))
reduced_columns {c} (next {p} {v} {ps} a u x o z more) =
    next a u (λ k l h. bit_mod c v k (omega arith) ∙ x k l h) (bit_mod c v p u ∙ o) (all_zip (λ q l h. bit_mod c v q l ∙ h) ps (pivots_in more) z)
    (reduced_columns more)
