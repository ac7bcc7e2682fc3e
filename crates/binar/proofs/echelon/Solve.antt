-- `transpose_solve` finds a set of rows exactly when there is one.
use mathlib.Core.Path.{◌≡◌, refl, sym, ap, ◌∙◌, subst}
use mathlib.Core.List.{List, [], ◌∷◌, map, map-map, map-id}
use mathlib.Core.Option.{some, none}
use Prim.Native.Nat.{ℕ, zero, suc, ◌+◌, ◌*◌, ◌/◌, ◌%◌, ◌^◌, ◌<◌}
use native.Mathlib.Nat.{mod-lt, mod-mod, div-eq_of_lt}
use native.Mathlib.Omega.{arith}
use lib.ListN.{length}
use lib.Pow.{pow_pos}
use Rattle.binar.specs.Row.{◌⊕◌, bit, columns, row_sum}
use Rattle.binar.specs.Echelon.{clear, echelon}
use Rattle.binar.specs.Solve.{sweep, solved, transpose_solve}
use Rattle.binar.specs.Space.{RowSpace}
use Rattle.binar.proofs.row.Bits.{bit_lt, bit_mod, bit_xor, xors, xor_self, xor_zero_l, xor_zero_r, xor_mod, xor_shr, beside_parts, blank_zero}
use Rattle.binar.proofs.Lists.{All, all_zip, map_same, all_of}
use Rattle.binar.proofs.echelon.Span.{if_bit_case, Subspace, blank_subspace, space_subspace}
use Rattle.binar.proofs.echelon.Kept.{clear_column}
use Rattle.binar.proofs.echelon.Reduced.{Reduced, last, next, pivots_in, reduced_blank}
use Rattle.binar.proofs.echelon.Unique.{sum_null}
use Rattle.binar.proofs.echelon.Transform.{whole, parts, rows_are, made_subspace, whole_made, square_subspace, whole_square}
use Rattle.binar.proofs.echelon.Space.{whole_reduced, R-reduced, R-space}

-- ---- the sweep
clear_change : {P : ℕ → Type 0} → Subspace P → (c p v : ℕ) → P p → P (clear c p v ⊕ v)
unfolding clear
clear_change {P} S c p v h =
    if_bit_case (λ w. P (w ⊕ v)) (bit v c) (λ z. subst P (sym (xor_self v)) S.origin) (λ l. subst P change h)
  where
    change : p ≡ (v ⊕ p) ⊕ v
    change = simp xors

-- what a sweep adds is in every subspace that has the rows
pub sweep_change : {P : ℕ → Type 0} → Subspace P → (ps M : List ℕ) (v : ℕ) → All P M → P (sweep ps M v ⊕ v)
unfolding sweep
sweep_change {P} S [] M v h = subst P (sym (xor_self v)) S.origin
sweep_change {P} S (p ∷ ps) [] v h = subst P (sym (xor_self v)) S.origin
sweep_change {P} S (p ∷ ps) (w ∷ M) v h =
    subst P (simp xors) (S.sum _ _ (sweep_change S ps M (clear p w v) h.1) (clear_change S p w v h.0))

-- a sweep by a reduced matrix leaves no one at a pivot
pub sweep_clears : {c lo : ℕ} {ps M : List ℕ} → Reduced c lo ps M → (v : ℕ) → All (λ p. bit (sweep ps M v) p ≡ 0) ps
unfolding sweep
sweep_clears (last z) v = tt
sweep_clears (next {p} {v = w} {ps} {M} a u x o z more) v =
    let b = sweep_change (blank_subspace 0 (suc p)) ps M (clear p w v) (reduced_blank more u) in (
      omega (arith, bit_xor (sweep ps M (clear p w v)) (clear p w v) p, b p (omega arith) (omega arith), clear_column p w v o, bit_lt (sweep ps M (clear p w v)) p),
      sweep_clears more (clear p w v),
    )

-- ---- the answer
solved_some : (rest set s : ℕ) → solved rest set ≡ some s → (rest ≡ 0) × (set ≡ s)
unfolding solved
solved_some zero set s e = (refl, cc)
solved_some (suc rest) set s e = let z : ◌≡◌ {A = ℕ} 0 1 = cc in absurd (omega arith)

solved_zero : (rest set : ℕ) → rest ≡ 0 → solved rest set ≡ none → ⊥
unfolding solved
solved_zero zero set z e = let n : ◌≡◌ {A = ℕ} 0 1 = cc in omega arith
solved_zero (suc rest) set z e = omega arith

solved_none : (rest set : ℕ) → (rest ≡ 0 → ⊥) → solved rest set ≡ none
unfolding solved
solved_none zero set h = absurd (h refl)
solved_none (suc rest) set h = refl

module _ (c : ℕ) (A : List ℕ) where
  joined_rows : map (λ q. q.r + 2 ^ c * q.t) (echelon c A).rows ≡ whole c A
  joined_rows =
      rw (rows_are c A)
      (map-map (λ q. q.r + 2 ^ c * q.t) (parts c) (whole c A)
      ∙ map_same (λ w. w % 2 ^ c + 2 ^ c * (w / 2 ^ c)) (λ w. w) (whole c A) (all_of (beside_parts c) (whole c A))
      ∙ map-id (whole c A))

  module _ (v : ℕ) where
    -- what the sweep leaves: the rest of the target in the first c columns, the set past them
    unfoldable pub left : ℕ
    left = sweep (echelon c A).pivots (whole c A) (v % 2 ^ c)

    pub solve_is : transpose_solve c (echelon c A) v ≡ solved (left % 2 ^ c) (left / 2 ^ c)
    unfolding transpose_solve left
    solve_is = rw joined_rows

    set_part : (left ⊕ v % 2 ^ c) / 2 ^ c ≡ left / 2 ^ c
    set_part = xor_shr c left (v % 2 ^ c) ∙ ap (left / 2 ^ c ⊕◌) (div-eq_of_lt (mod-lt v (pow_pos c))) ∙ xor_zero_r (left / 2 ^ c)

    rest_part : (left ⊕ v % 2 ^ c) % 2 ^ c ≡ left % 2 ^ c ⊕ v % 2 ^ c
    rest_part = xor_mod c left (v % 2 ^ c) ∙ ap (left % 2 ^ c ⊕◌) (mod-mod v (2 ^ c))

    -- the set and the rest make up the target
    left_sum : row_sum (left / 2 ^ c) (columns c A) ≡ left % 2 ^ c ⊕ v % 2 ^ c
    unfolding left
    left_sum =
        ap (λ (s : ℕ). row_sum s (columns c A)) (sym set_part)
        ∙ sweep_change (made_subspace c A) (echelon c A).pivots (whole c A) (v % 2 ^ c) (whole_made c A)
        ∙ rest_part

    left_found : left % 2 ^ c ≡ 0 → row_sum (left / 2 ^ c) (columns c A) ≡ v % 2 ^ c
    left_found z = left_sum ∙ ap (◌⊕ v % 2 ^ c) z ∙ xor_zero_l (v % 2 ^ c)

    left_lt : left / 2 ^ c < 2 ^ length A
    unfolding left
    left_lt = rw set_part at (sweep_change (square_subspace c A) (echelon c A).pivots (whole c A) (v % 2 ^ c) (whole_square c A))

    left_zero : RowSpace (columns c A) (v % 2 ^ c) → left % 2 ^ c ≡ 0
    unfolding left
    left_zero h =
        let a = (space_subspace (columns c A)).sum _ _ (record { subset = left / 2 ^ c; sums = left_sum }) h in
        let b = (R-space c A).there (left % 2 ^ c) (subst (RowSpace (columns c A)) (simp xors) a) in
        let z : All (λ p. bit (left % 2 ^ c) p ≡ 0) (echelon c A).pivots =
        all_zip (λ p l e. bit_mod c left p l ∙ e) (echelon c A).pivots (pivots_in (whole_reduced c A)) (sweep_clears (whole_reduced c A) (v % 2 ^ c)) in
        blank_zero c (left % 2 ^ c) (mod-lt left (pow_pos c)) (rw b.sums at (sum_null (R-reduced c A) b.subset (rw b.sums z)))

    pub solve_sound : (s : ℕ) → transpose_solve c (echelon c A) v ≡ some s → (s < 2 ^ length A) × (row_sum s (columns c A) ≡ v % 2 ^ c)
    solve_sound s e =
        let z = solved_some (left % 2 ^ c) (left / 2 ^ c) s (sym solve_is ∙ e) in
        (rw z.1 at left_lt, rw z.1 at (left_found z.0))

    pub solve_none : transpose_solve c (echelon c A) v ≡ none → RowSpace (columns c A) (v % 2 ^ c) → ⊥
    solve_none e h = solved_zero (left % 2 ^ c) (left / 2 ^ c) (left_zero h) (sym solve_is ∙ e)

    pub none_solves : (RowSpace (columns c A) (v % 2 ^ c) → ⊥) → transpose_solve c (echelon c A) v ≡ none
    none_solves n = solve_is ∙ solved_none (left % 2 ^ c) (left / 2 ^ c) (λ z. n (record { subset = left / 2 ^ c; sums = left_found z }))
