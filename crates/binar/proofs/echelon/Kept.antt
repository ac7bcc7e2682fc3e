-- What a reduction keeps: the number of rows and, both ways, the subspaces that its rows lie in.
use mathlib.Core.Path.{◌≡◌, refl, ◌∙◌, subst}
use mathlib.Core.List.{List, [], ◌∷◌, map}
use Prim.Native.Nat.{ℕ, ◌+◌}
use native.Mathlib.Omega.{arith}
use lib.ListN.{length, length-append, length-map}
use Rattle.binar.specs.Row.{◌⊕◌, bit}
use Rattle.binar.specs.Echelon.{clear, Reduction, with_pivot, echelonize}
use Rattle.binar.proofs.row.Bits.{bit_lt, bit_xor, xors}
use Rattle.binar.proofs.Lists.{All, all_map, all_join, all_left, all_right, all_over, all_under}
use Rattle.binar.proofs.echelon.Span.{if_bit_case, Subspace}
use Rattle.binar.proofs.echelon.Steps.{others, length_others, others_in, others_out, Run, stop, step, run_is}

-- ---- a row cleared by the row p in column c
module _ (c p v : ℕ) where
  pub clear_bit : (k : ℕ) → bit p k ≡ 0 → bit (clear c p v) k ≡ bit v k
  unfolding clear
  clear_bit k h = if_bit_case (λ w. bit w k ≡ bit v k) (bit v c) (λ z. refl) (λ l. omega (arith, bit_xor v p k, bit_lt v k))

  pub clear_column : bit p c ≡ 1 → bit (clear c p v) c ≡ 0
  unfolding clear
  clear_column h = if_bit_case (λ w. bit w c ≡ 0) (bit v c) (λ z. z) (λ l. omega (arith, bit_xor v p c, bit_lt v c))

  pub clear_in : {P : ℕ → Type 0} → Subspace P → P p → P v → P (clear c p v)
  unfolding clear
  clear_in {P} S h g = if_bit_case P (bit v c) (λ z. g) (λ l. S.sum v p g h)

  pub clear_out : {P : ℕ → Type 0} → Subspace P → P p → P (clear c p v) → P v
  unfolding clear
  clear_out {P} S h = if_bit_case (λ w. P w → P v) (bit v c) (λ z g. g) (λ l g. subst P (simp xors) (S.sum (v ⊕ p) p g h))

-- ---- the number of rows
run_length : {cols c : ℕ} {done rest : List ℕ} {f : Reduction} → Run cols c done rest f → length f.rows ≡ length done + length rest
unfolding with_pivot
run_length {done} {rest} (stop b) = length-append done rest
run_length {done} (step {j} pre p post h u o b more) =
    run_length more ∙ simp (length-append, length-map) (omega (arith, length_others pre p post, length-append pre (p ∷ post)))

pub echelonize_length : (cols : ℕ) (M : List ℕ) → length (echelonize cols M).rows ≡ length M
echelonize_length cols M = run_length (run_is cols M) ∙ omega arith

-- ---- subspaces
module _ {P : ℕ → Type 0} (S : Subspace P) where
  run_in : {cols c : ℕ} {done rest : List ℕ} {f : Reduction} → Run cols c done rest f → All P done → All P rest → All P f.rows
  unfolding with_pivot
  run_in {done} {rest} (stop b) h g = all_join P done rest h g
  run_in {done} (step {j} pre p post l u o b more) h g =
      let i : P p = (all_right P pre (p ∷ post) g).0 in
      run_in more
      (all_join P (map (clear j p) done) (p ∷ []) (all_over P (clear j p) done (all_map (λ v. clear_in j p v S i) done h)) (i, tt))
      (all_over P (clear j p) (others pre post) (all_map (λ v. clear_in j p v S i) (others pre post) (others_in P pre p post g)))

  run_out : {cols c : ℕ} {done rest : List ℕ} {f : Reduction} → Run cols c done rest f → All P f.rows → All P done × All P rest
  unfolding with_pivot
  run_out {done} {rest} (stop b) h = (all_left P done rest h, all_right P done rest h)
  run_out {done} (step {j} pre p post l u o b more) h =
      let g = run_out more h in
      let i : P p = (all_right P (map (clear j p) done) (p ∷ []) g.0).0 in (
        all_map (λ v. clear_out j p v S i) done (all_under P (clear j p) done (all_left P (map (clear j p) done) (p ∷ []) g.0)),
        others_out P pre p post i (all_map (λ v. clear_out j p v S i) (others pre post) (all_under P (clear j p) (others pre post) g.1)),
      )

  pub echelonize_in : (cols : ℕ) (M : List ℕ) → All P M → All P (echelonize cols M).rows
  echelonize_in cols M h = run_in (run_is cols M) tt h

  pub echelonize_out : (cols : ℕ) (M : List ℕ) → All P (echelonize cols M).rows → All P M
  echelonize_out cols M h = (run_out (run_is cols M) h).1
