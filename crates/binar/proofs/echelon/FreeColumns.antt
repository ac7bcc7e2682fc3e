-- The free columns: with the pivots they are all columns, each once.
use Rattle.std.proofs.Common.{◌≡◌, refl, ap, subst, ℕ, zero, suc, ◌+◌, ◌<◌, ◌≤◌, List, [], ◌∷◌, length, arith}
use Rattle.std.specs.List.{range_with_len}
use native.Mathlib.Decide.{ℕ_discrete}
use Rattle.binar.specs.Kernel.{without, free_columns}
use Rattle.binar.proofs.Lists.{All, all_map, all_of}
use Rattle.binar.proofs.Without.{Rises, rises_from, Apart, apart_below, without_kept, without_all, without_rises, without_cover, without_first}
use Rattle.binar.proofs.echelon.Reduced.{Reduced, last, next}

pub reduced_rises : {c lo : ℕ} {ps M : List ℕ} → Reduced c lo ps M → Rises lo ps
reduced_rises (last z) = tt
reduced_rises (next a u x o z more) = (a, reduced_rises more)

-- ---- n columns from column k on
range_rises : (k n : ℕ) → Rises k (range_with_len k n)
range_rises k zero = tt
range_rises k (suc n) = (omega arith, rises_from (suc k) (k + 1) (range_with_len (k + 1) n) (omega arith) (range_rises (k + 1) n))

range_inside : (k n : ℕ) → All (λ j. j < k + n) (range_with_len k n)
range_inside k zero = tt
range_inside k (suc n) = (omega arith, all_map (λ j u. omega arith) (range_with_len (k + 1) n) (range_inside (k + 1) n))

range_at : (Q : ℕ → Type 0) (k n : ℕ) → All Q (range_with_len k n) → (j : ℕ) → k ≤ j → j < k + n → Q j
range_at Q k zero h j l u = absurd (omega arith)
range_at Q k (suc n) h j l u = elim (ℕ_discrete k j) [ yes e ↦ subst Q e h.0 | no d ↦ range_at Q (k + 1) n h.1 j (omega arith) (omega arith) ]

-- ---- the walk along columns and pivots: column k is the next pivot, or is none
free_hit : (n k p : ℕ) (ps : List ℕ) → k ≡ p → without (p ∷ ps) (range_with_len k (suc n)) ≡ without ps (range_with_len (k + 1) n)
free_hit n k p ps e =
    subst (λ q. without (q ∷ ps) (range_with_len k (suc n)) ≡ without ps (range_with_len (k + 1) n)) e
    (without_first k ps (range_with_len (k + 1) n) (rises_from (suc k) (k + 1) (range_with_len (k + 1) n) (omega arith) (range_rises (k + 1) n)))

free_miss : (n k : ℕ) (ps : List ℕ) → Rises (suc k) ps → without ps (range_with_len k (suc n)) ≡ k ∷ without ps (range_with_len (k + 1) n)
free_miss n k ps h = without_kept ps k (range_with_len (k + 1) n) (apart_below k ps h)

count_from : (n k : ℕ) (ps : List ℕ) → Rises k ps → All (λ p. p < k + n) ps → length (without ps (range_with_len k n)) + length ps ≡ n
unfolding without
count_from zero k [] h l = refl
count_from zero k (p ∷ ps) h l = absurd (omega (arith, h.0, l.0))
count_from (suc n) k [] h l = omega (arith, ap length (free_miss n k [] tt), count_from n (k + 1) [] tt tt)
count_from (suc n) k (p ∷ ps) h l =
    elim (ℕ_discrete k p) [
      | yes e ↦ omega (
        arith,
        ap length (free_hit n k p ps e),
        count_from n (k + 1) ps (rises_from (k + 1) (suc p) ps (omega arith) h.1) (all_map (λ q u. omega arith) ps l.1),
      )
      | no d ↦ omega (
        arith,
        ap length (free_miss n k (p ∷ ps) (omega (arith, h.0), h.1)),
        count_from n (k + 1) (p ∷ ps) (omega (arith, h.0), h.1) (all_map (λ q u. omega arith) (p ∷ ps) l),
      )
    ]

-- ---- of the columns below c
module _ (c : ℕ) (ps : List ℕ) where
  pub free_count : Rises 0 ps → All (λ p. p < c) ps → length (free_columns c ps) + length ps ≡ c
  unfolding free_columns
  free_count h l = count_from c 0 ps h (all_map (λ p u. omega arith) ps l)

  pub free_rises : Rises 0 (free_columns c ps)
  unfolding free_columns
  free_rises = without_rises ps 0 (range_with_len 0 c) (range_rises 0 c)

  pub free_inside : All (λ k. k < c) (free_columns c ps)
  unfolding free_columns
  free_inside = without_all ps (λ k. k < c) (range_with_len 0 c) (all_map (λ k u a. omega arith) (range_with_len 0 c) (range_inside 0 c))

  pub free_apart : All (Apart ps) (free_columns c ps)
  unfolding free_columns
  free_apart = without_all ps (Apart ps) (range_with_len 0 c) (all_of (λ k a. a) (range_with_len 0 c))

  -- what holds at each pivot and at each free column holds at all
  pub free_cover : (Q : ℕ → Type 0) → All Q ps → All Q (free_columns c ps) → (k : ℕ) → k < c → Q k
  unfolding free_columns
  free_cover Q h g k l = range_at Q 0 c (without_cover ps Q (range_with_len 0 c) h g) k (omega arith) (omega arith)
