-- No roll is refused with 5, nor with a number above 7.
use Rattle.std.proofs.Common.{◌≡◌, ℕ, suc, ◌+◌, ◌*◌, ◌<◌, List, [], ◌∷◌, arith}
use Rattle.pauli.specs.Bytes.{u16_at}
use Rattle.pauli.specs.Roll.{Sparse, Entry, entries_at, paulis_at, check_entries, check_set, check_sets, read}
use Rattle.pauli.proofs.roll.Told.{Never, never_answer, never_test, never_then}

-- k is none of 1 to 4, 6 and 7
module _ (k : ℕ) (no : (n : ℕ) → n < 8 → (n ≡ 5 → ⊥) → n ≡ k → ⊥) where
  entries_never : (i before : ℕ) (es : List Entry) → Never k (check_entries i before es)
  unfolding check_entries
  entries_never i before [] = never_answer k before
  entries_never i before (a ∷ more) =
      let three = no 3 (omega arith) (omega arith) in
      never_test k _ 3 i _ three (never_test k _ 3 i _ three (never_test k _ 4 i _ (no 4 (omega arith) (omega arith)) (entries_never (suc i) _ more)))

  set_never : (i least : ℕ) (qs : List ℕ) → Never k (check_set i least qs)
  unfolding check_set
  set_never i least [] = never_answer k tt
  set_never i least (q ∷ qs) = never_test k _ 6 i _ (no 6 (omega arith) (omega arith)) (set_never i (suc q) qs)

  sets_never : (i : ℕ) (ps : List Sparse) → Never k (check_sets i ps)
  unfolding check_sets
  sets_never i [] = never_answer k tt
  sets_never i (p ∷ ps) =
      never_then k (check_set i 0 p.xs) _ (set_never i 0 p.xs) λ _. never_then k (check_set i 0 p.zs) _ (set_never i 0 p.zs) λ _. sets_never (suc i) ps

  read_never_other : (b : List ℕ) → Never k (read b)
  unfolding read
  read_never_other b =
      let n = u16_at b 0 in
      let es = entries_at b 2 n in
      let ps = paulis_at b (2 + 10 * n) es in
      let one = no 1 (omega arith) (omega arith) in
      never_test k _ 1 0 _ one (never_test k _ 2 0 _ (no 2 (omega arith) (omega arith)) (never_test k _ 1 0 _ one
      (never_then k (check_entries 0 0 es) _ (entries_never 0 0 es) λ total. never_test k _ 1 0 _ one
      (never_then k (check_sets 0 ps) _ (sets_never 0 ps) λ _. never_test k _ 7 0 _ (no 7 (omega arith) (omega arith)) (never_answer k ps)))))

pub read_never : (b : List ℕ) → Never 5 (read b)
read_never b = read_never_other 5 (λ n l d e. d e) b

pub read_never_above : (k : ℕ) → 7 < k → (b : List ℕ) → Never k (read b)
read_never_above k h b = read_never_other k (λ n l d e. omega arith) b
