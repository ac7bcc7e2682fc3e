-- The refusals of a roll: their numbers and places are small.
use Rattle.std.proofs.Common.{◌≡◌, ℕ, suc, ◌+◌, ◌*◌, ◌<◌, ◌≤◌, Bool, true, false, List, [], ◌∷◌, length, refl, arith, ltb-false}
use Rattle.pauli.specs.Bytes.{u16_at}
use Rattle.pauli.specs.Roll.{most_paulis, Sparse, Entry, entries_at, paulis_at, check_entries, check_set, check_sets, read}
use Rattle.pauli.specs.Told.{Told, answer, refused, refuse_if, and_then}
use Rattle.pauli.proofs.roll.Entries.{length_entries}
use Rattle.pauli.proofs.roll.Paulis.{length_paulis}

-- a refusal is one of a roll: 1 to 7, at one of 128 Paulis
unfoldable pub OfRoll : {A : Type 0} → Told A → Type 0
OfRoll (answer a) = Unit {0}
OfRoll (refused n p) = (n < 8) × (p < 128)

pub of_test : {A : Type 0} (t : Bool) (n p : ℕ) (next : Told A) → n < 8 → p < 128 → (t ≡ false → OfRoll next) → OfRoll (refuse_if t n p next)
unfolding OfRoll refuse_if
of_test true n p next h l k = (h, l)
of_test false n p next h l k = k refl

pub of_then : {A B : Type 0} (t : Told A) (next : A → Told B) → OfRoll t → ((a : A) → OfRoll (next a)) → OfRoll (and_then t next)
unfolding OfRoll and_then
of_then (answer a) next h k = k a
of_then (refused n p) next h k = h

of_entries : (i before : ℕ) (es : List Entry) → i + length es ≤ 128 → OfRoll (check_entries i before es)
unfolding OfRoll check_entries
of_entries i before [] h = tt
of_entries i before (a ∷ more) h =
    of_test _ 3 i _ (omega arith) (omega arith) λ _. of_test _ 3 i _ (omega arith) (omega arith) λ _.
    of_test _ 4 i _ (omega arith) (omega arith) λ _. of_entries (suc i) _ more (omega arith)

of_set : (i least : ℕ) (qs : List ℕ) → i < 128 → OfRoll (check_set i least qs)
unfolding OfRoll check_set
of_set i least [] h = tt
of_set i least (q ∷ qs) h =
    of_test _ 6 i _ (omega arith) h λ _. of_set i (suc q) qs h

of_sets : (i : ℕ) (ps : List Sparse) → i + length ps ≤ 128 → OfRoll (check_sets i ps)
unfolding OfRoll check_sets
of_sets i [] h = tt
of_sets i (p ∷ ps) h =
    of_then (check_set i 0 p.xs) _ (of_set i 0 p.xs (omega arith)) λ _.
    of_then (check_set i 0 p.zs) _ (of_set i 0 p.zs (omega arith)) λ _. of_sets (suc i) ps (omega arith)

pub of_read : (b : List ℕ) → OfRoll (read b)
unfolding read most_paulis OfRoll
of_read b =
    let n = u16_at b 0 in
    let es = entries_at b 2 n in
    of_test _ 1 0 _ (omega arith) (omega arith) λ _. of_test _ 2 0 _ (omega arith) (omega arith) λ few.
    let count : length es ≤ 128 = omega (arith, length_entries b 2 n, ltb-false 128 n few) in
    of_test _ 1 0 _ (omega arith) (omega arith) λ _. of_then (check_entries 0 0 es) _ (of_entries 0 0 es (omega arith)) λ total.
    of_test _ 1 0 _ (omega arith) (omega arith) λ _.
    of_then (check_sets 0 (paulis_at b (2 + 10 * n) es)) _ (of_sets 0 _ (omega (arith, length_paulis b (2 + 10 * n) es))) λ _.
    of_test _ 7 0 _ (omega arith) (omega arith) λ _. tt
