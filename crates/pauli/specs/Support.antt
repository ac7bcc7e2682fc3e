-- Supports: rising lists of distinct qubit numbers.
use Rattle.std.specs.Prelude.{ℕ, suc, ◌≤◌, cond, List, [], ◌∷◌, ◌==◌, nat_lt}

-- "At most .. 128 distinct qubits"
unfoldable pub most_qubits : ℕ
most_qubits = 128

-- q put into a rising list, once
unfoldable pub insert : ℕ → List ℕ → List ℕ
insert q [] = q ∷ []
insert q (r ∷ rs) = cond (nat_lt q r) (q ∷ r ∷ rs) (cond (q == r) (r ∷ rs) (r ∷ insert q rs))

-- all of qs put into it
unfoldable pub insert_all : List ℕ → List ℕ → List ℕ
insert_all [] known = known
insert_all (q ∷ qs) known = insert_all qs (insert q known)

-- each element of a list has the property P
abbrev pub All {ℓ} : {A : Type ℓ} → (A → Type 0) → List A → Type 0
All P [] = Unit {0}
All P (x ∷ xs) = P x × All P xs

-- the list rises strictly, from `least` on
abbrev pub Rising : ℕ → List ℕ → Type 0
Rising least [] = Unit {0}
Rising least (q ∷ qs) = (least ≤ q) × Rising (suc q) qs
