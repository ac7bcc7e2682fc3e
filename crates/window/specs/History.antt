-- Windows of recent checks, by the rolls sent alone: document 02, L11.
use Rattle.std.specs.Prelude.{ℕ, ◌-◌, List, [], ◌∷◌, ◌++◌, length, drop, nat_lt}
use Rattle.pauli.specs.Roll.{Sparse, support, read, by_value}
use Rattle.pauli.specs.Support.{most_qubits}
use Rattle.pauli.specs.Told.{Told, answer, refused, refuse_if, and_then}

-- "Keep a window of width w, 1 to 64"
unfoldable pub widest : ℕ
widest = 64

-- "17 for a width outside 1 to 64, at the making"
unfoldable pub allowed_width : {A : Type 0} → ℕ → Told A → Told A
allowed_width w next = refuse_if (nat_lt w 1) 17 0 (refuse_if (nat_lt widest w) 17 0 next)

-- "18 for a roll without exactly one Pauli"
unfoldable pub only_one : List Sparse → Told Sparse
only_one [] = refused 18 0
only_one (p ∷ []) = answer p
only_one (p ∷ q ∷ ps) = refused 18 0

-- "after the roll's own checks": the check of a roll that is sent
unfoldable pub check_in : List ℕ → Told Sparse
check_in b = and_then (read b) only_one

-- "and before the window's 7": refused where the checks that would be inside are on more than 128 distinct qubits
unfoldable pub few_inside : {A : Type 0} → List Sparse → Told A → Told A
few_inside ps next = refuse_if (nat_lt most_qubits (length (support ps))) 7 0 next

-- the last n of a list, or all of a shorter one
unfoldable pub last_of : {A : Type 0} → ℕ → List A → List A
last_of n l = drop (length l - n) l

-- "each sent check enters, and with w inside the oldest leaves first": of the checks accepted before and this one the last w are to be
-- inside. "The qubit limit is counted after the oldest has left". What is accepted is kept by value
unfoldable pub accept : ℕ → List Sparse → List ℕ → Told (List Sparse)
accept w ps b = and_then (check_in b) λ p. few_inside (last_of w (ps ++ p ∷ [])) (answer (ps ++ by_value p ∷ []))

-- "A refused check changes nothing"
unfoldable pub or_same : {A : Type 0} → A → Told A → A
or_same a (answer b) = b
or_same a (refused n p) = a

-- the checks accepted when these rolls were sent, in turn, after those accepted before
unfoldable pub accepted_after : ℕ → List Sparse → List (List ℕ) → List Sparse
accepted_after w ps [] = ps
accepted_after w ps (b ∷ bs) = accepted_after w (or_same ps (accept w ps b)) bs

-- "the claims run from its making": "Before the first check the window is the empty list"
unfoldable pub accepted : ℕ → List (List ℕ) → List Sparse
accepted w bs = accepted_after w [] bs
