-- What is proved of signed Paulis and of sets of qubits. Each statement is a type; its proof, a term of it, is in proofs/.
use Rattle.std.specs.Prelude.{◌≡◌, ℕ, ◌+◌, ◌*◌, ◌%◌, ◌^◌, ◌<◌, List, ◌++◌, length, bit_or, slice_index}
use mathlib.Core.List.{Memᴰ as Mem}
use Rattle.binar.specs.Row.{◌⊕◌, bit, dot, weight}
use Rattle.pauli.specs.Roll.{Sparse, support}
use Rattle.pauli.specs.Support.{All, Rising}
use Rattle.pauli.specs.Pauli.{Pauli, I, phase, Y, normal, Same, times, turned, anticommute, pauli_weight, order_four, product, indexed_product, State, act}
use Rattle.pauli.specs.Signed.{stored, times_stored, product_stored}
use Rattle.pauli.specs.Sets.{set_of, members, pauli_of, condense, expand, row_of, pauli_of_row}
use Rattle.pauli.specs.Known.{place_of}

-- 1. A product acts as its factors do, the right one first; and Paulis are equal exactly when they act alike
pub record ActionLaw : Type 0 where
  pub product : (p q : Pauli) (s : State) → act (times p q) s ≡ act p (act q s)
  pub same_acts : (p q : Pauli) → Same p q → (s : State) → act p s ≡ act q s
  pub acts_same : (p q : Pauli) → ((s : State) → s.phase < 4 → act p s ≡ act q s) → Same p q

-- Y takes the state 0 to i times the state 1, and that to -i times the state 0; its order is two
pub record YLaw : Type 0 where
  pub on_zero : act Y (record { phase = 0; basis = 0 }) ≡ record { phase = 1; basis = 1 }
  pub on_one : act Y (record { phase = 0; basis = 1 }) ≡ record { phase = 3; basis = 0 }
  pub order_two : order_four Y ≡ 0

-- 2. The algebra of products
pub record AlgebraLaw : Type 0 where
  pub associative : (p q r : Pauli) → times (times p q) r ≡ times p (times q r)
  pub I-left : (p : Pauli) → times I p ≡ normal p
  pub I-right : (p : Pauli) → times p I ≡ normal p
  -- products are products of values
  pub by_value : (p q r s : Pauli) → Same p r → Same q s → times p q ≡ times r s
  -- i^k times p is the product of the phase i^k and p
  pub turned_is : (k : ℕ) (p : Pauli) → turned k p ≡ times (phase k) p
  pub four_turns : (p : Pauli) → turned 4 p ≡ normal p
  pub swapped : (p q : Pauli) → times p q ≡ turned (2 * anticommute p q) (times q p)
  pub square : (p : Pauli) → times p p ≡ turned (2 * order_four p) I
  pub anticommute_symmetric : (p q : Pauli) → anticommute p q ≡ anticommute q p
  pub anticommute_left : (p q r : Pauli) → anticommute (times p q) r ≡ (anticommute p r + anticommute q r) % 2
  pub anticommute_right : (p q r : Pauli) → anticommute p (times q r) ≡ (anticommute p q + anticommute p r) % 2
  pub order_four_times : (p q : Pauli) → order_four (times p q) ≡ (order_four p + order_four q + anticommute p q) % 2
  pub product_append : (ps qs : List Pauli) → product (ps ++ qs) ≡ times (product ps) (product qs)
  -- exponents of products are values
  pub times_exponent : (p q : Pauli) → (times p q).e < 4
  pub product_exponent : (qs : List Pauli) → (product qs).e < 4

-- what is stored of a Pauli, of a product and of the product of generators has its value
pub record StoredLaw : Type 0 where
  pub value : (p : Pauli) → normal (stored p) ≡ normal p
  pub product : (p q : Pauli) → normal (times_stored p q) ≡ times p q
  pub indexed : (s : ℕ) (gs : List Pauli) → normal (product_stored s gs) ≡ indexed_product s gs

-- 3. Sets as numbers and as rising lists
pub record SetLaw : Type 0 where
  -- q is in the set exactly when it is in the list
  pub set_has : (qs : List ℕ) (q : ℕ) → Mem q qs → bit (set_of qs) q ≡ 1
  pub set_only : (qs : List ℕ) (q : ℕ) → bit (set_of qs) q ≡ 1 → Mem q qs
  pub members_rise : (v : ℕ) → Rising 0 (members v)
  pub set_members : (v : ℕ) → set_of (members v) ≡ v
  pub members_set : (qs : List ℕ) → Rising 0 qs → members (set_of qs) ≡ qs
  pub members_count : (v : ℕ) → length (members v) ≡ weight v

-- 4. Places in a rising list
pub record PlaceLaw (qs : List ℕ) (rises : Rising 0 qs) : Type 0 where
  pub place_in : (q : ℕ) → Mem q qs → place_of qs q < length qs
  pub qubit_at_place : (q : ℕ) → Mem q qs → slice_index qs (place_of qs q) ≡ q
  pub place_of_qubit : (i : ℕ) → i < length qs → place_of qs (slice_index qs i) ≡ i
  pub no_place : (q : ℕ) → ¬ Mem q qs → place_of qs q ≡ length qs

-- the set v has only members of the list qs
abbrev pub On : List ℕ → ℕ → Type 0
On qs v = (q : ℕ) → bit v q ≡ 1 → Mem q qs

-- both sets of p have
pub record PauliOn (qs : List ℕ) (p : Pauli) : Type 0 where
  pub x : On qs p.x
  pub z : On qs p.z

-- 5. The support of Paulis is the union of all their sets
pub record SupportLaw (ps : List Sparse) : Type 0 where
  pub has : (q : ℕ) (p : Sparse) → Mem p ps → Mem q (p.xs ++ p.zs) → bit (set_of (support ps)) q ≡ 1
  pub only : (q : ℕ) → bit (set_of (support ps)) q ≡ 1 → (p : Sparse) × Mem p ps × Mem q (p.xs ++ p.zs)
  pub rises : Rising 0 (support ps)
  pub places : PlaceLaw (support ps) rises
  pub covers : (p : Sparse) → Mem p ps → PauliOn (support ps) (pauli_of p)

-- 6. Over a rising support, sets of qubits and sets of places are the same, and so are sums, overlaps and counts
pub record CondenseLaw (qs : List ℕ) (rises : Rising 0 qs) : Type 0 where
  pub condense_bit : (v i : ℕ) → i < length qs → bit (condense qs v) i ≡ bit v (slice_index qs i)
  pub condense_lt : (v : ℕ) → condense qs v < 2 ^ length qs
  pub expand_bit : (r i : ℕ) → i < length qs → bit (expand qs r) (slice_index qs i) ≡ bit r i
  pub expand_on : (r : ℕ) → On qs (expand qs r)
  pub expand_condense : (v : ℕ) → On qs v → expand qs (condense qs v) ≡ v
  pub condense_expand : (r : ℕ) → r < 2 ^ length qs → condense qs (expand qs r) ≡ r
  pub condense_sum : (a b : ℕ) → condense qs (a ⊕ b) ≡ condense qs a ⊕ condense qs b
  pub condense_dot : (a b : ℕ) → On qs a → dot (condense qs a) (condense qs b) ≡ dot a b
  pub condense_weight : (v : ℕ) → On qs v → weight (condense qs v) ≡ weight v

-- 7. Paulis as rows over a rising support
pub record RowLaw (qs : List ℕ) (rises : Rising 0 qs) : Type 0 where
  pub column_x : (p : Pauli) (i : ℕ) → i < length qs → bit (row_of qs p) i ≡ bit p.x (slice_index qs i)
  pub column_z : (p : Pauli) (i : ℕ) → i < length qs → bit (row_of qs p) (length qs + i) ≡ bit p.z (slice_index qs i)
  pub row_lt : (p : Pauli) → row_of qs p < 2 ^ (2 * length qs)
  pub row_times : (p q : Pauli) → row_of qs (times p q) ≡ row_of qs p ⊕ row_of qs q
  -- a row is zero exactly when both sets are empty on the support
  pub row_zero : (p : Pauli) → row_of qs p ≡ 0 → All (λ q. (bit p.x q ≡ 0) × (bit p.z q ≡ 0)) qs
  pub zero_row : (p : Pauli) → All (λ q. (bit p.x q ≡ 0) × (bit p.z q ≡ 0)) qs → row_of qs p ≡ 0
  pub row_back : (e : ℕ) (p : Pauli) → PauliOn qs p → pauli_of_row qs e (row_of qs p) ≡ record { e = e; x = p.x; z = p.z }
  pub back_row : (e r : ℕ) → r < 2 ^ (2 * length qs) → row_of qs (pauli_of_row qs e r) ≡ r
  -- weights by places
  pub row_weight : (p : Pauli) → PauliOn qs p → weight (bit_or (condense qs p.x) (condense qs p.z)) ≡ pauli_weight p
