-- Signed Paulis: document 01, "Pauli"; products: "Words of demand 3". A set of qubits is a number, read by its binary digits as
-- a row of crate binar: qubit q is in the set if the digit of weight 2^q is 1.
use Rattle.std.specs.Prelude.{◌≡◌, ℕ, zero, suc, ◌+◌, ◌*◌, ◌/◌, ◌%◌, Bool, List, [], ◌∷◌, ◌==◌}
use Rattle.std.specs.Int.Bits.{bit_or}
use Rattle.binar.specs.Row.{◌⊕◌, dot, weight}

-- "A Pauli (e, x, z) is i^e times X on set x, then Z on set z"
pub record Pauli : Type 0 where
  pub e : ℕ
  pub x : ℕ
  pub z : ℕ

-- "I = (0,{},{})"
unfoldable pub I : Pauli
I = record { e = 0; x = 0; z = 0 }

-- the phase i^k, (k,{},{})
unfoldable pub phase : ℕ → Pauli
phase k = record { e = k; x = 0; z = 0 }

-- "Y on one qubit has e = 1": Y on qubit 0
unfoldable pub Y : Pauli
Y = record { e = 1; x = 1; z = 1 }

-- the exponent's "value is the remainder by 4"
unfoldable pub normal : Pauli → Pauli
normal p = record { e = p.e % 4; x = p.x; z = p.z }

-- "Two Paulis are equal when their exponent values, their x and their z are equal"
pub record Same (p q : Pauli) : Type 0 where
  pub value : p.e % 4 ≡ q.e % 4
  pub x : p.x ≡ q.x
  pub z : p.z ≡ q.z

-- "Product with (f, u, v): exponent e + f, plus 2 if z and u share an odd number of qubits; sets by symmetric difference"
unfoldable pub times : Pauli → Pauli → Pauli
times p q = record { e = (p.e + q.e + 2 * dot p.z q.x) % 4; x = p.x ⊕ q.x; z = p.z ⊕ q.z }

-- i^k times p
unfoldable pub turned : ℕ → Pauli → Pauli
turned k p = record { e = (k + p.e) % 4; x = p.x; z = p.z }

-- "Two anticommute when x with v and z with u have odd total overlap": 1 if they do, else 0
unfoldable pub anticommute : Pauli → Pauli → ℕ
anticommute p q = (dot p.x q.z + dot p.z q.x) % 2

-- "Weight counts the qubits in x or z"
unfoldable pub pauli_weight : Pauli → ℕ
pauli_weight p = weight (bit_or p.x p.z)

-- "Order two: e plus the overlap of x and z is even": 0 if it is, 1 if the order is four
unfoldable pub order_four : Pauli → ℕ
order_four p = (p.e + dot p.x p.z) % 2

-- whether p is I by value
unfoldable pub is_identity : Pauli → Bool
is_identity p = p.e % 4 + bit_or p.x p.z == 0

-- ---- products

-- "multiplied from the right by each in turn"
unfoldable pub product_from : Pauli → List Pauli → Pauli
product_from p [] = p
product_from p (q ∷ qs) = product_from (times p q) qs

-- "A product of generators starts at I"
unfoldable pub product : List Pauli → Pauli
product qs = product_from I qs

-- a in front of the list, if the bit is 1
unfoldable pub cons_if {ℓ} : {A : Type ℓ} → ℕ → A → List A → List A
cons_if zero a more = more
cons_if (suc b) a more = a ∷ more

-- the elements whose indexes are the ones of s, in rising index
unfoldable pub select {ℓ} : {A : Type ℓ} → ℕ → List A → List A
select s [] = []
select s (a ∷ more) = cons_if (s % 2) a (select (s / 2) more)

-- the product of the generators with these indexes
unfoldable pub indexed_product : ℕ → List Pauli → Pauli
indexed_product s gs = product (select s gs)

-- ---- what a Pauli does (Gottesman's thesis)

-- i^phase times the basis state that has a one on each qubit of a set
pub record State : Type 0 where
  pub phase : ℕ
  pub basis : ℕ

-- of X Z, Z acts first: it gives a sign for each one of the state on z; then X flips the qubits of x
unfoldable pub act : Pauli → State → State
act p s = record { phase = (s.phase + p.e + 2 * dot p.z s.basis) % 4; basis = s.basis ⊕ p.x }
