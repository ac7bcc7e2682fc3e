-- Signed Paulis on one qubit by their numbers: document 02, "Operators at a single seat ask only for products on one qubit".
use Rattle.std.specs.Prelude.{◌≡◌, ℕ, ◌+◌, ◌*◌, ◌/◌, ◌%◌, ◌<◌, nat_lt, length, slice_index, Result}
use Rattle.pauli.specs.declared.one_qubit.TheConstants.{PRODUCTS}
use Rattle.pauli.specs.declared.refusal.Refusal.{Refusal}
use Rattle.pauli.specs.Told.{Told, answer, refuse_if}
use Rattle.pauli.specs.Refusals.{told_of}
use Rattle.pauli.specs.Pauli.{Pauli, Same, times}

-- "Number a signed one-qubit Pauli 4 times (2 times x + z), plus exponent: 0 to 15": the Pauli with this number, on qubit 0
unfoldable pub pauli_numbered : ℕ → Pauli
pauli_numbered n = record { e = n % 4; x = n / 8 % 2; z = n / 4 % 2 }

-- the number of a Pauli on qubit 0, by value
unfoldable pub number_of_pauli : Pauli → ℕ
number_of_pauli p = 4 * (2 * p.x + p.z) + p.e % 4

-- "products, row times column": the number of the signed product
unfoldable pub product_number : ℕ → ℕ → ℕ
product_number a b = number_of_pauli (times (pauli_numbered a) (pauli_numbered b))

-- what the call tells: "generator or element number past its list" is refused with 8, the left factor's first
unfoldable pub one_qubit_call : ℕ → ℕ → Told ℕ
one_qubit_call a b = refuse_if (nat_lt 15 a) 8 0 (refuse_if (nat_lt 15 b) 8 0 (answer (product_number a b)))

-- the `ensures` of `one_qubit_product`
pub record OneQubitCall (a b : ℕ) (r : Result ℕ Refusal) : Type 0 where
  pub told : told_of r ≡ one_qubit_call a b

-- ---- what is proved: each statement is a type; its proof, a term of it, is in proofs/

pub record OneQubitLaw : Type 0 where
  -- "A table of 256 products, row times column"
  pub size : length PRODUCTS ≡ 256
  -- "each entry is the signed product"
  pub entry : (a b : ℕ) → a < 16 → b < 16 → slice_index PRODUCTS (16 * a + b) ≡ product_number a b
  pub product : (a b : ℕ) → a < 16 → b < 16 → pauli_numbered (slice_index PRODUCTS (16 * a + b)) ≡ times (pauli_numbered a) (pauli_numbered b)
  -- the numbers 0 to 15 stand for the Paulis on qubit 0, each for one by value
  pub number_lt : (p : Pauli) → p.x < 2 → p.z < 2 → number_of_pauli p < 16
  pub number_back : (n : ℕ) → n < 16 → number_of_pauli (pauli_numbered n) ≡ n
  pub pauli_back : (p : Pauli) → p.x < 2 → p.z < 2 → Same (pauli_numbered (number_of_pauli p)) p
  -- "Z (4) times X (8) is 14; X times Z is 12"
  pub z_number : number_of_pauli (record { e = 0; x = 0; z = 1 }) ≡ 4
  pub x_number : number_of_pauli (record { e = 0; x = 1; z = 0 }) ≡ 8
  pub zx : slice_index PRODUCTS (16 * 4 + 8) ≡ 14
  pub xz : slice_index PRODUCTS (16 * 8 + 4) ≡ 12
