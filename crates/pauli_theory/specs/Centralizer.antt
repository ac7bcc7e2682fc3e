-- The centralizer: `centralizer_of` and `centralizer_within`, by the steps of the source.
use Rattle.std.specs.Prelude.{List, [], ◌∷◌, ◌++◌, map, ℕ, ◌+◌, ◌*◌, ◌/◌, ◌%◌, ◌^◌, length}
use Rattle.binar.specs.Echelon.{R}
use Rattle.binar.specs.Kernel.{without, kernel_basis}
use Rattle.pauli.specs.Known.{place_of}
use Rattle.pauli.specs.Pauli.{Pauli, phase}
use Rattle.pauli.specs.Sets.{pauli_of_row}
use Rattle.pauli_theory.specs.Standard.{support_of, form_of}

-- a row of two halves of n columns, the halves exchanged
unfoldable pub exchanged : ℕ → ℕ → ℕ
exchanged n v = v / 2 ^ n % 2 ^ n + 2 ^ n * (v % 2 ^ n)

-- `dual_standard_generator_matrix_of`: the rows of R over the list's support, X and Z exchanged
unfoldable pub dual_rows : List Pauli → List ℕ
dual_rows gs = map (exchanged (length (support_of gs))) (R (form_of gs))

-- `complementary_support_of`: the places of those of the qubits qs that are not named
unfoldable pub unnamed : List ℕ → List ℕ → List ℕ
unnamed named qs = map (place_of qs) (without named qs)

-- `sparse_basis_matrix`: X at each of these places, then Z at each, over n places
unfoldable pub sparse_basis : ℕ → List ℕ → List ℕ
sparse_basis n places = map (λ i. 2 ^ i) places ++ map (λ i. 2 ^ (n + i)) places

-- `row_stacked`
unfoldable pub stacked : List ℕ → List Pauli → List ℕ
stacked named gs = let qs = support_of gs in dual_rows gs ++ sparse_basis (length qs) (unnamed named qs)

-- `as_sparse_paulis`: the rows of the kernel, as Paulis with exponent 0
unfoldable pub kernel_paulis : List ℕ → List Pauli → List Pauli
kernel_paulis named gs = let qs = support_of gs in map (pauli_of_row qs 0) (kernel_basis (2 * length qs) (stacked named gs))

-- X and Z on one qubit
unfoldable pub x_on : ℕ → Pauli
x_on q = record { e = 0; x = 2 ^ q; z = 0 }

unfoldable pub z_on : ℕ → Pauli
z_on q = record { e = 0; x = 0; z = 2 ^ q }

-- X, then Z, on each of the qubits
unfoldable pub x_and_z : List ℕ → List Pauli
x_and_z [] = []
x_and_z (q ∷ qs) = x_on q ∷ z_on q ∷ x_and_z qs

-- `basis_over`: X and Z on those of the named qubits that are not excluded
unfoldable pub basis_over : List ℕ → List ℕ → List Pauli
basis_over named excluded = x_and_z (without excluded named)

-- `centralizer_within`: "generators in the Rust's order, iI last"
unfoldable pub centralizer_within : List ℕ → List Pauli → List Pauli
centralizer_within named gs = kernel_paulis named gs ++ (basis_over named (support_of gs) ++ phase 1 ∷ [])

-- "for `centralizer_of` it is the generators' own"
unfoldable pub centralizer_of : List Pauli → List Pauli
centralizer_of gs = centralizer_within (support_of gs) gs
