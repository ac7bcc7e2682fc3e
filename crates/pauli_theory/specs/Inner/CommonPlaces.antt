-- The common part over places: the common basis by products of Paulis over s places, and the shared phase by exponents.
use Rattle.std.specs.Prelude.{List, ◌++◌, map, ℕ, zero, suc, ◌+◌, ◌-◌, ◌*◌, ◌%◌, ◌^◌, max, take, drop}
use Rattle.std.proofs.Math.Option.{Option, some, none}
use Rattle.binar.specs.Echelon.{EchelonForm, echelon, rank}
use Rattle.binar.specs.Solve.{transpose_solve}
use Rattle.pauli.specs.Pauli.{Pauli, indexed_product}
use Rattle.pauli_theory.specs.Standard.{if_zero}
use Rattle.pauli_theory.specs.Common.{with_exponent}

-- the echelon form of Paulis over s places
abbrev pub form_of_places : ℕ → List Pauli → EchelonForm
form_of_places s ps = echelon (2 * s) (map (λ p. p.x + 2 ^ s * p.z) ps)

-- the products of the first list's Paulis that the rows of T from the rank on name, where the two lists are stacked
unfoldable pub dependency_products : ℕ → List Pauli → List Pauli → List Pauli
dependency_products s ps rs =
    let f = form_of_places s (ps ++ rs) in
    map (λ q. indexed_product q.t ps) (drop (rank f) f.rows)

-- the products that the rows of T below the rank name
unfoldable pub basis_products : ℕ → List Pauli → List Pauli
basis_products s ps =
    let f = form_of_places s ps in
    map (λ q. indexed_product q.t ps) (take (rank f) f.rows)

-- the common basis, up to exponents
unfoldable pub common_products : ℕ → List Pauli → List Pauli → List Pauli
common_products s ps rs = basis_products s (dependency_products s ps rs)

-- the first of the n exponents e, e + 1, .. that is, less u, a multiple of a and, less v, a multiple of b
unfoldable pub shared_exponent_from : ℕ → ℕ → ℕ → ℕ → ℕ → ℕ → Option ℕ
shared_exponent_from a b u v zero e = none
shared_exponent_from a b u v (suc n) e =
    if_zero (max ((e + 4 - u) % 4 % a) ((e + 4 - v) % 4 % b)) (some e) (shared_exponent_from a b u v n (suc e))

unfoldable pub shared_exponent : ℕ → ℕ → ℕ → ℕ → Option ℕ
shared_exponent a b u v = shared_exponent_from a b u v 4 0

-- p with this exponent
unfoldable pub with_some : Option ℕ → Pauli → Option Pauli
with_some none p = none
with_some (some e) p = some (with_exponent e p)

-- the exponent of the product of the Paulis ps that a solution names
unfoldable pub exponent_by : List Pauli → Option ℕ → ℕ
exponent_by ps none = 0
exponent_by ps (some set) = (indexed_product set ps).e

-- of the solution for p by the form of ps, all over s places
unfoldable pub solved_exponent : ℕ → List Pauli → Pauli → ℕ
solved_exponent s ps p = exponent_by ps (transpose_solve (2 * s) (form_of_places s ps) (p.x + 2 ^ s * p.z))
