-- Standard generators, rank and phases: document 01, "Group", sentence by sentence.
use Rattle.std.specs.Prelude.{List, [], ◌∷◌, ◌++◌, map, ℕ, zero, suc, ◌+◌, ◌-◌, ◌*◌, ◌/◌, ◌%◌, min, max, length}
use Rattle.std.specs.Int.Bits.{bit_or}
use Rattle.binar.specs.Echelon.{Row, EchelonForm, echelon, rank as echelon_rank}
use Rattle.pauli.specs.Pauli.{Pauli, phase, anticommute, order_four, indexed_product}
use Rattle.pauli.specs.Sets.{members, row_of, pauli_of_row}
use Rattle.pauli_theory.specs.Group.{Promise, none, abelian, not_abelian}

-- the qubits that a list uses, as a set and as the rising list, its support
unfoldable pub used_by : List Pauli → ℕ
used_by [] = 0
used_by (g ∷ gs) = bit_or (bit_or g.x g.z) (used_by gs)

unfoldable pub support_of : List Pauli → List ℕ
support_of gs = members (used_by gs)

-- the echelon form of the generators' rows over the support
unfoldable pub form_of : List Pauli → EchelonForm
form_of gs = let qs = support_of gs in echelon (2 * length qs) (map (row_of qs) gs)

unfoldable pub rank : List Pauli → ℕ
rank gs = echelon_rank (form_of gs)

-- ---- `StandardForm::new`

-- "the phase of each row of R is that of the product of the generators named by that row of T, in rising index"
unfoldable pub phase_of : List Pauli → Row → ℕ
phase_of gs q = (indexed_product q.t gs).e

unfoldable pub if_zero {ℓ} : {X : Type ℓ} → ℕ → X → X → X
if_zero zero x y = x
if_zero (suc n) x y = y

unfoldable pub zero_rows : List Row → List Row
zero_rows [] = []
zero_rows (q ∷ qs) = if_zero q.r (q ∷ zero_rows qs) (zero_rows qs)

unfoldable pub nonzero_rows : List Row → List Row
nonzero_rows [] = []
nonzero_rows (q ∷ qs) = if_zero q.r (nonzero_rows qs) (q ∷ nonzero_rows qs)

-- "Modulus m: 4; 2 if a zero row has phase 2; 1 if one is odd": these are the phases of the zero rows
unfoldable pub modulus_of : List ℕ → ℕ
modulus_of [] = 4
modulus_of (e ∷ es) = if_zero (e % 2) (if_zero (e / 2 % 2) (modulus_of es) (min (modulus_of es) 2)) 1

unfoldable pub modulus : List Pauli → ℕ
modulus gs = modulus_of (map (phase_of gs) (zero_rows (form_of gs).rows))

-- "Nonzero rows take phase mod m"
unfoldable pub row_generators : List Pauli → List Pauli
row_generators gs = map (λ q. pauli_of_row (support_of gs) (phase_of gs q % modulus gs) q.r) (nonzero_rows (form_of gs).rows)

-- 1 if a Pauli of the list is of order four, else 0
unfoldable pub some_order_four : List Pauli → ℕ
some_order_four [] = 0
some_order_four (p ∷ ps) = max (order_four p) (some_order_four ps)

unfoldable pub anticommutes_with_some : Pauli → List Pauli → ℕ
anticommutes_with_some p [] = 0
anticommutes_with_some p (q ∷ qs) = max (anticommute p q) (anticommutes_with_some p qs)

-- 1 if two Paulis of the list anticommute, else 0
unfoldable pub some_anticommute : List Pauli → ℕ
some_anticommute [] = 0
some_anticommute (p ∷ ps) = max (anticommutes_with_some p ps) (some_anticommute ps)

-- "If m is then 1 or 2, i^m is appended; if there is no nonzero row and m is 4, the identity. An empty list gives one identity"
unfoldable pub appended : ℕ → List Pauli → List Pauli
appended zero ps = []
appended (suc zero) ps = phase 1 ∷ []
appended (suc (suc zero)) ps = phase 2 ∷ []
appended (suc (suc (suc m))) [] = phase 0 ∷ []
appended (suc (suc (suc m))) (p ∷ ps) = []

unfoldable pub exponent_mod : ℕ → Pauli → Pauli
exponent_mod m p = record { e = p.e % m; x = p.x; z = p.z }

-- "If one is of order four or two anticommute, phases go mod 2 and m becomes m mod 2"
unfoldable pub standard : List Pauli → List Pauli
standard gs =
    let ps = row_generators gs in
    let m = modulus gs in
    if_zero (max (some_order_four ps) (some_anticommute ps)) (ps ++ appended m ps) (map (exponent_mod 2) ps ++ appended (m % 2) ps)

-- ---- abelian, phases and size

-- "A promise replaces the abelian test": 1 if not abelian, else 0
unfoldable pub nonabelian : Promise → List Pauli → ℕ
nonabelian none gs = some_anticommute (standard gs)
nonabelian abelian gs = 0
nonabelian not_abelian gs = 1

-- e if p has weight 0, else 0
unfoldable pub bare : Pauli → ℕ → ℕ
bare p e = if_zero (bit_or p.x p.z) e 0

-- 1 if a Pauli of weight 0 has odd phase, else 0
unfoldable pub some_imaginary : List Pauli → ℕ
some_imaginary [] = 0
some_imaginary (p ∷ ps) = max (bare p (p.e % 2)) (some_imaginary ps)

-- 1 if one is -I, else 0
unfoldable pub some_minus : List Pauli → ℕ
some_minus [] = 0
some_minus (p ∷ ps) = max (bare p (if_zero (p.e % 2) (p.e / 2 % 2) 0)) (some_minus ps)

-- "0,1,2,3 if a standard generator of weight 0 has odd phase; else 0,2 if not abelian, or one is of order four, or one is -I; else 0":
-- of these three, z, y or x, by the standard generators ps; clash is 1 where the list is not abelian
abbrev pub by_phases {ℓ} : {X : Type ℓ} → ℕ → List Pauli → X → X → X → X
by_phases clash ps x y z = if_zero (some_imaginary ps) (if_zero (max clash (max (some_order_four ps) (some_minus ps))) x y) z

-- `phases`, rising
unfoldable pub phases_of : Promise → List Pauli → List ℕ
phases_of promise gs = by_phases (nonabelian promise gs) (standard gs) (0 ∷ []) (0 ∷ 2 ∷ []) (0 ∷ 1 ∷ 2 ∷ 3 ∷ [])

-- the phases are the multiples, below 4, of this number
unfoldable pub step_of : ℕ → List Pauli → ℕ
step_of clash ps = by_phases clash ps 4 2 1

unfoldable pub phase_step : Promise → List Pauli → ℕ
phase_step promise gs = step_of (nonabelian promise gs) (standard gs)

-- `log2_size`, "as written": the rank, and 0, 1 or 2 for 1, 2 or 4 phases
unfoldable pub log2_size : Promise → List Pauli → ℕ
log2_size promise gs = rank gs + (2 - phase_step promise gs / 2)

-- `is_stabilizer_group`, "as written": abelian, and no standard generator is of order four or -I: 1 if so, else 0
unfoldable pub stabilizer : Promise → List Pauli → ℕ
stabilizer promise gs = let ps = standard gs in if_zero (max (nonabelian promise gs) (max (some_order_four ps) (some_minus ps))) 1 0
