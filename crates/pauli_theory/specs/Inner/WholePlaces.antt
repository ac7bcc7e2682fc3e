-- The whole common part over places: the elements hold, noted in their exponents, an exponent with which the left group contains
-- them and one with which the right group does; and standard generators by the form over all places, used or not.
use Rattle.std.specs.Prelude.{List, ◌++◌, map, ℕ, ◌+◌, ◌*◌, ◌/◌, ◌%◌, max, take, drop}
use Rattle.std.proofs.Math.Option.{Option}
use Rattle.binar.specs.Echelon.{rank}
use Rattle.pauli.specs.Pauli.{Pauli, times, indexed_product}
use Rattle.pauli_theory.specs.Standard.{if_zero, modulus_of, some_order_four, some_anticommute, appended, exponent_mod}
use Rattle.pauli_theory.specs.Common.{with_exponent}
use Rattle.pauli_theory.specs.Inner.CommonPlaces.{form_of_places, shared_exponent, with_some}

-- p with the exponents u and v noted in its own
unfoldable pub noted_both : ℕ → ℕ → Pauli → Pauli
noted_both u v p = with_exponent (u * 4 + v) p

-- p with the shared exponent for the two noted, if there is one, where the phases of the groups have the steps a and b
unfoldable pub shared_pauli : ℕ → ℕ → Pauli → Option Pauli
shared_pauli a b p = with_some (shared_exponent a b (p.e / 4 % 4) (p.e % 4)) p

-- the product, with the exponents of either group's products noted
unfoldable pub times_noted : Pauli → Pauli → Pauli
times_noted p q = noted_both (times (with_exponent (p.e / 4) p) (with_exponent (q.e / 4) q)).e (times p q).e (times p q)

-- `StandardForm::new`, from the products that the rows of T name, the first r of which belong to nonzero rows
unfoldable pub standard_of_products : ℕ → List Pauli → List Pauli
standard_of_products r qs =
    let m = modulus_of (map (λ q. q.e) (drop r qs)) in
    let ps = map (exponent_mod m) (take r qs) in
    if_zero (max (some_order_four ps) (some_anticommute ps)) (ps ++ appended m ps) (map (exponent_mod 2) ps ++ appended (m % 2) ps)

-- the standard generators of Paulis over s places
unfoldable pub standard_places : ℕ → List Pauli → List Pauli
standard_places s ps = let f = form_of_places s ps in standard_of_products (rank f) (map (λ q. indexed_product q.t ps) f.rows)
