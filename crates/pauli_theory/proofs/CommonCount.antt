-- How many Paulis the two reductions of the common part go over: the standard generators of two lists, stacked, are at most 129, and
-- at most 128 rows of their form are zero.
use mathlib.Core.Path.{◌≡◌, sym, ap, ap₂, ◌∙◌}
use mathlib.Core.List.{List, ◌++◌, map, map-append}
use Prim.Native.Nat.{ℕ, ◌+◌, ◌*◌, ◌%◌, ◌^◌, ◌≤◌}
use native.Mathlib.Omega.{arith}
use lib.ListN.{length, length-append}
use Rattle.binar.specs.Echelon.{echelon, rank as echelon_rank}
use Rattle.pauli.specs.Pauli.{Pauli}
use Rattle.pauli.specs.Sets.{row_of}
use Rattle.pauli_theory.specs.Group.{Inside}
use Rattle.pauli_theory.specs.Standard.{support_of, form_of, rank, appended, if_zero, standard}
use Rattle.pauli_theory.specs.Inner.CommonPlaces.{form_of_places}
use Rattle.pauli_theory.specs.Inner.ModuloPlaces.{moved_pauli}
use Rattle.pauli_theory.proofs.Group.{inside_join, joined_law, joined_least}
use Rattle.pauli_theory.proofs.Rows.{support_rises, support_same}
use Rattle.pauli_theory.proofs.Grade.{sign_test, grade}
use Rattle.pauli_theory.proofs.Elements.{basis, basis_count}
use Rattle.pauli_theory.proofs.Rank.{rank_le}
use Rattle.pauli_theory.proofs.Standard.{completed, standard_is}
use Rattle.pauli_theory.proofs.StandardLaw.{standard_law, appended_count}
use Rattle.pauli_theory.proofs.OverPlaces.{placed}
use Rattle.pauli_theory.proofs.ModuloPlaces.{joined, left_standard_on, moved_standard}
use Rattle.pauli_theory.proofs.CommonPlaces.{stacked}

-- at most one standard generator has a zero row
pub standard_fit : (gs : List Pauli) → length (standard gs) ≤ rank gs + 1
unfolding completed
standard_fit gs =
    let B = basis gs in
    let m = if_zero (sign_test B) (grade gs) (grade gs % 2) in
    omega (arith, basis_count gs, ap length (standard_is gs), length-append B (appended m B), appended_count m B)

module _ (gs hs : List Pauli) where
  abbrev stack : List Pauli
  stack = standard gs ++ standard hs

  left_in_lem : Inside gs stack
  left_in_lem = inside_join gs (standard gs) stack (standard_law gs).generates.back (joined_law (standard gs) (standard hs)).left

  right_in : Inside hs stack
  right_in = inside_join hs (standard hs) stack (standard_law hs).generates.back (joined_law (standard gs) (standard hs)).right

  lists_in : Inside (gs ++ hs) stack
  lists_in = joined_least gs hs stack left_in_lem right_in

  stack_in : Inside stack (gs ++ hs)
  stack_in =
      let ks = gs ++ hs in
      joined_least (standard gs) (standard hs) ks
      (inside_join (standard gs) gs ks (standard_law gs).generates.there (joined_law gs hs).left)
      (inside_join (standard hs) hs ks (standard_law hs).generates.there (joined_law gs hs).right)

  -- what the places hold before the reductions
  abbrev pub left_places : List Pauli
  left_places = map (moved_pauli (support_of gs) (joined gs hs)) (standard (placed gs))

  abbrev pub right_places : List Pauli
  right_places = map (moved_pauli (support_of hs) (joined gs hs)) (standard (placed hs))

  stack_rank : echelon_rank (form_of_places (length (joined gs hs)) (left_places ++ right_places)) ≡ rank stack
  unfolding rank form_of
  stack_rank =
      let qs = joined gs hs in
      let rows = ap (map (λ p. p.x + 2 ^ length qs * p.z)) (ap₂ ◌++◌ (moved_standard gs qs) (moved_standard hs qs))
      ∙ stacked qs (support_rises (gs ++ hs)) (standard gs) (standard hs) (left_standard_on gs hs) (standard_law gs).values ∙ sym (map-append (row_of qs) (standard gs) (standard hs)) in
      ap (λ (A : List ℕ). echelon_rank (echelon (2 * length qs) A)) rows
      ∙ ap (λ (ks : List ℕ). echelon_rank (echelon (2 * length ks) (map (row_of ks) stack))) (sym (support_same stack (gs ++ hs) stack_in lists_in))

  pub stack_few : length gs + length hs ≤ 128 → let n = length (standard gs) + length (standard hs) in
      (n ≤ 129) × (n ≤ echelon_rank (form_of_places (length (joined gs hs)) (left_places ++ right_places)) + 128)
  stack_few few =
      let a = (standard_law gs).count in
      let b = (standard_law hs).count in (
        omega arith,
        omega (arith, standard_fit gs, standard_fit hs, rank_le gs stack left_in_lem, rank_le hs stack right_in, stack_rank),
      )
