-- Membership as computed is membership in the generated group, and its answer gives the element back.
use mathlib.Core.Path.{◌≡◌, refl, sym, ap, ◌∙◌, subst}
use mathlib.Core.List.{List, map}
use mathlib.Core.Logic.{⊎_elim}
use mathlib.Core.Option.{Option, some, none, some-injective}
use Prim.Native.Nat.{ℕ, ◌*◌, ◌%◌, ◌^◌, ◌<◌}
use native.Mathlib.Nat.{mod-eq_of_lt}
use native.Mathlib.Omega.{arith}
use lib.Bits.{bit_or}
use lib.ListN.{length, length-map}
use Rattle.binar.specs.Row.{◌⊕◌, bit, row_sum}
use Rattle.binar.specs.Solve.{transpose_solve}
use Rattle.binar.specs.Space.{RowSpace}
use Rattle.binar.proofs.row.Bits.{bit_lt, xor_self, xor_eq_zero}
use Rattle.binar.proofs.matrix_form.Theorems.{solve_law}
use Rattle.pauli.specs.Pauli.{Pauli, Same, turned, indexed_product}
use Rattle.pauli.specs.Sets.{row_of}
use Rattle.pauli.specs.PauliTheorems.{PauliOn}
use Rattle.pauli.proofs.condense.MoreBits.{bit_or_lem, in_or, ext_ones}
use Rattle.pauli.proofs.condense.Sets.{members_has, members_only}
use Rattle.pauli.proofs.condense.Rows.{row_lt}
use Rattle.pauli_theory.specs.Group.{Generated, Promise, Honest}
use Rattle.pauli_theory.specs.Standard.{used_by, support_of, form_of, phase_step}
use Rattle.pauli_theory.specs.Membership.{Factorization, outside, exponent_left, with_phase, factorization_of}
use Rattle.pauli_theory.specs.Theorems.{MembershipLaw}
use Rattle.pauli_theory.proofs.Agree.{four, Agree, same_agree, left_same, left_agree, left_lt}
use Rattle.pauli_theory.proofs.Group.{generated_subgroup, generated_indexed}
use Rattle.pauli_theory.proofs.Products.{indexed_lt}
use Rattle.pauli_theory.proofs.IfZero.{if_zero_zero, if_zero_some}
use Rattle.pauli_theory.proofs.Spaces.{columns_narrow}
use Rattle.pauli_theory.proofs.Rows.{row_indexed, row_sets, rows_narrow, generated_row, support_rises, indexed_on, generated_on}
use Rattle.pauli_theory.proofs.Powers.{powers, turned_in}
use Rattle.pauli_theory.proofs.Grade.{grade, grade_divisor, grade_power}
use Rattle.pauli_theory.proofs.Elements.{same_sets}
use Rattle.pauli_theory.proofs.Phases.{phase_step_grade, with_phase_lem}

-- ---- the support sticks out
module _ (gs : List Pauli) (p : Pauli) where
  pub outside_on : outside gs p ≡ 0 → PauliOn (support_of gs) p
  unfolding outside support_of
  outside_on h =
      let u = used_by gs in
      let e = xor_eq_zero (bit_or u (bit_or p.x p.z)) u h in
      let whole : (q : ℕ) → bit (bit_or u (bit_or p.x p.z)) q ≡ bit u q = λ q. ap (λ (v : ℕ). bit v q) e in
      record {
        x = λ q o. members_has u q (omega (arith, whole q, bit_or_lem u (bit_or p.x p.z) q, bit_or_lem p.x p.z q, bit_lt u q));
        z = λ q o. members_has u q (omega (arith, whole q, bit_or_lem u (bit_or p.x p.z) q, bit_or_lem p.x p.z q, bit_lt u q));
      }

  pub on_outside : PauliOn (support_of gs) p → outside gs p ≡ 0
  unfolding outside support_of
  on_outside on =
      let u = used_by gs in
      ap (◌⊕ u)
      (ext_ones (bit_or u (bit_or p.x p.z)) u
      (λ q o. ⊎_elim (λ e. e) (λ k. ⊎_elim (λ a. members_only u q (on.x q a)) (λ b. members_only u q (on.z q b)) (in_or p.x p.z q k)) (in_or u _ q o))
      (λ q o. omega (arith, bit_or_lem u (bit_or p.x p.z) q, bit_lt (bit_or p.x p.z) q)))
      ∙ xor_self u

  -- ---- the bits solve
  abbrev pub solve : Option ℕ
  solve = transpose_solve (2 * length (support_of gs)) (form_of gs) (row_of (support_of gs) p)

  row_narrow : row_of (support_of gs) p % 2 ^ (2 * length (support_of gs)) ≡ row_of (support_of gs) p
  row_narrow = mod-eq_of_lt (row_lt (support_of gs) p)

  solve_row : (s : ℕ) → solve ≡ some s → (s < 2 ^ length gs) × (row_of (support_of gs) p ≡ row_of (support_of gs) (indexed_product s gs))
  unfolding form_of
  solve_row s e =
      let qs = support_of gs in
      let A = map (row_of qs) gs in
      let f = (solve_law (2 * length qs) A (row_of qs p)).sound s e in (
        rw (length-map gs (row_of qs)) at f.0,
        sym row_narrow ∙ sym f.1 ∙ ap (row_sum s) (columns_narrow (2 * length qs) A (rows_narrow qs gs)) ∙ sym (row_indexed qs s gs),
      )

  pub solve_found : RowSpace (map (row_of (support_of gs)) gs) (row_of (support_of gs) p) → (s : ℕ) × (solve ≡ some s)
  unfolding form_of
  solve_found h = go solve refl
    where
      qs : List ℕ
      qs = support_of gs

      go : (o : Option ℕ) → solve ≡ o → (s : ℕ) × (solve ≡ some s)
      go (some s) e = (s, e)
      go none e =
          absurd ((solve_law (2 * length qs) (map (row_of qs) gs) (row_of qs p)).none_right e
          (rw (columns_narrow (2 * length qs) (map (row_of qs) gs) (rows_narrow qs gs), row_narrow) h))

-- ---- what an answer f says, where solving gave o
record Answer (promise : Promise) (gs : List Pauli) (p : Pauli) (o : Option ℕ) (f : Factorization) : Type 0 where
  solved : o ≡ some f.indexes
  left : f.exponent ≡ exponent_left p (indexed_product f.indexes gs)
  phased : f.exponent % phase_step promise gs ≡ 0

answer_by : (promise : Promise) (gs : List Pauli) (p : Pauli) (o : Option ℕ) (f : Factorization) → with_phase promise gs p o ≡ some f → Answer promise gs p o f
unfolding with_phase
answer_by promise gs p none f e = let z : ◌≡◌ {A = ℕ} 0 1 = cc in absurd (omega arith)
answer_by promise gs p (some s) f e =
    let d = exponent_left p (indexed_product s gs) in
    let k = if_zero_some (d % phase_step promise gs) (some (record { indexes = s; exponent = d })) f (sym (with_phase_lem promise gs p s) ∙ e) in
    subst (Answer promise gs p (some s)) (some-injective _ f k.1) (record { solved = refl; left = refl; phased = k.0 })

module _ (promise : Promise) (gs : List Pauli) (p : Pauli) (step : phase_step promise gs ≡ grade gs) where
  -- the product at a solution's indexes has the element's sets
  solution_sets : (s : ℕ) → PauliOn (support_of gs) p → solve gs p ≡ some s → Agree 1 p (indexed_product s gs)
  solution_sets s on e = row_sets (support_of gs) (support_rises gs) on (indexed_on gs s) (solve_row gs p s e).1

  module _ (f : Factorization) (e : factorization_of promise gs p ≡ some f) where
    outside_none : outside gs p ≡ 0
    unfolding factorization_of
    outside_none = (if_zero_some (outside gs p) _ f e).0

    answer : Answer promise gs p (solve gs p) f
    unfolding factorization_of
    answer = answer_by promise gs p (solve gs p) f (if_zero_some (outside gs p) _ f e).1

    pub phased : f.exponent % phase_step promise gs ≡ 0
    phased = answer.phased

    within : (f.indexes < 2 ^ length gs) × (f.exponent < 4)
    within = ((solve_row gs p f.indexes answer.solved).0, rw answer.left (left_lt p (indexed_product f.indexes gs)))

    equals : Same (turned f.exponent (indexed_product f.indexes gs)) p
    equals =
        let q = indexed_product f.indexes gs in
        let a = solution_sets f.indexes (outside_on gs p outside_none) answer.solved in
        rw answer.left (left_same p q (indexed_lt f.indexes gs) a.x a.z)

    sound : Generated gs p
    sound =
        (generated_subgroup gs).agrees _ p (same_agree four equals)
        (turned_in gs f.exponent (indexed_product f.indexes gs) (powers gs (grade_divisor gs) (grade_power gs) f.exponent (rw step at answer.phased))
        (generated_indexed gs f.indexes))

  complete : Generated gs p → (f : Factorization) × (factorization_of promise gs p ≡ some f)
  unfolding factorization_of with_phase
  complete a =
      let on = generated_on gs p a in
      let w = solve_found gs p (generated_row (support_of gs) gs p a) in
      let q = indexed_product w.0 gs in
      let h = same_sets gs p q a (generated_indexed gs w.0) (solution_sets w.0 on w.1) in
      let z : exponent_left p q % phase_step promise gs ≡ 0 = rw step (left_agree (grade_divisor gs) (indexed_lt w.0 gs) h) in (
        record { indexes = w.0; exponent = exponent_left p q },
        if_zero_zero _ _ (on_outside gs p on) ∙ ap (with_phase promise gs p) w.1 ∙ with_phase_lem promise gs p w.0 ∙ if_zero_zero _ _ z,
      )

pub membership_law : (promise : Promise) (gs : List Pauli) (p : Pauli) → Honest promise gs → MembershipLaw promise gs p
membership_law promise gs p h =
    let step = phase_step_grade promise gs h in
    record { complete = complete promise gs p step; sound = sound promise gs p step; within = within promise gs p step; equals = equals promise gs p step }
