-- A basis element has its qubits in either list's support and is solved for by its form, whatever the exponent; and its factorization
-- with each exponent.
use mathlib.Core.Path.{◌≡◌, ap, ◌∙◌}
use mathlib.Core.List.{List, ◌++◌, map}
use mathlib.Core.Option.{Option, some, none}
use Prim.Native.Nat.{ℕ, ◌+◌, ◌-◌, ◌*◌, ◌%◌, ◌<◌}
use native.Mathlib.Nat.{mod-eq_of_lt}
use lib.ListN.{length}
use Rattle.binar.specs.Solve.{transpose_solve}
use Rattle.binar.specs.Space.{RowSpace}
use Rattle.binar.proofs.Lists.{all_zip, all_under}
use Rattle.binar.proofs.echelon.Span.{space_rows}
use Rattle.pauli.specs.Support.{All}
use Rattle.pauli.specs.Pauli.{Pauli, indexed_product}
use Rattle.pauli.specs.Sets.{row_of}
use Rattle.pauli.specs.PauliTheorems.{PauliOn}
use Rattle.pauli_theory.specs.Group.{Inside, Promise}
use Rattle.pauli_theory.specs.Standard.{support_of, form_of, if_zero, phase_step}
use Rattle.pauli_theory.specs.Membership.{Factorization, outside, exponent_left, with_phase, factorization_of}
use Rattle.pauli_theory.specs.Common.{common_basis, with_exponent}
use Rattle.pauli_theory.proofs.Phases.{with_phase_lem}
use Rattle.pauli_theory.proofs.IfZero.{if_zero_zero}
use Rattle.pauli_theory.proofs.Agree.{Agree, agree_flip}
use Rattle.pauli_theory.proofs.Group.{generated_indexed, joined_law}
use Rattle.pauli_theory.proofs.Rows.{sets_span, span_sets, on_subgroup, support_rises, indexed_on, generated_on}
use Rattle.pauli_theory.proofs.Membership.{on_outside, solve, solve_found}
use Rattle.pauli_theory.proofs.Common.{common_basis_law}

-- ---- an element that a list's form solves for
-- it is on the list's qubits, and these generators sum to its row
pub record Solved (gs : List Pauli) (p : Pauli) : Type 0 where
  pub on : PauliOn (support_of gs) p
  pub set : ℕ
  pub solution : transpose_solve (2 * length (support_of gs)) (form_of gs) (row_of (support_of gs) p) ≡ some set

-- an element with the sets of a product of generators is
solved_by : (gs : List Pauli) (p : Pauli) (s : ℕ) → Agree 1 p (indexed_product s gs) → Solved gs p
solved_by gs p s a =
    let qs = support_of gs in
    let found = solve_found gs p (sets_span qs gs s a) in
    record { on = (on_subgroup qs 1).agrees (indexed_product s gs) p (agree_flip a) (indexed_on gs s); set = found.0; solution = found.1 }

module _ (gs hs : List Pauli) where
  abbrev qs : List ℕ
  qs = support_of (gs ++ hs)

  -- a Pauli on the joined support whose row is in the row space of a list inside the joined one
  solved_row : (ks : List Pauli) → Inside ks (gs ++ hs) → (p : Pauli) → PauliOn qs p → RowSpace (map (row_of qs) ks) (row_of qs p) → Solved ks p
  unfolding Inside
  solved_row ks f p on w =
      let q = indexed_product w.subset ks in
      solved_by ks p w.subset
      (span_sets qs (support_rises (gs ++ hs)) ks w on (generated_on (gs ++ hs) q (f q (generated_indexed ks w.subset))))

  basis_in_rows : All (λ p. RowSpace (map (row_of qs) (common_basis gs hs)) (row_of qs p)) (common_basis gs hs)
  basis_in_rows =
      let M = map (row_of qs) (common_basis gs hs) in
      all_under (RowSpace M) (row_of qs) (common_basis gs hs) (space_rows M)

  pub basis_left : All (Solved gs) (common_basis gs hs)
  basis_left =
      let L = common_basis_law gs hs in
      all_zip (λ p on w. solved_row gs (joined_law gs hs).left p on (L.there (row_of qs p) w).0) (common_basis gs hs) L.on_support basis_in_rows

  pub basis_right : All (Solved hs) (common_basis gs hs)
  basis_right =
      let L = common_basis_law gs hs in
      all_zip (λ p on w. solved_row hs (joined_law gs hs).right p on (L.there (row_of qs p) w).1) (common_basis gs hs) L.on_support basis_in_rows

-- ---- its factorization with an exponent
pub solved_factorization : (promise : Promise) (gs : List Pauli) (p : Pauli) (w : Solved gs p) (e : ℕ) → e < 4
    → let d = (e + 4 - (indexed_product w.set gs).e) % 4 in
    factorization_of promise gs (with_exponent e p) ≡ if_zero (d % phase_step promise gs) (some (record { indexes = w.set; exponent = d })) none
unfolding factorization_of outside row_of with_exponent exponent_left
solved_factorization promise gs p w e l =
    let u = (indexed_product w.set gs).e in
    let r = with_exponent e p in
    let told : ℕ → Option Factorization = λ d. if_zero (d % phase_step promise gs) (some (record { indexes = w.set; exponent = d })) none in
    if_zero_zero (with_phase promise gs r (solve gs p)) none (on_outside gs p w.on) ∙ ap (with_phase promise gs r) w.solution
    ∙ with_phase_lem promise gs r w.set ∙ ap (λ (n : ℕ). told ((n + 4 - u) % 4)) (mod-eq_of_lt l)
