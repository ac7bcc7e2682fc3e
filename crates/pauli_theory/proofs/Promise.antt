-- A true promise changes no answer; and abelian and stabilizer groups are what the definitions find.
use mathlib.Core.Path.{◌≡◌, refl, sym, ap, ap₂, ◌∙◌}
use mathlib.Core.List.{List}
use mathlib.Core.Option.{Option, some, none}
use Prim.Native.Nat.{ℕ, ◌+◌, ◌-◌, ◌*◌, ◌/◌}
use lib.ListN.{length}
use Rattle.binar.specs.Solve.{transpose_solve}
use Rattle.pauli.specs.Pauli.{Pauli}
use Rattle.pauli.specs.Sets.{row_of}
use Rattle.pauli_theory.specs.Group.{Promise, Honest}
use Rattle.pauli_theory.specs.Standard.{support_of, form_of, rank, phases_of, phase_step, log2_size, stabilizer}
use Rattle.pauli_theory.specs.Membership.{with_phase, factorization_of}
use Rattle.pauli_theory.specs.Order.{Order, ranks_of, partial_cmp}
use Rattle.pauli_theory.specs.Listing.{elements_of}
use Rattle.pauli_theory.specs.Modulo.{modulo, try_quotient, if_below}
use Rattle.pauli_theory.specs.Theorems.{PromiseLaw, PromisesLaw}
use Rattle.pauli_theory.proofs.Abelian.{promise_nonabelian}
use Rattle.pauli_theory.proofs.Phases.{phase_step_grade}

module _ (promise : Promise) (gs : List Pauli) (h : Honest promise gs) where
  same_step : phase_step promise gs ≡ phase_step Promise.none gs
  unfolding Honest
  same_step = phase_step_grade promise gs h ∙ sym (phase_step_grade Promise.none gs tt)

  same_phases : phases_of promise gs ≡ phases_of Promise.none gs
  unfolding phases_of
  same_phases = rw (promise_nonabelian promise gs h)

  same_stabilizer : stabilizer promise gs ≡ stabilizer Promise.none gs
  unfolding stabilizer
  same_stabilizer = rw (promise_nonabelian promise gs h)

  same_phase : (p : Pauli) (o : Option ℕ) → with_phase promise gs p o ≡ with_phase Promise.none gs p o
  unfolding with_phase
  same_phase p none = refl
  same_phase p (some s) = rw same_phases

  same_factorization : (p : Pauli) → factorization_of promise gs p ≡ factorization_of Promise.none gs p
  unfolding factorization_of
  same_factorization p = rw (same_phase p (transpose_solve (2 * length (support_of gs)) (form_of gs) (row_of (support_of gs) p)))

  same_elements : elements_of promise gs ≡ elements_of Promise.none gs
  unfolding elements_of
  same_elements = rw same_phases

  pub promise_law : PromiseLaw promise gs
  unfolding log2_size
  promise_law = record {
    same_abelian = promise_nonabelian promise gs h;
    same_phases = same_phases;
    same_stabilizer = same_stabilizer;
    same_size = ap (λ (m : ℕ). rank gs + (2 - m / 2)) same_step;
    same_factorization = same_factorization;
    same_elements = same_elements;
  }

module _ (left right : Promise) (gs hs : List Pauli) (h : Honest left gs) (k : Honest right hs) where
  same_order : partial_cmp left right gs hs ≡ partial_cmp Promise.none Promise.none gs hs
  unfolding partial_cmp ranks_of
  same_order = rw (same_step left gs h, same_step right hs k)

  same_remainder : modulo right gs hs ≡ modulo Promise.none gs hs
  unfolding modulo
  same_remainder = rw (same_step right hs k)

pub promises_law : (left right : Promise) (gs hs : List Pauli) → Honest left gs → Honest right hs → PromisesLaw left right gs hs
unfolding try_quotient
promises_law left right gs hs h k = record {
  same_order = same_order left right gs hs h k;
  same_remainder = same_remainder left right gs hs h k;
  same_quotient = ap₂ (λ (o : Order) (ps : List Pauli). if_below o ps) (same_order right left hs gs k h) (same_remainder left right gs hs h k);
}
