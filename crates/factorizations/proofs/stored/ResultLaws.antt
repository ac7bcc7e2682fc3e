-- Laws of the elements put to the group in the work area.
use Rattle.std.proofs.Common.{◌≡◌, refl, sym, ap, ◌∙◌, subst, List, map, ℕ, ◌+◌, ◌*◌, ◌%◌, ◌≤◌, ◌<◌, arith, length, get_or, take, take_all}
use mathlib.Core.List.{map-map}
use mathlib.Core.Option.{Option, some, none, some-injective}
use Rattle.pauli.specs.Pauli.{Pauli, indexed_product}
use Rattle.pauli.specs.Roll.{Sparse}
use Rattle.pauli.specs.Condense.{nothing}
use Rattle.pauli.specs.Sets.{pauli_of}
use Rattle.pauli_theory.specs.Group.{Promise}
use Rattle.pauli_theory.specs.Membership.{Factorization, outside, exponent_left, with_phase, factorization_of}
use Rattle.pauli_theory.specs.Standard.{phase_step}
use Rattle.pauli_theory.proofs.Agree.{left_lt}
use Rattle.pauli_theory.proofs.IfZero.{if_zero_some}
use Rattle.pauli_theory.proofs.Phases.{with_phase_lem}
use Rattle.pauli_group.specs.Inner.Area.{target_at, further_at, stride_of, Outside}
use Rattle.pauli_group.specs.Inner.Groups.{Grouped}
use Rattle.pauli_group.specs.Calls.{paulis}
use Rattle.pauli_group.specs.Inner.Members.{Asked}
use Rattle.pauli_group.proofs.area.AreaLaws.{form_room}
use Rattle.pauli_group.proofs.group.KeptLaws.{grouped_target, grouped_spare}
use Rattle.factorizations.specs.Stored.{stored_in, Storable, Stored}
use Rattle.factorizations.proofs.stored.StoredLaws.{stored_kept, results_next}

-- ---- an answer of membership can be kept

phased : (promise : Promise) (gs : List Pauli) (p : Pauli) (o : Option ℕ) (f : Factorization) → with_phase promise gs p o ≡ some f → f.exponent < 4
unfolding with_phase
phased promise gs p none f e = let z : ◌≡◌ {A = ℕ} 0 1 = cc in absurd (omega arith)
phased promise gs p (some s) f e =
    let k = exponent_left p (indexed_product s gs) in
    let h = if_zero_some (k % phase_step promise gs) (some (record { indexes = s; exponent = k })) f (sym (with_phase_lem promise gs p s) ∙ e) in
    rw (← some-injective _ f h.1) (left_lt p (indexed_product s gs))

pub storable : (promise : Promise) (gs : List Pauli) (p : Pauli) (o : Option Factorization) → factorization_of promise gs p ≡ o → Storable o
unfolding factorization_of
storable promise gs p none e = tt
storable promise gs p (some f) e = phased promise gs p _ f (if_zero_some (outside gs p) _ f e).1

-- ---- one element after the other

module _ {known first : List ℕ} {n places r total step : ℕ} (g : Asked known first n places r total step) (es : List Sparse) where
  -- the results of the first k elements are in the area w, and the group still is
  pub record Factored (k : ℕ) (w : List ℕ) : Type 0 where
    pub grouped : Grouped g.list (take places known) w places r total
    pub results : stored_in w further_at k ≡ map (λ e. factorization_of g.promise g.list (pauli_of e)) (take k es)

  pub factored_start : Factored 0 first
  unfolding stored_in
  factored_start = record { grouped = g.grouped; results = refl }

  module _ {k : ℕ} {w : List ℕ} (f : Factored k w) where
    unfoldable pub asked_now : Asked known w n places r total step
    asked_now = record { list = g.list; promise = g.promise; size = g.size; grouped = f.grouped; step_is = g.step_is }

    pub factored_next : n ≤ 128 → length w ≡ 4096 → k < length es → {o : Option Factorization}
        → o ≡ factorization_of g.promise g.list (pauli_of (get_or es k nothing)) → {x u : List ℕ} → Outside target_at (stride_of n) w x
        → Stored x (further_at + 5 * k) o u → Factored (k + 1) u
    factored_next few size h {o = o} e {x = x} {u = u} target stored =
        let low : length g.list ≤ 128 = omega (arith, g.size) in
        let G = grouped_target f.grouped low (omega arith) (subst (λ (m : ℕ). Outside target_at (stride_of m) w x) g.size target) in
        record {
          grouped = grouped_spare G low (omega (arith, target.size)) stored.rest (omega arith);
          results =
              results_next (λ e. factorization_of g.promise g.list (pauli_of e)) es nothing x u further_at k
              (stored_kept w x target_at (stride_of n) target further_at k (omega (arith, (form_room n few).1)) ∙ f.results) h
              (subst (λ (q : Option Factorization). Stored x (further_at + 5 * k) q u) e stored);
        }

    pub factored_all : (m : ℕ) → length es ≡ m → k ≤ m → m ≤ k → stored_in w further_at m ≡ map (factorization_of g.promise g.list) (paulis es)
    unfolding paulis
    factored_all m size a b =
        let e : m ≡ k = omega arith in
        ap (stored_in w further_at) e ∙ f.results ∙ ap (map (λ e. factorization_of g.promise g.list (pauli_of e))) (take_all k es (omega arith))
        ∙ sym (map-map (factorization_of g.promise g.list) pauli_of es)
