-- Laws of the calls on one list: what they pick from the description, and the standard generators written.
use Rattle.std.proofs.Common.{◌≡◌, Bool, not, ℕ, ◌+◌, ◌-◌, ◌/◌, List, [], ◌∷◌, length, sym, refl, ap, ◌∙◌, ap₂, arith, Err, Ok, Result}
use Rattle.pauli.specs.Pauli.{Pauli}
use Rattle.pauli.specs.Signed.{list_in}
use Rattle.pauli.specs.declared.refusal.Refusal.{Refusal}
use Rattle.pauli.specs.Condense.{list_of}
use Rattle.pauli.specs.Refusals.{told_refusal, told_by}
use Rattle.pauli.specs.Told.{answer, map_told}
use Rattle.pauli.proofs.roll.Told.{map_refused, map_answer}
use Rattle.pauli.specs.Writing.{roll_over}
use Rattle.pauli_theory.specs.Group.{Promise}
use Rattle.pauli_theory.specs.Standard.{if_zero, standard, rank, nonabelian, phases_of, phase_step, log2_size}
use Rattle.pauli_theory.proofs.Phases.{phases_cases}
use Rattle.pauli_theory.proofs.OverPlaces.{placed}
use Rattle.pauli_theory.proofs.Written.{written_standard}
use Rattle.pauli_group.specs.Inner.Area.{standard_at}
use Rattle.pauli_group.specs.declared.answers.Phases.{Phases}
use Rattle.pauli_group.specs.declared.answers.Phases.TheVariants.{Zero, ZeroTwo, All}
use Rattle.pauli_group.specs.Answers.{phases_told, yes_number}
use Rattle.pauli_group.specs.Inner.Lists.{step_told}
use Rattle.pauli_group.specs.declared.group.Description.{Description}
use Rattle.pauli_group.specs.Inner.Groups.{facts_of, facts_in, over_support, Grouped}
use Rattle.pauli_group.specs.Calls.{paulis, one_list, standard_bytes}
use Rattle.pauli_group.proofs.checks.OneList.{Given, given}
use Rattle.pauli_group.proofs.group.GroupLaws.{Described, facts_told}
use Rattle.pauli_group.proofs.standard.StandardLaws.{yes_number_not}

-- what the code makes of the description
pub abelian_told : (promise : Promise) (gs : List Pauli) (clash : Bool) → yes_number clash ≡ nonabelian promise gs
    → yes_number (not clash) ≡ if_zero (nonabelian promise gs) 1 0
abelian_told promise gs clash e = yes_number_not clash ∙ ap (λ (k : ℕ). if_zero k 1 0) e

-- the phases by their step
pub phases_told_lem : (promise : Promise) (gs : List Pauli) (p : Phases) → step_told p ≡ phase_step promise gs → phases_told p ≡ phases_of promise gs
phases_told_lem promise gs Zero = phases_cases (λ ks s. ◌≡◌ {A = ℕ} 4 s → 0 ∷ [] ≡ ks) (λ e. refl) (λ e. absurd (omega arith)) (λ e. absurd (omega arith)) promise gs
phases_told_lem promise gs ZeroTwo =
    phases_cases (λ ks s. ◌≡◌ {A = ℕ} 2 s → 0 ∷ 2 ∷ [] ≡ ks) (λ e. absurd (omega arith)) (λ e. refl) (λ e. absurd (omega arith)) promise gs
phases_told_lem promise gs All =
    phases_cases (λ ks s. ◌≡◌ {A = ℕ} 1 s → 0 ∷ 1 ∷ 2 ∷ 3 ∷ [] ≡ ks) (λ e. absurd (omega arith)) (λ e. absurd (omega arith)) (λ e. refl) promise gs

pub size_told : (promise : Promise) (gs : List Pauli) (r step : ℕ) → r ≡ rank gs → step ≡ phase_step promise gs
    → r + (2 - step / 2) ≡ log2_size promise gs
unfolding log2_size
size_told promise gs r step a b = ap₂ (λ (k : ℕ) (s : ℕ). k + (2 - s / 2)) a b

-- ---- the standard generators in the area, written

module _ (gs : List Pauli) {known x : List ℕ} {places r total : ℕ} (g : Grouped gs known x places r total) where
  pub group_written : roll_over known (list_in x standard_at total) ≡ standard_bytes gs
  unfolding standard_bytes over_support
  group_written = ap₂ roll_over g.support standards_are ∙ written_standard gs
    where
      standards_are : list_in x standard_at total ≡ standard (placed gs)
      standards_are = g.standards

-- ---- what the description of a list tells

-- a roll is read, the area is large enough, and d describes the group of the list
pub record ListDescribed (promise : Promise) (b : List ℕ) (size : ℕ) (d : Description) : Type 0 where
  pub count : ℕ
  pub given : Given b size count
  pub facts : Described promise (paulis (list_of b)) d.rank (step_told d.signs.phases) (yes_number d.signs.clash) (yes_number d.signs.stabilizer)

module _ (promise : Promise) (b : List ℕ) (size : ℕ) {r : Result Description Refusal} (e : told_by facts_in r ≡ map_told (facts_of promise) (one_list b size)) where
  pub facts_none : (q : Refusal) → r ≡ Err q → one_list b size ≡ told_refusal q
  facts_none q h = map_refused (facts_of promise) (one_list b size) _ _ (sym (sym (ap (told_by facts_in) h) ∙ e))

  pub facts_given : (d : Description) → r ≡ Ok d → ListDescribed promise b size d
  unfolding map_told
  facts_given d h =
      let (gs, told, same) = map_answer (facts_of promise) (one_list b size) (facts_in d) (sym (sym (ap (told_by facts_in) h) ∙ e)) in
      let g = given b size (length gs) (sym (ap (map_told length) told)) in
      let read : one_list b size ≡ answer (paulis (list_of b)) = g.told in
      let list : gs ≡ paulis (list_of b) = cc in
      record { count = length gs; given = g; facts = facts_told promise (paulis (list_of b)) d (sym same ∙ ap (facts_of promise) list) }
