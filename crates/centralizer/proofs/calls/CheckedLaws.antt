-- What the checks tell, and what follows for the answer, the output and the work area.
use Rattle.std.proofs.Common.{◌≡◌, refl, sym, ap, ◌∙◌, Bool, true, false, not, ◌&&◌, leb, ltb, map, List, ◌++◌, ℕ, ◌≤◌, ◌<◌, ◌^◌, length, take, drop, slice_index, Result}
use Rattle.binar.proofs.Lists.{all_by}
use Rattle.pauli.specs.Pauli.{Pauli}
use Rattle.pauli.specs.Refusals.{told_of}
use Rattle.pauli.specs.Roll.{Sparse, support, read}
use Rattle.pauli.specs.declared.refusal.Refusal.{Refusal}
use Rattle.pauli.specs.Sets.{pauli_of}
use Rattle.pauli.specs.Support.{All}
use Rattle.pauli.specs.Told.{Told, answer, refused, refuse_if, and_then, map_told}
use Rattle.pauli.specs.Writing.{told_bytes, left_in}
use Rattle.pauli.proofs.roll.Told.{refused_none}
use Rattle.pauli_theory.specs.Centralizer.{centralizer_within, centralizer_of}
use Rattle.pauli_theory.proofs.Written.{support_of_lem}
use Rattle.pauli_group.specs.Calls.{paulis, list_bytes}
use Rattle.pauli_group.specs.WorkArea.{work_words, enough, cleared, area_after}
use Rattle.pauli_group.proofs.area.AreaLaws.{cleared_part}
use Rattle.pauli_group.proofs.checks.Room.{room_told, room_enough, room_refused}
use Rattle.centralizer.specs.Calls.{rises_from, together, most_together, fitting, checked, generators_of, within_checked, within_call, own_checked, own_call}
use Rattle.centralizer.specs.CallContracts.{WithinCall, OwnCall}

-- ---- the named support by itself

-- what a check tells that passes
abbrev pub passes : Told (Unit {0})
passes = answer tt

module _ (named own : List ℕ) {A : Type 0} (next : Told A) where
  -- where it refuses, it does so before the next; where it does not, the next goes on
  pub fit_refused : {m p : ℕ} → refused m p ≡ fitting named own passes → fitting named own next ≡ refused m p
  unfolding fitting refuse_if
  fit_refused {m} {p} = go (not (rises_from 0 named && leb (together named own) most_together))
    where
      go : (t : Bool) → refused m p ≡ refuse_if t 13 0 passes → refuse_if t 13 0 next ≡ refused m p
      go true h = cc
      go false h = absurd (refused_none m p tt h)

  pub fit_passed : passes ≡ fitting named own passes → fitting named own next ≡ next
  unfolding fitting refuse_if
  fit_passed = go (not (rises_from 0 named && leb (together named own) most_together))
    where
      go : (t : Bool) → passes ≡ refuse_if t 13 0 passes → refuse_if t 13 0 next ≡ next
      go true h = absurd (refused_none 13 0 tt (sym h))
      go false h = refl

-- ---- the checks in turn
module _ (named own : List ℕ) (ps : List Sparse) (is : own ≡ support ps) (words : ℕ) where
  pub not_fitting : {m p : ℕ} → refused m p ≡ fitting named own passes → checked named ps words ≡ refused m p
  unfolding checked
  not_fitting h = fit_refused named (support ps) (enough words (answer (paulis ps))) (rw is at h)

  module _ (fits : passes ≡ fitting named own passes) where
    rest : checked named ps words ≡ enough words (answer (paulis ps))
    unfolding checked
    rest = fit_passed named (support ps) (enough words (answer (paulis ps))) (rw is at fits)

    pub no_room : {m p : ℕ} → refused m p ≡ room_told words → checked named ps words ≡ refused m p
    no_room h = rest ∙ room_refused words (answer (paulis ps)) h

    pub room : work_words ≤ words → checked named ps words ≡ answer (paulis ps)
    room h = rest ∙ room_enough words (answer (paulis ps)) h

-- ---- what follows
module _ (named : List ℕ) (ps : List Sparse) (work out : List ℕ) where
  abbrev told : Told (List Pauli)
  told = checked named ps (length work)

  module _ {m p : ℕ} (e : told ≡ refused m p) where
    pub refused_told : refused m p ≡ told_bytes (generators_of named told) out
    unfolding told_bytes generators_of map_told
    refused_told = rw e

    pub refused_left : out ≡ left_in (generators_of named told) out
    unfolding left_in generators_of map_told
    refused_left = rw e

    pub refused_area : work ≡ area_after told work
    unfolding area_after
    refused_area = rw e

  module _ (e : told ≡ answer (paulis ps)) where
    pub answer_is : answer (list_bytes (centralizer_within named (paulis ps))) ≡ generators_of named told
    unfolding generators_of map_told
    answer_is = rw e

    pub answer_area : (x : List ℕ) → work_words ≤ length work → x ≡ cleared (take work_words work) → x ++ drop work_words work ≡ area_after told work
    unfolding area_after
    answer_area x h a = rw e (ap (◌++ drop work_words work) a ∙ cleared_part work h)

-- ---- on the list's own support the named one is that of the definition
module _ (ps : List Sparse) where
  pub on_own : centralizer_within (support ps) (paulis ps) ≡ centralizer_of (paulis ps)
  unfolding centralizer_of paulis
  on_own = ap (λ (qs : List ℕ). centralizer_within qs (map pauli_of ps)) (support_of_lem ps)

  pub own_told : (words : ℕ) → generators_of (support ps) (checked (support ps) ps words)
      ≡ map_told (λ gs. list_bytes (centralizer_of gs)) (checked (support ps) ps words)
  unfolding generators_of checked fitting enough map_told refuse_if
  own_told words = go (not (rises_from 0 (support ps) && leb (together (support ps) (support ps)) most_together)) (ltb words work_words)
    where
      go : (t u : Bool) → map_told (λ gs. list_bytes (centralizer_within (support ps) gs)) (refuse_if t 13 0 (refuse_if u 9 0 (answer (paulis ps))))
          ≡ map_told (λ gs. list_bytes (centralizer_of gs)) (refuse_if t 13 0 (refuse_if u 9 0 (answer (paulis ps))))
      go true u = refl
      go false true = refl
      go false false = ap (λ (gs : List Pauli). answer (list_bytes gs)) on_own

-- ---- the two calls

-- numbers of 32 bits, by index
pub numbers_low : (named : List ℕ) → ((i : ℕ) → slice_index named i < 2 ^ 32) → All (λ q. q < 2 ^ 32) named
numbers_low named low = all_by (λ q. q < 2 ^ 32) named 0 (λ i h. low i)

module _ (b work out : List ℕ) (r : Result ℕ Refusal) where
  module _ {m p : ℕ} (t : told_of r ≡ refused m p) (e : read b ≡ refused m p) where
    pub within_refused : (named : List ℕ) → All (λ q. q < 2 ^ 32) named → WithinCall b named work out r work out
    unfolding within_call generators_of within_checked and_then map_told told_bytes left_in area_after
    within_refused named n = record { numbers = n; told = t ∙ rw e; left = rw e; area = rw e }

    pub own_refused : OwnCall b work out r work out
    unfolding own_call own_checked and_then map_told told_bytes left_in area_after
    own_refused = record { told = t ∙ rw e; left = rw e; area = rw e }

  module _ (ps : List Sparse) (e : read b ≡ answer ps) (work' out' : List ℕ) where
    pub within_called : (named : List ℕ) → All (λ q. q < 2 ^ 32) named → told_of r ≡ told_bytes (generators_of named (checked named ps (length work))) out
        → out' ≡ left_in (generators_of named (checked named ps (length work))) out → work' ≡ area_after (checked named ps (length work)) work
        → WithinCall b named work out r work' out'
    unfolding within_call within_checked and_then
    within_called named n t l a = record { numbers = n; told = t ∙ rw e; left = l ∙ rw e; area = a ∙ rw e }

    pub own_called : told_of r ≡ told_bytes (generators_of (support ps) (checked (support ps) ps (length work))) out
        → out' ≡ left_in (generators_of (support ps) (checked (support ps) ps (length work))) out
        → work' ≡ area_after (checked (support ps) ps (length work)) work → OwnCall b work out r work' out'
    unfolding own_call own_checked and_then
    own_called t l a =
        let same = own_told ps (length work) in
        record {
          told = t ∙ rw e (ap (λ (u : Told (List ℕ)). told_bytes u out) same);
          left = l ∙ rw e (ap (λ (u : Told (List ℕ)). left_in u out) same);
          area = a ∙ rw e;
        }
