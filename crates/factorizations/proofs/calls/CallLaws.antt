-- Laws for the call: what the checks tell, and the contract from what is then written.
use Rattle.std.proofs.Common.{◌≡◌, refl, sym, ap, ◌∙◌, subst, List, ◌++◌, map, ℕ, ◌≤◌, ltb, length, take, drop, Err, Ok, Result}
use mathlib.Core.Option.{Option}
use lib.ListN.{length-map}
use Rattle.pauli.specs.declared.refusal.Refusal.{Refusal}
use Rattle.pauli.specs.Condense.{list_of}
use Rattle.pauli.specs.JoinCalls.{read_both, Counts}
use Rattle.pauli.specs.Refusals.{told_refusal, told_of}
use Rattle.pauli.specs.Told.{Told, answer, refused, and_then, map_told}
use Rattle.pauli.specs.Writing.{told_bytes, left_in}
use Rattle.pauli.proofs.joined.JoinLaws.{accepted}
use Rattle.pauli.proofs.roll.Told.{refused_none, map_test, map_refused, map_answer}
use Rattle.pauli_theory.specs.Group.{Promise}
use Rattle.pauli_theory.specs.Membership.{Factorization, factorization_of}
use Rattle.pauli_group.specs.Calls.{paulis, roll_counts}
use Rattle.pauli_group.specs.WorkArea.{work_words, enough, cleared, area_after}
use Rattle.pauli_group.proofs.checks.RollsLaws.{Accepted, both}
use Rattle.pauli_group.proofs.checks.Room.{room_told, room_enough, room_passed, room_refused}
use Rattle.pauli_group.proofs.area.AreaLaws.{cleared_part}
use Rattle.pauli_group.proofs.group.GroupedLaws.{list_length}
use Rattle.pauli_group.proofs.source.SourceLaws.{roll_counted}
use Rattle.factorizations.specs.Calls.{questions, questions_counts, results_of, factorizations_call, Totals, totals, told_results}
use Rattle.factorizations.specs.Contract.{FactorizationsCall}
use Rattle.factorizations.specs.Records.{results_bytes}

-- ---- what the checks tell

module _ (b e : List ℕ) (words : ℕ) where
  questions_refused : (m p : ℕ) → read_both b e ≡ refused m p → questions b e words ≡ refused m p
  unfolding questions and_then
  questions_refused m p h = rw h

  module _ (n m : ℕ) (a : Accepted b e n m) where
    read : questions b e words ≡ enough words (answer (record { generators = paulis (list_of b); elements = paulis (list_of e) }))
    unfolding questions read_both and_then
    read = rw ((accepted b n a.generators).0, (accepted e m a.elements).0)

    pub questions_long : work_words ≤ words
        → questions b e words ≡ answer (record { generators = paulis (list_of b); elements = paulis (list_of e) })
    questions_long h = read ∙ room_enough words _ h

  pub counted_refused : (m p : ℕ) → read_both b e ≡ refused m p → refused m p ≡ map_told questions_counts (questions b e words)
  unfolding map_told
  counted_refused m p h = rw (questions_refused m p h)

  module _ (n m : ℕ) (a : Accepted b e n m) where
    pub counted_short : (k p : ℕ) → refused k p ≡ room_told words → refused k p ≡ map_told questions_counts (questions b e words)
    unfolding map_told
    counted_short k p h = rw (read n m a ∙ room_refused words _ h)

    pub counted_long : work_words ≤ words → answer (record { left = n; right = m }) ≡ map_told questions_counts (questions b e words)
    unfolding map_told questions_counts
    counted_long h = rw (questions_long n m a h, list_length _ _ (roll_counted b n a.generators), list_length _ _ (roll_counted e m a.elements))

  -- the rolls are accepted, and the area is large enough
  pub record Asking (n m : ℕ) : Type 0 where
    pub rolls : Accepted b e n m
    pub room : work_words ≤ words

  pub asking : (c : Counts) → answer c ≡ map_told questions_counts (questions b e words) → Asking c.left c.right
  unfolding roll_counts
  asking c h = go (roll_counts b e) refl
    where
      go : (t : Told Counts) → roll_counts b e ≡ t → Asking c.left c.right
      go (refused m p) f = absurd (refused_none m p c (counted_refused m p (map_refused _ (read_both b e) m p f) ∙ sym h))
      go (answer d) f =
          let a = both b e d.left d.right (sym f) in
          let (q, told, counts) = map_answer questions_counts (questions b e words) c (sym h) in
          let (room, same) = room_passed words _ q (sym (read d.left d.right a) ∙ told) in
          let told_same : answer d ≡ answer c = counted_long d.left d.right a room ∙ sym h in
          let counts_same : d ≡ c = cc in
          subst (λ (x : Counts). Asking x.left x.right) counts_same (record { rolls = a; room = room })

  pub questions_none : {m p : ℕ} → refused m p ≡ map_told questions_counts (questions b e words) → questions b e words ≡ refused m p
  questions_none h = map_refused questions_counts (questions b e words) _ _ (sym h)

-- ---- the call

-- the count goes with the number of bytes
abbrev with_count : ℕ → ℕ → Totals
with_count n k = record { count = n; bytes = k }

both_told : (os : List (Option Factorization)) (out : List ℕ)
    → map_told (with_count (length os)) (told_bytes (answer (results_bytes os)) out) ≡ told_results (answer os) out
unfolding told_bytes told_results totals map_told
both_told os out = map_test _ (ltb (length out) (length (results_bytes os))) 12 0 (answer (length (results_bytes os)))

-- the results of the elements of the roll e by the generators of the roll b
abbrev pub results_by : Promise → List ℕ → List ℕ → List (Option Factorization)
results_by promise b e = map (factorization_of promise (paulis (list_of b))) (paulis (list_of e))

module _ (promise : Promise) (b e work out : List ℕ) where
  pub call_refused : (q : Refusal) → questions b e (length work) ≡ told_refusal q
      → FactorizationsCall promise b e work out (Err q) work out
  unfolding factorizations_call map_told told_results left_in area_after
  call_refused q h = record { told = rw h; left = rw h; area = rw h }

  module _ {n m : ℕ} (a : Asking b e (length work) n m) where
    asked : questions b e (length work) ≡ answer (record { generators = paulis (list_of b); elements = paulis (list_of e) })
    asked = questions_long b e (length work) n m a.rolls a.room

    call_is : factorizations_call promise b e (length work) ≡ answer (results_by promise b e)
    unfolding factorizations_call map_told results_of
    call_is = rw asked

    area_is : {x : List ℕ} → x ≡ cleared (take work_words work) → x ++ drop work_words work ≡ area_after (questions b e (length work)) work
    unfolding area_after
    area_is c = rw asked (ap (◌++ drop work_words work) c ∙ cleared_part work a.room)

    left_is : {u : List ℕ} → u ≡ left_in (answer (results_bytes (results_by promise b e))) out
        → u ≡ left_in (map_told results_bytes (factorizations_call promise b e (length work))) out
    unfolding map_told
    left_is v = rw call_is v

    number : length (results_by promise b e) ≡ m
    number = length-map (paulis (list_of e)) (factorization_of promise (paulis (list_of b))) ∙ list_length _ _ (roll_counted e m a.rolls.elements)

    told_is : {t : Told ℕ} → t ≡ told_bytes (answer (results_bytes (results_by promise b e))) out
        → map_told (with_count m) t ≡ told_results (factorizations_call promise b e (length work)) out
    told_is h = rw (call_is, h) (rw number at (both_told (results_by promise b e) out))

    -- the records are written, or there is no room for them, and the first words of the area are cleared
    module _ (w : Result ℕ Refusal) (t : told_of w ≡ told_bytes (answer (results_bytes (results_by promise b e))) out) {x u : List ℕ}
        (v : u ≡ left_in (answer (results_bytes (results_by promise b e))) out) (c : x ≡ cleared (take work_words work)) where
      pub call_short : (q : Refusal) → w ≡ Err q
          → FactorizationsCall promise b e work out (Err q) (x ++ drop work_words work) u
      unfolding map_told
      call_short q h = record { told = ap (λ (y : Result ℕ Refusal). map_told (with_count m) (told_of y)) (sym h) ∙ told_is t; left = left_is v; area = area_is c }

      pub call_done : (k : ℕ) → w ≡ Ok k
          → FactorizationsCall promise b e work out (Ok (record { count = m; bytes = k })) (x ++ drop work_words work) u
      unfolding map_told
      call_done k h = record { told = ap (λ (y : Result ℕ Refusal). map_told (with_count m) (told_of y)) (sym h) ∙ told_is t; left = left_is v; area = area_is c }
