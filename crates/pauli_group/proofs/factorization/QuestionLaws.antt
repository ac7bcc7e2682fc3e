-- Laws of the call for membership: what is told, and the output and the work area that are left.
use Rattle.std.proofs.Common.{◌≡◌, ℕ, ◌*◌, ◌%◌, ◌^◌, ◌<◌, ◌≤◌, true, false, ltb, List, ◌++◌, map, length, get_or, take, drop, sym, ap, ◌∙◌, arith, le-ltb, lt-ltb, Err, Ok, Some, None}
use mathlib.Core.Option.{Option, some, none, some-injective}
use borrow.Author.Tests.{lt-leb}
use lib.ListN.{length-map}
use Rattle.binar.specs.Row.{weight}
use Rattle.binar.proofs.matrix_form.Theorems.{solve_law}
use Rattle.pauli.specs.declared.refusal.Reason.TheVariants.{Output}
use Rattle.pauli.specs.declared.refusal.Refusal.{Refusal}
use Rattle.pauli.specs.Refusals.{told_refusal}
use Rattle.pauli.specs.Condense.{list_of, nothing}
use Rattle.pauli.specs.JoinCalls.{read_both, within}
use Rattle.pauli.specs.Pauli.{Pauli, indexed_product}
use Rattle.pauli.specs.Roll.{most_paulis, Sparse, read}
use Rattle.pauli.specs.Sets.{members, row_of, pauli_of}
use Rattle.pauli.specs.Told.{answer, refuse_if, and_then, map_told}
use Rattle.pauli.specs.Writing.{put_bytes}
use Rattle.pauli.proofs.condense.Sets.{members_rise, members_count}
use Rattle.pauli.proofs.roll.Told.{map_test}
use Rattle.pauli.proofs.support.SupportLaws.{rising_bound}
use Rattle.pauli_theory.specs.Group.{Promise}
use Rattle.pauli_theory.specs.Membership.{Factorization, outside, exponent_left, with_phase, factorization_of}
use Rattle.pauli_theory.specs.Standard.{support_of, form_of, phase_step}
use Rattle.pauli_theory.proofs.Phases.{with_phase_lem}
use Rattle.pauli_theory.proofs.IfZero.{if_zero_some}
use Rattle.pauli_theory.proofs.IndexSets.{members_below}
use Rattle.pauli_group.specs.WorkArea.{work_words, enough, cleared, area_after}
use Rattle.pauli_group.specs.Calls.{paulis, question, factorization_call, index_bytes, factored, told_member, member_left, le16s}
use Rattle.pauli_group.specs.CallContracts.{MemberCall}
use Rattle.pauli_group.proofs.checks.Question.{Asking, question_told}
use Rattle.pauli_group.proofs.area.AreaLaws.{cleared_part}
use Rattle.pauli_group.proofs.calls.ReadBackLaws.{read_few}
use Rattle.pauli_group.proofs.member.MemberLaws.{length_indexes}

-- ---- an index set is one of generators

phased_set : (promise : Promise) (gs : List Pauli) (p : Pauli) (o : Option ℕ) (f : Factorization)
    → with_phase promise gs p o ≡ some f → o ≡ some f.indexes
unfolding with_phase
phased_set promise gs p none f e = let z : ◌≡◌ {A = ℕ} 0 1 = cc in absurd (omega arith)
phased_set promise gs p (some s) f e =
    let k = exponent_left p (indexed_product s gs) in
    let h = if_zero_some (k % phase_step promise gs) (some (record { indexes = s; exponent = k })) f (sym (with_phase_lem promise gs p s) ∙ e) in
    ap (λ (g : Factorization). some g.indexes) (some-injective _ f h.1)

pub indexes_below : (promise : Promise) (gs : List Pauli) (p : Pauli) (f : Factorization)
    → some f ≡ factorization_of promise gs p → f.indexes < 2 ^ length gs
unfolding factorization_of form_of
indexes_below promise gs p f e =
    let qs = support_of gs in
    let set = phased_set promise gs p _ f (if_zero_some (outside gs p) _ f (sym e)).1 in
    rw (length-map gs (row_of qs)) at ((solve_law (2 * length qs) (map (row_of qs) gs) (row_of qs p)).sound f.indexes set).0

-- of 128 at most, where they are those of an accepted roll
pub weight_few : (promise : Promise) (b : List ℕ) (ps : List Sparse) → read b ≡ answer ps → (p : Pauli) (f : Factorization)
    → factorization_of promise (paulis ps) p ≡ some f → weight f.indexes ≤ 128
unfolding most_paulis
weight_few promise b ps r p f e =
    let s = f.indexes in
    let m = length (paulis ps) in
    let low = members_below m s (indexes_below promise (paulis ps) p f (sym e)) in
    omega (arith, rising_bound 0 m (members s) (members_rise s) low (omega arith), members_count s, read_few b ps r)

pub index_bytes_lem : (f : Factorization) → length (index_bytes f) ≡ 2 * weight f.indexes
unfolding index_bytes
index_bytes_lem f = length_indexes f.indexes

-- ---- a question about an element of an accepted roll: the work area alone is still checked
module _ (promise : Promise) (b e : List ℕ) (ps qs : List Sparse) (p : read b ≡ answer ps) (q : read e ≡ answer qs) (n : ℕ) (h : n < length qs) where
  pub question_is : (words : ℕ) → factorization_call promise b e n words
      ≡ refuse_if (ltb words work_words) 9 0 (answer (factorization_of promise (paulis ps) (pauli_of (get_or qs n nothing))))
  unfolding factorization_call question read_both and_then within refuse_if enough map_told
  question_is words = rw (p, q, lt-leb (length qs) n h) (map_test _ (ltb words work_words) 9 0 _)

-- ---- the call

module _ (promise : Promise) (b e : List ℕ) (number : ℕ) (work out : List ℕ) where
  pub call_refused : (q : Refusal) → question b e number (length work) ≡ told_refusal q
      → MemberCall promise b e number work out (Err q) work out
  unfolding factorization_call map_told told_member member_left area_after
  call_refused q h = record { told = rw h; left = rw h; area = rw h }

  module _ {n m : ℕ} (a : Asking b e number (length work) n m) (x : List ℕ) (ex : x ≡ cleared (take work_words work)) where
    abbrev F : Option Factorization
    F = factorization_of promise (paulis (list_of b)) (pauli_of (get_or (list_of e) number nothing))

    call_is : factorization_call promise b e number (length work) ≡ answer F
    unfolding factorization_call map_told
    call_is = rw (question_told b e number (length work) a)

    area_is : x ++ drop work_words work ≡ area_after (question b e number (length work)) work
    unfolding area_after
    area_is = rw (question_told b e number (length work) a) (ap (◌++ drop work_words work) ex ∙ cleared_part work a.room)

    pub call_none : none ≡ F → MemberCall promise b e number work out (Ok None) (x ++ drop work_words work) out
    unfolding told_member member_left
    call_none h =
        let same : factorization_call promise b e number (length work) ≡ answer none = call_is ∙ ap answer (sym h) in
        record { told = rw same; left = rw same; area = area_is }

    module _ (f : Factorization) (h : some f ≡ F) where
      same : factorization_call promise b e number (length work) ≡ answer (some f)
      same = call_is ∙ ap answer (sym h)

      pub call_short : length out < 2 * weight f.indexes
          → MemberCall promise b e number work out (Err (record { reason = Output; place = 0 })) (x ++ drop work_words work) out
      unfolding told_member member_left refuse_if
      call_short l =
          let short : ltb (length out) (length (index_bytes f)) ≡ true = lt-ltb (length out) (length (index_bytes f)) (rw (index_bytes_lem f) l) in
          record { told = rw (same, short); left = rw (same, short); area = area_is }

      pub call_found : (count : ℕ) → count ≡ weight f.indexes → 2 * count ≤ length out
          → (out' : List ℕ) → out' ≡ put_bytes out 0 (le16s (members f.indexes))
          → MemberCall promise b e number work out (Ok (Some (record { count = count; exponent = f.exponent }))) (x ++ drop work_words work) out'
      unfolding told_member member_left refuse_if factored index_bytes
      call_found count c l out' w =
          let room : ltb (length out) (length (index_bytes f)) ≡ false = le-ltb (length out) (length (index_bytes f)) (rw (index_bytes_lem f, ← c) l) in
          record {
            told = rw (same, room, c);
            left = w ∙ rw (same, room);
            area = area_is;
          }
