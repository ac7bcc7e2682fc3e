-- Laws of the call that checks a claim of membership: what its checks tell, and its contract.
use Rattle.std.proofs.Common.{◌≡◌, ap, ◌∙◌, Bool, nat_le, slice_index, List, ◌++◌, length, get_or, take, drop, ℕ, ◌^◌, ◌<◌, ◌≤◌, leb-false, Ok, Err}
use Rattle.binar.proofs.Lists.{all_by}
use Rattle.pauli.specs.Condense.{list_of, nothing}
use Rattle.pauli.specs.JoinCalls.{read_both, within}
use Rattle.pauli.specs.Refusals.{told_refusal}
use Rattle.pauli.specs.Sets.{pauli_of}
use Rattle.pauli.specs.Support.{All}
use Rattle.pauli.specs.Told.{answer, refused, refuse_if, and_then, map_told}
use Rattle.pauli.specs.declared.refusal.Refusal.{Refusal}
use Rattle.pauli.proofs.joined.JoinLaws.{accepted}
use Rattle.pauli_theory.specs.Claims.{Claim, member_accepted}
use Rattle.pauli_theory.specs.Group.{Promise}
use Rattle.pauli_group.specs.Calls.{paulis, Question}
use Rattle.pauli_group.specs.WorkArea.{work_words, cleared, enough, area_after}
use Rattle.pauli_group.proofs.area.AreaLaws.{cleared_part}
use Rattle.pauli_group.proofs.checks.RollsLaws.{Accepted}
use Rattle.pauli_group.proofs.checks.Room.{room_told, room_enough, room_refused}
use Rattle.claims.specs.Calls.{formed, member_checked, member_call}
use Rattle.claims.specs.ClaimContracts.{MembershipClaim}
use Rattle.claims.proofs.checks.ChecksLaws.{alone, test_stops, test_goes}

-- ---- what the checks tell

module _ (b e : List ℕ) (number : ℕ) (c : Claim) (words : ℕ) where
  pub rolls_refused : (m p : ℕ) → read_both b e ≡ refused m p → member_checked b e number c words ≡ refused m p
  unfolding member_checked and_then
  rolls_refused m p h = rw h

  abbrev pub asked : Question
  asked = record { generators = paulis (list_of b); element = pauli_of (get_or (list_of e) number nothing) }

  module _ {n m : ℕ} (r : Accepted b e n m) where
    checks : member_checked b e number c words ≡ refuse_if (nat_le m number) 8 0 (formed (paulis (list_of b)) c (enough words (answer asked)))
    unfolding member_checked read_both and_then within
    checks = rw ((accepted b n r.generators).0, (accepted e m r.elements).0, (accepted e m r.elements).1)

    pub number_refused : {k q : ℕ} → refused k q ≡ alone (nat_le m number) 8 0 → member_checked b e number c words ≡ refused k q
    number_refused h = checks ∙ test_stops (nat_le m number) 8 0 _ h

    module _ (inside : answer (tt {0}) ≡ alone (nat_le m number) 8 0) where
      pub number_inside : number < m
      number_inside = leb-false m number (test_goes (nat_le m number) 8 0 (answer (tt {0})) inside).0

      past_number : member_checked b e number c words ≡ formed (paulis (list_of b)) c (enough words (answer asked))
      past_number = checks ∙ (test_goes (nat_le m number) 8 0 _ inside).1

      pub form_refused : {k q : ℕ} → refused k q ≡ formed (paulis (list_of b)) c (answer (tt {0})) → member_checked b e number c words ≡ refused k q
      unfolding formed
      form_refused h = past_number ∙ test_stops _ 16 0 _ h

      module _ (well : answer (tt {0}) ≡ formed (paulis (list_of b)) c (answer (tt {0}))) where
        past_form : member_checked b e number c words ≡ enough words (answer asked)
        unfolding formed
        past_form = past_number ∙ (test_goes _ 16 0 _ well).1

        pub area_refused : {k q : ℕ} → refused k q ≡ room_told words → member_checked b e number c words ≡ refused k q
        area_refused h = past_form ∙ room_refused words _ h

        pub all_passed : work_words ≤ words → member_checked b e number c words ≡ answer asked
        all_passed h = past_form ∙ room_enough words _ h

-- ---- the call

-- numbers of 16 bits, by index
pub indexes_low : (is : List ℕ) → ((i : ℕ) → slice_index is i < 2 ^ 16) → All (λ i. i < 2 ^ 16) is
indexes_low is low = all_by (λ i. i < 2 ^ 16) is 0 (λ i h. low i)

module _ (promise : Promise) (b e : List ℕ) (number : ℕ) (is : List ℕ) (k : ℕ) (work : List ℕ) (low : All (λ i. i < 2 ^ 16) is) where
  abbrev claim : Claim
  claim = record { indexes = is; exponent = k }

  pub claim_refused : (q : Refusal) → member_checked b e number claim (length work) ≡ told_refusal q → MembershipClaim promise b e number is k work (Err q) work
  unfolding member_call map_told area_after
  claim_refused q h = record { numbers = low; told = rw h; area = rw h }

  pub claim_answered : member_checked b e number claim (length work) ≡ answer (asked b e number claim (length work)) → work_words ≤ length work → (holds : Bool)
      → holds ≡ member_accepted promise (paulis (list_of b)) (pauli_of (get_or (list_of e) number nothing)) claim → (x : List ℕ) → x ≡ cleared (take work_words work)
      → MembershipClaim promise b e number is k work (Ok holds) (x ++ drop work_words work)
  unfolding member_call map_told area_after
  claim_answered h room holds a x v = record { numbers = low; told = rw (h, a); area = rw h (ap (◌++ drop work_words work) v ∙ cleared_part work room) }
