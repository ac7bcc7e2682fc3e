-- Laws of the call that checks a claim of absence: what its checks tell, and its contract.
use Rattle.std.proofs.Common.{◌≡◌, ◌∙◌, Bool, nat_le, List, get_or, ℕ, ◌<◌, leb-false, Ok, Err}
use Rattle.pauli.specs.Condense.{list_of, nothing}
use Rattle.pauli.specs.JoinCalls.{read_both, within}
use Rattle.pauli.specs.Refusals.{told_refusal}
use Rattle.pauli.specs.Roll.{count_of}
use Rattle.pauli.specs.Sets.{pauli_of}
use Rattle.pauli.specs.Told.{answer, refused, refuse_if, and_then, map_told}
use Rattle.pauli.specs.declared.refusal.Refusal.{Refusal}
use Rattle.pauli.proofs.joined.JoinLaws.{accepted, count_refused}
use Rattle.pauli_theory.specs.Claims.{absence_accepted}
use Rattle.pauli_group.specs.Calls.{paulis}
use Rattle.pauli_group.proofs.checks.RollsLaws.{Accepted}
use Rattle.claims.specs.Calls.{Absence, absence_checked, absence_call}
use Rattle.claims.specs.ClaimContracts.{AbsenceClaim}
use Rattle.claims.proofs.checks.ChecksLaws.{alone, test_stops, test_goes}

module _ (b e : List ℕ) (number : ℕ) (ws : List ℕ) (witness : ℕ) where
  -- ---- what the checks tell

  pub rolls_refused : (m p : ℕ) → read_both b e ≡ refused m p → absence_checked b e number ws witness ≡ refused m p
  unfolding absence_checked and_then
  rolls_refused m p h = rw h

  abbrev pub shown : Absence
  shown = record { generators = paulis (list_of b); element = pauli_of (get_or (list_of e) number nothing); witness = pauli_of (get_or (list_of ws) witness nothing) }

  module _ {n m : ℕ} (r : Accepted b e n m) where
    pub witnesses_refused : (k p : ℕ) → count_of ws ≡ refused k p → absence_checked b e number ws witness ≡ refused k p
    unfolding absence_checked read_both and_then
    witnesses_refused k p h = rw ((accepted b n r.generators).0, (accepted e m r.elements).0, count_refused ws k p h)

    module _ {l : ℕ} (s : count_of ws ≡ answer l) where
      checks : absence_checked b e number ws witness ≡ refuse_if (nat_le m number) 8 0 (refuse_if (nat_le l witness) 8 0 (answer shown))
      unfolding absence_checked read_both and_then within
      checks =
          rw ((accepted b n r.generators).0, (accepted e m r.elements).0, (accepted e m r.elements).1, (accepted ws l s).0, (accepted ws l s).1)

      pub number_refused : {k q : ℕ} → refused k q ≡ alone (nat_le m number) 8 0 → absence_checked b e number ws witness ≡ refused k q
      number_refused h = checks ∙ test_stops (nat_le m number) 8 0 _ h

      module _ (inside : answer (tt {0}) ≡ alone (nat_le m number) 8 0) where
        pub number_inside : number < m
        number_inside = leb-false m number (test_goes (nat_le m number) 8 0 (answer (tt {0})) inside).0

        past_number : absence_checked b e number ws witness ≡ refuse_if (nat_le l witness) 8 0 (answer shown)
        past_number = checks ∙ (test_goes (nat_le m number) 8 0 _ inside).1

        pub witness_refused : {k q : ℕ} → refused k q ≡ alone (nat_le l witness) 8 0 → absence_checked b e number ws witness ≡ refused k q
        witness_refused h = past_number ∙ test_stops (nat_le l witness) 8 0 _ h

        module _ (there : answer (tt {0}) ≡ alone (nat_le l witness) 8 0) where
          pub witness_inside : witness < l
          witness_inside = leb-false l witness (test_goes (nat_le l witness) 8 0 (answer (tt {0})) there).0

          pub all_passed : absence_checked b e number ws witness ≡ answer shown
          all_passed = past_number ∙ (test_goes (nat_le l witness) 8 0 _ there).1

  -- ---- the call

  pub absence_refused : (q : Refusal) → absence_checked b e number ws witness ≡ told_refusal q → AbsenceClaim b e number ws witness (Err q)
  unfolding absence_call map_told
  absence_refused q h = record { told = rw h }

  pub absence_answered : absence_checked b e number ws witness ≡ answer shown → (holds : Bool)
      → holds ≡ absence_accepted (paulis (list_of b)) (pauli_of (get_or (list_of e) number nothing)) (pauli_of (get_or (list_of ws) witness nothing))
      → AbsenceClaim b e number ws witness (Ok holds)
  unfolding absence_call map_told
  absence_answered h holds a = record { told = rw (h, a) }
