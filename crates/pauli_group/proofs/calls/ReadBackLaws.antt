-- Lists that the calls write are within the limits of a roll, so that they are read back.
use mathlib.Core.Path.{◌≡◌, refl, sym, ap, ◌∙◌, subst}
use mathlib.Core.List.{List, ◌++◌, map}
use mathlib.Core.Option.{some}
use Prim.Native.Nat.{ℕ, ◌+◌, ◌≤◌}
use native.Mathlib.Omega.{arith}
use borrow.Author.Tests.{ltb-false}
use lib.Dec.{ltb}
use lib.ListN.{length, length-map}
use Rattle.pauli.specs.JoinCalls.{read_both, few_qubits}
use Rattle.pauli.specs.Told.{answer, refuse_if, and_then}
use Rattle.pauli.specs.Roll.{most_paulis, Sparse, support, read, write}
use Rattle.pauli.specs.Support.{most_qubits, All}
use Rattle.pauli.specs.Pauli.{Pauli}
use Rattle.pauli.specs.PauliTheorems.{PauliOn}
use Rattle.pauli.specs.Sets.{pauli_of, sparse_of}
use Rattle.pauli.specs.ReadBack.{Holds}
use Rattle.pauli.proofs.join.ReadBack.{Qubits, read_qubits, joined_qubits, written_holds}
use Rattle.pauli.proofs.roll.RollLaws.{answer_parts, parts_count}
use Rattle.pauli.proofs.roll.Told.{test_passed}
use Rattle.pauli_theory.specs.Group.{Promise}
use Rattle.pauli_theory.specs.Standard.{support_of}
use Rattle.pauli_theory.specs.Modulo.{modulo, try_quotient}
use Rattle.pauli_theory.specs.WholeCommon.{whole_common}
use Rattle.pauli_theory.proofs.ByValue.{modulo_few, quotient_is, whole_few}
use Rattle.pauli_theory.proofs.WholeCommonLaw.{whole_common_law}
use Rattle.pauli_theory.proofs.ModuloPlaces.{modulo_on}
use Rattle.pauli_theory.proofs.Written.{support_of_lem}
use Rattle.pauli_group.specs.WorkArea.{work_words, enough}
use Rattle.pauli_group.specs.Calls.{paulis, Pair, two_lists}
use Rattle.pauli_group.proofs.group.GroupLaws.{paulis_append}

-- ---- one list

module _ (b : List ℕ) (ps : List Sparse) (e : read b ≡ answer ps) where
  pub read_few : length (paulis ps) ≤ most_paulis
  unfolding paulis
  read_few =
      let p = answer_parts b ps e in
      omega (arith, p.few, parts_count b _ _ ps p, length-map ps pauli_of)

  list_qubits : Qubits (support_of (paulis ps))
  unfolding paulis
  list_qubits = subst Qubits (support_of_lem ps) (read_qubits b ps e)

  -- a result on the list's qubits
  pub list_holds : (rs : List Pauli) → All (PauliOn (support_of (paulis ps))) rs → length rs ≤ most_paulis → Holds (write (map sparse_of rs)) rs
  list_holds = written_holds (support_of (paulis ps)) list_qubits

-- ---- two lists

-- they keep within the limits of joined lists
pub record Fit (ps qs : List Sparse) : Type 0 where
  pub few : length ps + length qs ≤ most_paulis
  pub qubits : length (support (ps ++ qs)) ≤ most_qubits

-- what is known of the lists of two rolls where two_lists answers
pub record Both (ps qs : List Sparse) (given : Pair) : Type 0 where
  pub is : given ≡ record { left = paulis ps; right = paulis qs }
  pub fit : Fit ps qs

module _ (l r : List ℕ) (ps qs : List Sparse) (el : read l ≡ answer ps) (er : read r ≡ answer qs) where
  -- the limits, then the area, in turn
  pub two_is : (words : ℕ) → two_lists l r words ≡
      refuse_if (ltb most_paulis (length ps + length qs)) 2 0 (refuse_if (ltb most_qubits (length (support (ps ++ qs)))) 7 0
      (refuse_if (ltb words work_words) 9 0 (answer (record { left = paulis ps; right = paulis qs }))))
  unfolding two_lists read_both and_then few_qubits enough
  two_is words = rw (el, er) refl

  pub both_are : (words : ℕ) (given : Pair) → two_lists l r words ≡ answer given → Both ps qs given
  both_are words given s =
      let (few, s₁) = test_passed _ 2 0 _ given (sym (two_is words) ∙ s) in
      let (qubits, s₂) = test_passed _ 7 0 _ given s₁ in
      let (area, s₃) = test_passed _ 9 0 _ given s₂ in
      record {
        is = cc;
        fit = record {
          few = ltb-false most_paulis (length ps + length qs) few;
          qubits = ltb-false most_qubits (length (support (ps ++ qs))) qubits;
        };
      }

  module _ (fit : Fit ps qs) where
    abbrev gs : List Pauli
    gs = paulis ps

    abbrev hs : List Pauli
    hs = paulis qs

    few_paulis : length gs + length hs ≤ most_paulis
    unfolding paulis
    few_paulis = omega (arith, fit.few, length-map ps pauli_of, length-map qs pauli_of)

    -- a result on the qubits of both lists
    both_holds : (rs : List Pauli) → All (PauliOn (support_of (gs ++ hs))) rs → length rs ≤ most_paulis → Holds (write (map sparse_of rs)) rs
    unfolding paulis
    both_holds =
        written_holds (support_of (gs ++ hs))
        (subst Qubits (support_of_lem (ps ++ qs) ∙ ap support_of (paulis_append ps qs)) (joined_qubits l r ps qs el er fit.qubits))

    pub modulo_holds : (right : Promise) → Holds (write (map sparse_of (modulo right gs hs))) (modulo right gs hs)
    modulo_holds right = both_holds (modulo right gs hs) (modulo_on gs hs right) (modulo_few gs hs right few_paulis)

    pub quotient_holds : (left right : Promise) (rs : List Pauli) → try_quotient left right gs hs ≡ some rs → Holds (write (map sparse_of rs)) rs
    quotient_holds left right rs e = subst (λ (us : List Pauli). Holds (write (map sparse_of us)) us) (quotient_is left right gs hs rs e) (modulo_holds right)

    pub common_holds : Holds (write (map sparse_of (whole_common gs hs))) (whole_common gs hs)
    common_holds = both_holds (whole_common gs hs) (whole_common_law gs hs).on_joined (whole_few gs hs few_paulis)
