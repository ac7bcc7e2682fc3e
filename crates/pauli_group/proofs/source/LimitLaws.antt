-- The limits of two lists joined.
use Rattle.std.proofs.Common.{◌≡◌, ℕ, ◌+◌, ◌<◌, ◌≤◌, List, ◌++◌, length, sym, ap, ◌∙◌, ap₂, arith, true, false, lt-ltb, le-ltb, ltb-true, ltb-false}
use Rattle.std.specs.Prelude.{nat_lt}
use Rattle.pauli.specs.Known.{Gathered}
use Rattle.pauli.specs.Roll.{Sparse, support, most_paulis}
use Rattle.pauli.specs.Support.{most_qubits}
use Rattle.pauli.specs.Told.{Told, refused}
use Rattle.pauli.proofs.roll.Told.{test_pass, test_refuses}
use Rattle.pauli_theory.specs.Standard.{support_of}
use Rattle.pauli_theory.proofs.Written.{support_of_lem}
use Rattle.pauli_group.specs.Inner.Sources.{sparse_in, listed, counted, joinable}
use Rattle.pauli_group.specs.declared.source.Source.{Source}
use Rattle.pauli_group.specs.Calls.{paulis}
use Rattle.pauli_group.proofs.group.GroupLaws.{paulis_append}
use Rattle.pauli_group.proofs.group.GroupedLaws.{list_length}
use Rattle.pauli_group.proofs.source.SourceLaws.{source_counted}

module _ (left right : Source) where
  abbrev both : List Sparse
  both = sparse_in left ++ sparse_in right

  counts : length (listed left) + length (listed right) ≡ counted left + counted right
  counts = ap₂ ◌+◌ (list_length _ _ (source_counted left)) (list_length _ _ (source_counted right))

  same_support : length (support_of (listed left ++ listed right)) ≡ length (support both)
  unfolding paulis
  same_support = ap length (ap support_of (sym (paulis_append (sparse_in left) (sparse_in right))) ∙ sym (support_of_lem both))

  pub too_many : {A : Type 0} (next : Told A) → most_paulis < counted left + counted right → joinable (listed left) (listed right) next ≡ refused 2 0
  unfolding joinable
  too_many next h = test_refuses _ 2 0 _ (ap (nat_lt most_paulis) counts ∙ lt-ltb _ _ h)

  -- known is the joined support, as far as it was gathered
  module _ (known : List ℕ) (g : Gathered (support both) known) where
    pub joined_qubits : nat_lt most_qubits (length known) ≡ false → length (support both) ≤ most_qubits
    joined_qubits h = let few = ltb-false _ _ h in omega (arith, g.count)

    module _ {A : Type 0} (next : Told A) (few : counted left + counted right ≤ most_paulis) where
      pub too_wide : nat_lt most_qubits (length known) ≡ true → joinable (listed left) (listed right) next ≡ refused 7 0
      unfolding joinable
      too_wide h =
          let many = ltb-true _ _ h in
          test_pass _ 2 0 _ (ap (nat_lt most_paulis) counts ∙ le-ltb _ _ few)
          ∙ test_refuses _ 7 0 _ (ap (nat_lt most_qubits) same_support ∙ lt-ltb _ _ (omega (arith, g.count)))

      pub can_join : nat_lt most_qubits (length known) ≡ false → joinable (listed left) (listed right) next ≡ next
      unfolding joinable
      can_join h =
          test_pass _ 2 0 _ (ap (nat_lt most_paulis) counts ∙ le-ltb _ _ few)
          ∙ test_pass _ 7 0 _ (ap (nat_lt most_qubits) same_support ∙ le-ltb _ _ (joined_qubits h))
