-- Two rolls joined: the roll that is written, and the list that is read back from it.
use Rattle.std.proofs.Common.{◌≡◌, ℕ, ◌+◌, ◌≤◌, ltb, List, ◌++◌, map, length, sym, ap, ◌∙◌, arith, length-append, ltb-false}
use lib.ListN.{length-map}
use Rattle.binar.proofs.Lists.{all_join, all_map, all_over}
use Rattle.pauli.specs.Told.{answer, refuse_if, and_then, map_told}
use Rattle.pauli.specs.Roll.{most_paulis, Sparse, support, read, write, by_value}
use Rattle.pauli.specs.Support.{most_qubits, All}
use Rattle.pauli.specs.RollTheorems.{Allowed, Within}
use Rattle.pauli.specs.JoinCalls.{read_both, few_qubits, joined_of, join_of}
use Rattle.pauli.specs.JoinTheorems.{JoinLaw, JoinedLaw}
use Rattle.pauli.proofs.roll.Checks.{AllowedSets}
use Rattle.pauli.proofs.roll.ListSupport.{support_by_value}
use Rattle.pauli.proofs.roll.RollLaws.{read_law, answer_parts}
use Rattle.pauli.proofs.roll.Told.{test_passed, map_test}

module _ (ps : List Sparse) (count : length ps ≤ most_paulis) (sets : All AllowedSets ps) (qubits : length (support ps) ≤ most_qubits) where
  -- by value, a list within the limits is one whose exponents are bytes too
  pub value_within : Within (map by_value ps)
  unfolding by_value
  value_within = record {
    count = rw length-map count;
    allowed = all_over Allowed by_value ps (all_map (λ p a. record { byte = omega arith; x = a.0; z = a.1 }) ps sets);
    qubits = rw support_by_value qubits;
  }

  -- it is read back from its roll
  pub written_read : read (write ps) ≡ answer (map by_value ps)
  unfolding write
  written_read = read_law.accepts (map by_value ps) value_within

module _ (l r : List ℕ) (ps qs : List Sparse) (el : read l ≡ answer ps) (er : read r ≡ answer qs) where
  -- the limits, in turn
  pub join_is : join_of l r ≡ refuse_if (ltb most_paulis (length ps + length qs)) 2 0 (refuse_if (ltb most_qubits (length (support (ps ++ qs)))) 7 0 (answer (write (ps ++ qs))))
  unfolding join_of joined_of read_both and_then few_qubits map_told
  join_is = rw (el, er) (simp map_test)

  allowed : All AllowedSets (ps ++ qs)
  allowed = all_join AllowedSets ps qs (answer_parts l ps el).sets (answer_parts r qs er).sets

  pub joined : (bs : List ℕ) → join_of l r ≡ answer bs → JoinLaw ps qs bs
  joined bs e =
      let (few, h) = test_passed _ 2 0 _ bs (sym join_is ∙ e) in
      let (qubits, k) = test_passed _ 7 0 _ bs h in
      let same : bs ≡ write (ps ++ qs) = cc in
      let count : length (ps ++ qs) ≤ most_paulis = rw length-append (ltb-false most_paulis (length ps + length qs) few) in
      record {
        written = same;
        read_back = ap read same ∙ written_read (ps ++ qs) count allowed (ltb-false most_qubits (length (support (ps ++ qs))) qubits);
      }

pub joined_law : JoinedLaw
joined_law l r ps qs bs el er e = joined l r ps qs el er bs e
