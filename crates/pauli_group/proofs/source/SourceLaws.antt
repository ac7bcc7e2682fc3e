-- Laws of lists by where they come from.
use Rattle.std.proofs.Common.{◌≡◌, ℕ, ◌≤◌, List, [], length, sym, ◌∙◌, subst, ⊎_elim, refl}
use Rattle.pauli.specs.Condense.{list_of}
use Rattle.pauli.specs.Known.{Gathered}
use Rattle.pauli.specs.Roll.{Sparse, most_paulis, numbers, support, count_of}
use Rattle.pauli.specs.Support.{Rising, most_qubits, insert_all}
use Rattle.pauli.specs.Told.{answer}
use Rattle.pauli.proofs.joined.JoinLaws.{accepted, accepted_few, own_few}
use Rattle.pauli.proofs.support.SupportLaws.{Inside, rising_ext, insert_all_rises, insert_all_keeps, insert_all_has, in_insert_all}
use Rattle.pauli_group.specs.Inner.Kept.{spread, KeptOver}
use Rattle.pauli_group.specs.Inner.Sources.{sparse_in, counted}
use Rattle.pauli_group.specs.declared.source.Source.{Source}
use Rattle.pauli_group.specs.declared.source.Source.TheVariants.{Rolled, Kept}
use Rattle.pauli_group.proofs.kept.KeptListLaws.{spread_length}

-- numbers put in one by one, or as the rising list of them
module _ (ns known : List ℕ) (rises : Rising 0 known) where
  through : Inside (insert_all ns known) (insert_all (insert_all ns []) known)
  through q m =
      ⊎_elim (λ i. insert_all_has (insert_all ns []) known q (insert_all_has ns [] q i))
      (insert_all_keeps (insert_all ns []) known q) (in_insert_all ns known q m)

  back : Inside (insert_all (insert_all ns []) known) (insert_all ns known)
  back q m =
      ⊎_elim (λ i. ⊎_elim (insert_all_has ns known q) (λ j. elim j [ ]) (in_insert_all ns [] q i))
      (insert_all_keeps ns known q) (in_insert_all (insert_all ns []) known q m)

  insert_rising : insert_all ns known ≡ insert_all (insert_all ns []) known
  insert_rising =
      rising_ext 0 0 (insert_all ns known) (insert_all (insert_all ns []) known) (insert_all_rises ns known rises)
      (insert_all_rises (insert_all ns []) known rises) through back

pub kept_gathered : (own : List ℕ) (words : List (List ℕ)) → KeptOver own words → (known qs : List ℕ) → Rising 0 known
    → Gathered (insert_all own known) qs → Gathered (insert_all (numbers (spread own words)) known) qs
unfolding support
kept_gathered own words k known qs rises g =
    let ns = numbers (spread own words) in
    subst (λ (S : List ℕ). Gathered S qs) (sym (insert_rising ns known rises ∙ rw k.support_is refl)) g

-- n Paulis within the limits of a list
pub record Counted (ps : List Sparse) (n : ℕ) : Type 0 where
  pub size : length ps ≡ n
  pub few : n ≤ 128
  pub qubits : length (support ps) ≤ most_qubits

pub roll_counted : (b : List ℕ) (n : ℕ) → count_of b ≡ answer n → Counted (list_of b) n
unfolding most_paulis
roll_counted b n e = record { size = (accepted b n e).1; few = accepted_few b n e; qubits = own_few b n e }

pub source_counted : (s : Source) → Counted (sparse_in s) (counted s)
unfolding most_qubits
source_counted (Rolled r) = roll_counted r.bytes.now r.count r.accepted
source_counted (Kept k) = record {
  size = spread_length k.qubits.now k.paulis.now;
  few = k.kept.few;
  qubits = rw k.kept.support_is k.kept.places;
}
