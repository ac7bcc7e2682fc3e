-- Lists that are read to the further list's place.
use Rattle.std.proofs.Common.{◌≡◌, ℕ, ◌≤◌, List, map, length, sym, ◌∙◌, subst, arith}
use mathlib.Core.List.{map-map}
use Rattle.binar.proofs.Lists.{all_map, all_over}
use Rattle.pauli.specs.Condense.{condensed}
use Rattle.pauli.specs.Known.{Gathered}
use Rattle.pauli.specs.Pauli.{normal}
use Rattle.pauli.specs.PauliTheorems.{PauliOn}
use Rattle.pauli.specs.Roll.{Sparse, support}
use Rattle.pauli.specs.Sets.{pauli_of}
use Rattle.pauli.specs.Signed.{list_in}
use Rattle.pauli.specs.Support.{most_qubits, All}
use Rattle.pauli_theory.proofs.Rows.{support_on}
use Rattle.pauli_theory.proofs.Written.{support_of_lem}
use Rattle.pauli_group.specs.Calls.{paulis}
use Rattle.pauli_group.specs.Inner.Area.{further_at}
use Rattle.pauli_group.specs.Inner.Further.{FurtherHas}
use Rattle.pauli_group.specs.Inner.Lists.{over_places}
use Rattle.pauli_group.proofs.group.GroupLaws.{known_is, places_few}

module _ (ps : List Sparse) (known : List ℕ) (g : Gathered (support ps) known) (few : length (support ps) ≤ most_qubits) where
  by_value_on : All (PauliOn known) (map normal (paulis ps))
  unfolding paulis normal
  by_value_on =
      let on : All (PauliOn known) (paulis ps) = subst (λ (qs : List ℕ). All (PauliOn qs) (paulis ps)) (sym (known_is ps known g few ∙ support_of_lem ps)) (support_on (paulis ps)) in
      all_over (PauliOn known) normal (paulis ps) (all_map (λ p o. record { x = o.x; z = o.z }) (paulis ps) on)

  pub read_further : (w : List ℕ) (n : ℕ) → n ≤ 128 → list_in w further_at n ≡ map (over_places known) ps → FurtherHas known (map normal (paulis ps)) w n
  unfolding over_places paulis condensed normal
  read_further w n short list = record {
    rises = g.rises;
    places = places_few ps known g few;
    few = omega arith;
    on = by_value_on;
    list = list ∙ sym (map-map (condensed known) normal (map pauli_of ps) ∙ map-map (λ p. condensed known (normal p)) pauli_of ps);
  }
