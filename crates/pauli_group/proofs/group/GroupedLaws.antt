-- Laws of a group in the area.
use Rattle.std.proofs.Common.{◌≡◌, ℕ, ◌≤◌, List, length, ap, ◌∙◌, arith}
use lib.ListN.{length-map}
use Rattle.pauli.specs.Pauli.{Pauli}
use Rattle.pauli.specs.Roll.{Sparse}
use Rattle.pauli.specs.Support.{most_qubits}
use Rattle.pauli.specs.Sets.{pauli_of}
use Rattle.pauli.specs.Signed.{list_in}
use Rattle.pauli.specs.Writing.{OnPlaces}
use Rattle.pauli_theory.specs.Standard.{support_of, standard, rank}
use Rattle.pauli_theory.proofs.ByProducts.{rank_le}
use Rattle.pauli_theory.proofs.OverPlaces.{placed, places_standard_on}
use Rattle.pauli_theory.proofs.Written.{support_of_lem}
use Rattle.pauli_group.proofs.group.GroupLaws.{standards_few}
use Rattle.pauli_group.proofs.source.SourceLaws.{Counted}
use Rattle.pauli_group.specs.Inner.Area.{standard_at}
use Rattle.pauli_group.specs.Inner.Groups.{over_support, Grouped}
use Rattle.pauli_group.specs.Calls.{paulis}

-- ---- a list within the limits

module _ (ps : List Sparse) (n : ℕ) (e : Counted ps n) where
  abbrev gs : List Pauli
  gs = paulis ps

  pub list_length : length gs ≡ n
  unfolding paulis
  list_length = length-map ps pauli_of ∙ e.size

  pub list_few : length gs ≤ 128
  list_few = omega (arith, list_length, e.few)

  pub list_rank : rank gs ≤ 128
  list_rank = omega (arith, rank_le gs, list_few)

  pub list_support : length (support_of gs) ≤ 128
  unfolding paulis most_qubits
  list_support = omega (arith, ap length (support_of_lem ps), e.qubits)

  -- its group, in the area x
  module _ {known x : List ℕ} {places r total : ℕ} (g : Grouped gs known x places r total) where
    pub group_total : total ≤ 128
    group_total = standards_few g list_few

    pub group_places : places ≤ 128
    group_places = omega (arith, g.size, list_support)

    standards_are : list_in x standard_at total ≡ standard (placed gs)
    unfolding over_support
    standards_are = g.standards

    pub group_on : OnPlaces places (list_in x standard_at total)
    group_on = rw (g.size, standards_are) (places_standard_on gs)
