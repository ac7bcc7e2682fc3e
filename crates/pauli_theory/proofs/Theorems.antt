-- The theorems of specs/Theorems.antt; each is proved in the module of its subject.
use Rattle.pauli_theory.specs.Theorems.{GroupLaws}
use Rattle.pauli_theory.proofs.Group.{generated_law, joined_law}
use Rattle.pauli_theory.proofs.StandardLaw.{standard_law}
use Rattle.pauli_theory.proofs.Phases.{phases_law}
use Rattle.pauli_theory.proofs.Membership.{membership_law}
use Rattle.pauli_theory.proofs.Canonical.{canonical_law}
use Rattle.pauli_theory.proofs.Rank.{rank_law}
use Rattle.pauli_theory.proofs.Order.{order_law, against_joined_law}
use Rattle.pauli_theory.proofs.Promise.{promise_law, promises_law}
use Rattle.pauli_theory.proofs.Stabilizer.{abelian_law}
use Rattle.pauli_theory.proofs.Size.{size_law}
use Rattle.pauli_theory.proofs.Modulo.{modulo_law}
use Rattle.pauli_theory.proofs.Quotient.{quotient_law}
use Rattle.pauli_theory.proofs.Symplectic.{symplectic_law}
use Rattle.pauli_theory.proofs.CommonRows.{common_rows_law}
use Rattle.pauli_theory.proofs.Common.{common_basis_law, common_phase_law}
use Rattle.pauli_theory.proofs.WholeCommonLaw.{whole_common_law}

pub group_laws : GroupLaws
group_laws = record {
  generated_law = generated_law;
  standard_law = standard_law;
  canonical_law = canonical_law;
  phases_law = phases_law;
  membership_law = membership_law;
  joined_law = joined_law;
  order_law = order_law;
  against_joined_law = against_joined_law;
  rank_law = rank_law;
  size_law = size_law;
  abelian_law = abelian_law;
  promise_law = promise_law;
  promises_law = promises_law;
  modulo_law = modulo_law;
  quotient_law = quotient_law;
  symplectic_law = symplectic_law;
  common_rows_law = common_rows_law;
  common_basis_law = common_basis_law;
  common_phase_law = common_phase_law;
  whole_common_law = whole_common_law;
}
