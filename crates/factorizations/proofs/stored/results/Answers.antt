-- The Paulis that the words would be.
use Rattle.pauli_group.proofs.area.AreaLaws.{span_list}
use Rattle.factorizations.proofs.stored.StoredLaws.{results_stored}
use Rattle.factorizations.proofs.stored.results.Goals as goal

pub returns-clause-list : goal.returns-clause-list
returns-clause-list c = results_stored _ _ _ _ (span_list _ c.paulis.ensures.list c.at.ensures)
