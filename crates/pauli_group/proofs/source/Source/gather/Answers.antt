use Rattle.pauli_group.proofs.source.SourceLaws.{kept_gathered}
use Rattle.pauli_group.proofs.source.Source.gather.Goals as goal

pub returns-in-Kept : goal.returns-in-Kept
returns-in-Kept c = rw c.in-Kept.is (kept_gathered _ _ c.in-Kept.list.kept _ _ c.gather_qubits.ensures.rises c.gather_qubits.ensures.gathered)
