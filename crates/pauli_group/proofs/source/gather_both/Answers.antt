use Rattle.pauli.proofs.joined.JoinLaws.{both_gathered}
use Rattle.pauli_group.proofs.source.SourceLaws.{source_counted}
use Rattle.pauli_group.proofs.source.gather_both.Goals as goal

pub returns : goal.returns
returns c = both_gathered _ _ (source_counted c.args.left).qubits _ (rw c.new.ensures at c.gather.ensures) _ c.gather-2.ensures
