-- Invariant: two of the list anticommute where two of those that are left do.
use Rattle.std.proofs.Common.{◌≡◌, length}
use Rattle.pauli.specs.Signed.{paulis_in}
use Rattle.pauli_theory.specs.Standard.{some_anticommute}
use Rattle.pauli_group.proofs.scan.some_anticommute.Given as goal

abbrev pub invariant-loop-words : goal.invariant-loop-words
invariant-loop-words l = some_anticommute (paulis_in l.list) ≡ some_anticommute (paulis_in l.rest)

abbrev pub decreases-loop-words : goal.decreases-loop-words
decreases-loop-words l = length l.rest
