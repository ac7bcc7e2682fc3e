-- Invariant: the Paulis of the first i rows are stored.
use Rattle.std.proofs.Common.{length, drop}
use Rattle.binar.specs.Words.{matrix}
use Rattle.pauli_theory.specs.Inner.ModuloPlaces.{moved_pauli}
use Rattle.pauli_group.proofs.list.ListLaws.{StoredUpTo}
use Rattle.centralizer.specs.Stacked.{kernel_at, result_at, places_of_row}
use Rattle.centralizer.proofs.kernel.put_kernel.Given as goal

abbrev pub invariant-loop-i : goal.invariant-loop-i
invariant-loop-i l =
    StoredUpTo (λ u. moved_pauli l.own l.named (places_of_row (length l.own) u)) (matrix 4 l.n (drop kernel_at l.initial.w))
    result_at l.n l.initial.w l.i l.w
