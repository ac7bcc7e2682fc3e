-- Invariant: the first i Paulis are cleared, those behind stand as they were.
use Rattle.std.proofs.Common.{◌*◌}
use Rattle.pauli.specs.Pauli.{normal}
use Rattle.pauli.specs.Signed.{held, list_in}
use Rattle.pauli_theory.specs.Symplectic.{cleared}
use Rattle.pauli_group.specs.Inner.Area.{Outside}
use Rattle.pauli_group.proofs.list.ListLaws.{StoredUpTo}
use Rattle.pauli_group.proofs.symplectic.clear_pair.Given as goal

abbrev pub invariant-loop-i : goal.invariant-loop-i
invariant-loop-i l = StoredUpTo normal (cleared l.k (held l.x) (held l.z) (list_in l.initial.w l.list.base l.list.count)) l.list.base l.list.count l.initial.w l.i l.w × Outside l.list.base (5 * l.i) l.initial.w l.w
