-- Invariant: the exponents of the first i Paulis are noted.
use Rattle.std.proofs.Common.{◌≡◌, ◌<◌, ◌≤◌, length}
use Rattle.std.specs.List.{AllWithin}
use Rattle.pauli_group.specs.Inner.Area.{target_at, stride_of, Outside}
use Rattle.pauli_group.specs.Inner.Shared.{exponent_over, NotedBy}
use Rattle.pauli_group.proofs.common.note_exponents.Given as goal

abbrev pub invariant-loop-i : goal.invariant-loop-i
invariant-loop-i l =
    (l.i ≤ l.m)
    × (length l.by ≡ 128)
    × NotedBy (exponent_over l.joint l.own l.group.count l.group.places l.initial.w) l.by l.i l.initial.w
    × AllWithin (λ e. e < 4) l.by 0 128
    × Outside target_at (stride_of l.group.count) l.initial.w l.w
