-- Invariant: the bytes from number k on are left to write.
use Rattle.std.proofs.Common.{◌+◌, ◌≤◌, length, drop}
use Rattle.pauli.proofs.write.Puts.{Left}
use Rattle.pauli.proofs.write.put_slice.Given as goal

abbrev pub invariant-loop-k : goal.invariant-loop-k
invariant-loop-k l = (l.k ≤ length l.bytes) × Left l.initial.out l.at l.bytes l.out (l.at + l.k) (drop l.k l.bytes)
