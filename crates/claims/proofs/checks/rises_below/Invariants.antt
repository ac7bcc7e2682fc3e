-- Invariant: the indexes rise below the count if those that are left do, from the one after the last.
use Rattle.std.proofs.Common.{◌≡◌, drop}
use Rattle.pauli_theory.specs.Claims.{rises_below}
use Rattle.claims.proofs.checks.rises_below.Given as goal

abbrev pub invariant-loop-index : goal.invariant-loop-index
invariant-loop-index l = rises_below 0 l.count l.indexes ≡ rises_below l.least l.count (drop l.index-index l.indexes)
