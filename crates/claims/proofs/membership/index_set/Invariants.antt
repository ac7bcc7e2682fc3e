-- Invariant: the indexes that are left, put in, make the whole set.
use Rattle.std.proofs.Common.{◌≡◌, bit_or, drop}
use Rattle.pauli.specs.PlaceSet.{set_in}
use Rattle.pauli.specs.Sets.{set_of}
use Rattle.claims.proofs.membership.index_set.Given as goal

abbrev pub invariant-loop-index : goal.invariant-loop-index
invariant-loop-index l = bit_or (set_in l.set) (set_of (drop l.index-index l.indexes)) ≡ set_of l.indexes
