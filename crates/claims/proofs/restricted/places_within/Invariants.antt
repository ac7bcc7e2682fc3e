-- Invariant: of the numbers that are left, those in the support are to be placed.
use Rattle.pauli.specs.Bytes.{u32s_in}
use Rattle.pauli.specs.PlaceSet.{set_in}
use Rattle.pauli.specs.Sets.{set_of, condense}
use Rattle.pauli.proofs.support.Walk.{numbers_from}
use Rattle.claims.proofs.restricted.WithinLaws.{Restricting}
use Rattle.claims.proofs.restricted.places_within.Given as goal

abbrev pub invariant-loop-bytes : goal.invariant-loop-bytes
invariant-loop-bytes l = Restricting (numbers_from l.numbers l.bytes-index) l.support (condense l.support (set_of (u32s_in l.numbers))) (set_in l.set) l.from.0
