-- Invariant: the numbers that are left are to be placed.
use Rattle.std.proofs.Common.{◌≤◌, length}
use Rattle.pauli.proofs.condense.CondenseLaws.{Placing}
use Rattle.pauli.proofs.support.Walk.{numbers_from}
use Rattle.pauli.specs.Bytes.{u32s_in}
use Rattle.pauli.specs.Sets.{set_of, condense}
use Rattle.pauli.specs.PlaceSet.{set_in}
use Rattle.pauli.proofs.condense.places_of.Given as goal

abbrev pub invariant-loop-bytes : goal.invariant-loop-bytes
invariant-loop-bytes l = (l.bytes-index ≤ length l.numbers) × Placing (numbers_from l.numbers l.bytes-index) l.support (condense l.support (set_of (u32s_in l.numbers))) (set_in l.set) l.from.0
