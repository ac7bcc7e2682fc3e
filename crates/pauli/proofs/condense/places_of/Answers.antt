use Rattle.std.proofs.Common.{arith}
use Rattle.pauli.proofs.condense.CondenseLaws.{bytes_start, bytes_end, bytes_from, bytes_in, bytes_next}
use Rattle.pauli.proofs.roll.BytesLaws.{u32_bytes}
use Rattle.pauli.specs.Bytes.{u32s_in}
use Rattle.pauli.specs.Sets.{set_of, condense}
use Rattle.pauli.specs.PlaceSet.{set_in}
use Rattle.pauli.proofs.condense.places_of.Goals as goal

pub loop-bytes-init : goal.loop-bytes-init
loop-bytes-init c = (omega arith, bytes_start _ _ _ c.requires.1 c.none-set.ensures)

pub place_from-place-requires : goal.place_from-place-requires
place_from-place-requires c = (bytes_from c.args.numbers.now c.args.support.now (condense c.args.support.now (set_of (u32s_in c.args.numbers.now))) (set_in c.loop-bytes.set) c.loop-bytes.from.0 c.loop-bytes.bytes-index c.loop-bytes.invariant.1 c.loop-bytes-test.true c.from_le_bytes.result (u32_bytes _ _ (omega arith) c.from_le_bytes.ensures), c.loop-bytes.invariant.1.support)

pub with_place-set-requires : goal.with_place-set-requires
with_place-set-requires c = omega (arith, c.place_from-place.ensures, bytes_in c.args.numbers.now c.args.support.now (condense c.args.support.now (set_of (u32s_in c.args.numbers.now))) (set_in c.loop-bytes.set) c.loop-bytes.from.0 c.loop-bytes.bytes-index c.loop-bytes.invariant.1 c.loop-bytes-test.true c.from_le_bytes.result (u32_bytes _ _ (omega arith) c.from_le_bytes.ensures), c.requires.0)

pub overflow_add-from : goal.overflow_add-from
overflow_add-from c = omega (arith, c.place_from-place.ensures, bytes_in c.args.numbers.now c.args.support.now (condense c.args.support.now (set_of (u32s_in c.args.numbers.now))) (set_in c.loop-bytes.set) c.loop-bytes.from.0 c.loop-bytes.bytes-index c.loop-bytes.invariant.1 c.loop-bytes-test.true c.from_le_bytes.result (u32_bytes _ _ (omega arith) c.from_le_bytes.ensures), c.requires.0)

pub loop-bytes-preserved : goal.loop-bytes-preserved
loop-bytes-preserved c = (omega arith, bytes_next c.args.numbers.now c.args.support.now (condense c.args.support.now (set_of (u32s_in c.args.numbers.now))) (set_in c.loop-bytes.set) c.loop-bytes.from.0 c.loop-bytes.bytes-index c.loop-bytes.invariant.1 c.loop-bytes-test.true c.from_le_bytes.result (u32_bytes _ _ (omega arith) c.from_le_bytes.ensures) c.place_from-place.result.0 (set_in c.with_place-set.result) c.place_from-place.ensures c.with_place-set.ensures)

pub returns : goal.returns
returns c = bytes_end c.args.numbers.now c.args.support.now (condense c.args.support.now (set_of (u32s_in c.args.numbers.now))) _ _ c.loop-bytes.bytes-index c.loop-bytes.invariant.1 (omega arith)
