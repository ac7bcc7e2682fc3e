-- The bytes of the numbers are `total` fours.
use Rattle.std.proofs.Common.{◌+◌, ◌-◌, ◌*◌, ◌∙◌, ap, arith}
use Rattle.pauli.proofs.roll.BytesLaws.{chunk_numbers}
use Rattle.pauli.proofs.roll.Items.{length_stretch}
use Rattle.pauli.specs.Bytes.{u32s_in}
use Rattle.pauli.proofs.bytes.numbers_at.Goals as goal

pub returns : goal.returns
returns c =
    let b = c.args.b.now in
    let a = c.args.at in
    ap u32s_in c.as_chunks.ensures.front ∙ chunk_numbers b a c.args.total _ _ (omega arith) (omega (arith, length_stretch b a (a + 4 * c.args.total - a) (omega arith)))
