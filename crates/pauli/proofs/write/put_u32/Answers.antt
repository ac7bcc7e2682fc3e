-- The bytes of the number are copied.
use Rattle.std.proofs.Common.{◌∙◌, arith}
use Rattle.pauli.proofs.write.Puts.{put_part}
use Rattle.pauli.specs.Bytes.{le32}
use Rattle.pauli.proofs.write.put_u32.Goals as goal

pub returns : goal.returns
unfolding le32
returns c = put_part _ _ (le32 c.args.number) _ _ (c.copy_from_slice.ensures.after ∙ c.to_le_bytes.ensures) (omega arith)
