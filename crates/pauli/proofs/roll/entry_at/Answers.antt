-- Field by field.
use Rattle.std.proofs.Common.{refl}
use Rattle.pauli.proofs.roll.ReaderLaws.{entry_path}
use Rattle.pauli.proofs.roll.entry_at.Goals as goal

pub returns : goal.returns
returns c = (entry_path _ _ _ refl refl c.u32_at-start.ensures c.u16_at-xcount.ensures.0 c.u16_at-zcount.ensures.0, c.u16_at-xcount.ensures.1, c.u16_at-zcount.ensures.1)
