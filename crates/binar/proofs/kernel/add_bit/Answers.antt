use Rattle.std.proofs.Common.{rules}
use Rattle.binar.proofs.row.Slice.{AreWords}
use Rattle.binar.proofs.kernel.Bits.{bit_added}
use Rattle.binar.proofs.kernel.add_bit.Goals as goal

pub returns : goal.returns
returns c =
    let known : AreWords c.args.w.now = λ q. search rules in
    bit_added _ _ _ _ _ known c.requires.0 c.requires.1 c.requires.2
