use lib.Bits.{bit_xor}
use mathlib.Core.Path.{ap}
use native.Mathlib.Omega.{arith}
use Rattle.binar.proofs.row.Bits.{masked}
use Rattle.binar.specs.Row.{◌⊕◌}
use Rattle.binar.proofs.sum.added_word.Goals as goal

pub returns : goal.returns
unfolding ◌⊕◌
returns c = ap (bit_xor c.args.x) (masked _ _ c.requires (omega arith))
