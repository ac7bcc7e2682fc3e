-- The bit of column k is bit k % 64 of word k / 64.
use Rattle.binar.proofs.row.Scan.{bit_words}
use Rattle.binar.specs.Row.{bit}
use mathlib.Core.Path.{sym}
use Rattle.binar.proofs.row.index.Goals as goal

pub returns : goal.returns
unfolding bit
returns c = sym (bit_words c.args.w.now c.args.at c.args.k (λ q. (c.type_inv.w q).fits))
