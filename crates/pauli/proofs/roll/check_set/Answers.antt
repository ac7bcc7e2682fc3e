use Rattle.std.proofs.Common.{sym, ap, ◌∙◌, arith}
use Rattle.pauli.proofs.roll.BytesLaws.{u32_bytes}
use Rattle.pauli.proofs.roll.ReaderLaws.{set_falls, set_rises, set_end}
use Rattle.pauli.proofs.support.Walk.{numbers_start}
use Rattle.pauli.specs.Roll.{check_set}
use Rattle.pauli.proofs.roll.check_set.Goals as goal

pub loop-bytes-init : goal.loop-bytes-init
loop-bytes-init c = (omega arith, ap (check_set c.args.i 0) (numbers_start c.args.numbers.now))

pub returns-then-number-least : goal.returns-then-number-least
returns-then-number-least c = sym (c.loop-bytes.invariant.1 ∙ set_falls _ _ _ c.loop-bytes-test.true _ _ (u32_bytes _ _ (omega arith) c.from_le_bytes-number.ensures) c.if-number-least.true)

pub loop-bytes-preserved : goal.loop-bytes-preserved
loop-bytes-preserved c = (omega arith, c.loop-bytes.invariant.1 ∙ set_rises _ _ _ c.loop-bytes-test.true _ _ (u32_bytes _ _ (omega arith) c.from_le_bytes-number.ensures) c.if-number-least.false)

pub returns : goal.returns
returns c = sym (c.loop-bytes.invariant.1 ∙ set_end _ _ _ _ c.loop-bytes-test.false)
