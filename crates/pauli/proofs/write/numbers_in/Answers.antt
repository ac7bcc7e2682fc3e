use Rattle.std.proofs.Common.{sym, ◌∙◌, arith}
use Rattle.pauli.proofs.write.Writers.{loaded, numbers_start, numbers_step, numbers_end}
use Rattle.pauli.proofs.write.numbers_in.Goals as goal

pub loop-words-init : goal.loop-words-init
loop-words-init c = (omega arith, omega arith, numbers_start _)

pub loop-words-preserved : goal.loop-words-preserved
loop-words-preserved c = (omega arith, omega (arith, c.weight.ensures.1, c.weight-in-loop-words.ensures.1), c.loop-words.invariant.2 ∙ numbers_step c.args.list.now c.loop-words.words-index c.loop-words-test.true c.from_words-p.result (loaded c.from_words-p.result _ c.from_words-p.ensures) c.weight.result c.weight-in-loop-words.result c.loop-words.total c.weight.ensures.0 c.weight-in-loop-words.ensures.0)

pub returns : goal.returns
returns c = (sym (c.loop-words.invariant.2 ∙ numbers_end c.args.list.now c.loop-words.words-index c.loop-words.total (omega arith)), omega arith)
