-- One case for each word.
use Rattle.std.proofs.Common.{refl, arith}
use Rattle.pauli_theory.specs.Standard.{if_zero}
use Rattle.closing_report.specs.Decimal.{ascii}
use Rattle.closing_report.specs.Lines.{abelian_text}
use Rattle.closing_report.proofs.lines.abelian_word.Goals as goal

pub returns-then-clash : goal.returns-then-clash
unfolding ascii abelian_text if_zero
returns-then-clash c = rw c.if-clash.true (refl, omega arith)

pub returns : goal.returns
unfolding ascii abelian_text if_zero
returns c = rw c.if-clash.false (refl, omega arith)
