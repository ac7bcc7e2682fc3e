-- One case for each of the three sets of phases.
use Rattle.std.proofs.Common.{refl, arith}
use Rattle.closing_report.specs.Decimal.{ascii}
use Rattle.closing_report.specs.Lines.{phases_text}
use Rattle.closing_report.proofs.lines.phases_word.Goals as goal

pub returns-in-Zero : goal.returns-in-Zero
unfolding ascii phases_text
returns-in-Zero c = rw c.in-Zero.is (refl, omega arith)

pub returns-in-ZeroTwo : goal.returns-in-ZeroTwo
unfolding ascii phases_text
returns-in-ZeroTwo c = rw c.in-ZeroTwo.is (refl, omega arith)

pub returns-in-All : goal.returns-in-All
unfolding ascii phases_text
returns-in-All c = rw c.in-All.is (refl, omega arith)
