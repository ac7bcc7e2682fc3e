-- One law for each test.
use native.Mathlib.Omega.{arith}
use Rattle.closing_report.proofs.input.InputLaws.{input_long, input_short, input_cut, input_whole}
use Rattle.closing_report.proofs.input.split_input.Goals as goal

pub returns-then-n-gt-MOST_INPUT : goal.returns-then-n-gt-MOST_INPUT
returns-then-n-gt-MOST_INPUT c = record { rolls = input_long _ (omega arith); within = tt }

pub returns-then-n-lt4 : goal.returns-then-n-lt4
returns-then-n-lt4 c = record { rolls = input_short _ (omega arith) (omega arith); within = tt }

pub returns-then-n-end : goal.returns-then-n-end
returns-then-n-end c = record { rolls = input_cut _ (omega arith) (omega arith) _ c.u32_at.ensures (omega arith); within = tt }

pub returns : goal.returns
returns c = record { rolls = input_whole _ (omega arith) (omega arith) _ c.u32_at.ensures (omega arith); within = (omega arith, omega arith) }
