use Rattle.std.proofs.Common.{◌∙◌}
use Rattle.combined_lists.proofs.combine.CombineLaws.{line_cleared_whole}
use Rattle.combined_lists.proofs.combine.write_line.Goals as goal

pub returns-clause-area : goal.returns-clause-area
returns-clause-area c = λ work long. c.clear_bits.ensures ∙ line_cleared_whole _ work c.work_out-wrote.array_long long
