use Rattle.std.proofs.Common.{sym, arith}
use Rattle.std.proofs.Math.Logic.{inl, inr}
use Rattle.combined_lists.proofs.sent.SentLaws.{other_sent, roll_sent}
use Rattle.combined_lists.proofs.sent.is_sent.Goals as goal

pub returns-in-65-to-68 : goal.returns-in-65-to-68
returns-in-65-to-68 c = roll_sent c.args.rolls.now c.args.b _ _ c.told-rolls (omega arith) (omega arith) c.is_empty.ensures

pub returns-in_default : goal.returns-in_default
returns-in_default c = sym (other_sent _ c.args.b (inl (omega arith)))

pub returns-in_default-2 : goal.returns-in_default-2
returns-in_default-2 c = sym (other_sent _ c.args.b (inr (omega arith)))
