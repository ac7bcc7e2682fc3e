-- The length is known before the first byte is written.
use Rattle.std.proofs.Common.{ap, ◌∙◌, arith}
use Rattle.pauli.proofs.write.Writers.{numbers_room, roll_short, roll_long}
use Rattle.pauli.specs.Refusals.{told_refusal}
use Rattle.pauli.proofs.write.write_roll.Goals as goal

pub returns-then-out-size : goal.returns-then-out-size
returns-then-out-size c = let all = roll_short c.args.list.now c.args.support.now c.args.out.now c.requires.2 c.numbers_in.result c.numbers_in.ensures.0 c.if-out-size.true in record { told = ap told_refusal c.into.ensures ∙ all.0; left = all.1 }

pub put_bodies-requires : goal.put_bodies-requires
put_bodies-requires c = (c.requires.1, rw (numbers_room c.args.list.now c.args.support.now c.args.out.now c.requires.2 c.numbers_in.result c.numbers_in.ensures.0) (omega (arith, c.put_table.auto.out, c.put_u16.auto.out)))

pub returns : goal.returns
returns c = let all = roll_long c.args.list.now c.args.support.now c.args.out.now c.requires.2 c.numbers_in.result c.numbers_in.ensures.0 c.if-out-size.false _ _ _ c.put_u16.ensures c.put_table.ensures c.put_bodies.ensures in record { told = all.0; left = all.1 }
