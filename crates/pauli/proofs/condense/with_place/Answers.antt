-- The place is in the low word or in the high one.
use Rattle.pauli.proofs.condense.CondenseLaws.{with_low, with_high}
use Rattle.pauli.specs.PlaceSet.{set_in}
use Rattle.std.proofs.Common.{arith}
use Rattle.pauli.proofs.condense.with_place.Goals as goal

pub returns-then-i-lt64 : goal.returns-then-i-lt64
unfolding set_in
returns-then-i-lt64 c = with_low c.args.set (record { low = omega arith; high = omega arith }) c.args.p.0 c.if-i-lt64.true

pub returns : goal.returns
unfolding set_in
returns c = with_high c.args.set (record { low = omega arith; high = omega arith }) c.args.p.0 c.if-i-lt64.false c.requires
