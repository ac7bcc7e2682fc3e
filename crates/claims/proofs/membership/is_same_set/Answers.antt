-- The low words first, then the high ones.
use Rattle.std.proofs.Common.{arith}
use Rattle.pauli.specs.PlaceSet.{set_in}
use Rattle.claims.proofs.membership.ClaimLaws.{words_same, words_other}
use Rattle.claims.proofs.membership.is_same_set.Goals as goal

pub returns-then-s-t : goal.returns-then-s-t
unfolding set_in
returns-then-s-t c = words_same c.args.s.low c.args.s.high c.args.t.low c.args.t.high (omega arith) (omega arith) c.if-s-t.true

pub returns-else-s-t : goal.returns-else-s-t
unfolding set_in
returns-else-s-t c = words_other c.args.s.low c.args.s.high c.args.t.low c.args.t.high (omega arith) (omega arith) c.if-s-t.false
