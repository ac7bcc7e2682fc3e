-- By the exponent's word.
use Rattle.std.proofs.Common.{sym, arith}
use Rattle.pauli.specs.PlaceSet.{set_in}
use Rattle.factorizations.proofs.stored.StoredLaws.{result_member, result_other}
use Rattle.factorizations.proofs.stored.result_of.Goals as goal

pub returns-then-exponent-ge-NO_MEMBER : goal.returns-then-exponent-ge-NO_MEMBER
returns-then-exponent-ge-NO_MEMBER c = sym (result_other c.args.words.now 0 (omega arith))

pub returns : goal.returns
unfolding set_in
returns c = sym (result_member c.args.words.now 0 (omega arith))
