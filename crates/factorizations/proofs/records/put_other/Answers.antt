-- One store.
use Rattle.std.proofs.Common.{arith}
use Rattle.factorizations.proofs.records.RecordLaws.{other_length, other_put}
use Rattle.factorizations.proofs.records.put_other.Goals as goal

pub bounds-out-at : goal.bounds-out-at
bounds-out-at c = omega (arith, other_length)

pub returns : goal.returns
returns c = other_put _ _ c.requires
