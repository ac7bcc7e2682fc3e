use Rattle.pauli_group.proofs.whole.WholeLaws.{kept_own, kept_nothing, kept_paired}
use Rattle.pauli_group.proofs.whole.kept_of.Goals as goal

pub returns-in-Some : goal.returns-in-Some
returns-in-Some c = kept_own _ _ c.args.noted _ _ c.in-Some.is c.shared.ensures _

pub returns-in-Some-dropped : goal.returns-in-Some-dropped
returns-in-Some-dropped c =
    kept_paired _ _ c.args.noted _ c.in-None.is c.shared.ensures _ _ c.in-Some-dropped.is _ _ c.shared-in-Some-dropped.ensures c.times.ensures

pub returns-in-None-dropped : goal.returns-in-None-dropped
returns-in-None-dropped c = kept_nothing _ _ c.args.noted _ c.in-None.is c.shared.ensures _ c.in-None-dropped.is
