use Rattle.pauli_group.proofs.whole.WholeLaws.{first_same, first_kept, first_dropped}
use Rattle.pauli_group.proofs.whole.next_dropped.Goals as goal

pub returns-in-Some : goal.returns-in-Some
returns-in-Some c = first_same _ _ c.in-Some.is _

pub returns-in-Some-shared : goal.returns-in-Some-shared
returns-in-Some-shared c = first_kept _ _ c.args.noted _ _ c.in-Some-shared.is c.shared.ensures _ c.in-None.is

pub returns-in-None-shared : goal.returns-in-None-shared
returns-in-None-shared c = first_dropped _ _ c.args.noted _ c.in-None-shared.is c.shared.ensures _ c.in-None.is
