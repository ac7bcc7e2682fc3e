-- The number of words against 4,096.
use Rattle.std.proofs.Common.{sym, ap, ◌∙◌}
use Rattle.pauli.specs.Refusals.{told_refusal}
use Rattle.pauli_group.proofs.checks.Room.{room_none, room_enough}
use Rattle.pauli_group.proofs.checks.check_area.Goals as goal

pub returns-then-words-lt-WORK_WORDS-clause-told : goal.returns-then-words-lt-WORK_WORDS-clause-told
returns-then-words-lt-WORK_WORDS-clause-told c = ap told_refusal c.into.ensures ∙ sym (room_none _ _ c.if-words-lt-WORK_WORDS.true)

pub returns-clause-told : goal.returns-clause-told
returns-clause-told c = sym (room_enough _ _ c.if-words-lt-WORK_WORDS.false)
