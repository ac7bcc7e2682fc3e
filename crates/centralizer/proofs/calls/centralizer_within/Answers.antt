-- A refused roll is told on; else it is the centralizer of the roll's list.
use Rattle.std.proofs.Common.{rules, sym, ap}
use Rattle.pauli.specs.Refusals.{told_of}
use Rattle.pauli.proofs.joined.JoinLaws.{accepted, count_refused}
use Rattle.pauli.proofs.refusal.HandedOn.{handed_on}
use Rattle.pauli.proofs.joined.JoinLaws.{own_few}
use Rattle.pauli_group.proofs.group.GroupLaws.{own_gathered, known_is}
use Rattle.centralizer.proofs.calls.CheckedLaws.{numbers_low, within_refused, within_called}
use Rattle.centralizer.proofs.calls.centralizer_within.Goals as goal

pub returns-in_err-roll : goal.returns-in_err-roll
returns-in_err-roll c =
    let a = c.args in
    within_refused a.b.now a.work.now a.out.now _ (ap told_of (handed_on _ _ c.from_residual.ensures.1)) (count_refused a.b.now _ _ (sym c.in_err-roll.ensures.count)) a.named.now (numbers_low a.named.now (search rules))

pub centralize-requires : goal.centralize-requires
centralize-requires c =
    let b = c.in_ok-roll.roll.bytes.now in
    let g = own_gathered _ _ (rw (c.new-known.ensures, ← c.qubits.ensures.list) at c.gather.ensures) in
    known_is _ _ g (own_few b c.in_ok-roll.roll.count c.in_ok-roll.roll.accepted)

pub returns : goal.returns
returns c =
    let a = c.args in
    let wrote = rw c.in_ok-roll.ensures.bytes at c.centralize.ensures in
    within_called a.b.now a.work.now a.out.now _ _ (accepted a.b.now _ (sym c.in_ok-roll.ensures.count)).0 _ _ a.named.now (numbers_low a.named.now (search rules)) wrote.told wrote.left wrote.area
