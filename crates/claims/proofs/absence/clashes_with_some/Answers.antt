use Rattle.std.proofs.Common.{sym, ◌∙◌}
use Rattle.std.proofs.lemmas.Bool.{eqb-true, eqb-false}
use Rattle.pauli.specs.Condense.{list_of}
use Rattle.pauli_group.specs.Calls.{paulis}
use Rattle.pauli_group.proofs.group.GroupedLaws.{list_length}
use Rattle.pauli_group.proofs.source.SourceLaws.{roll_counted}
use Rattle.claims.proofs.absence.WitnessLaws.{witness_room, roll_readable, roll_pauli, witness_clash, clash_none, clash_here, clash_next}
use Rattle.claims.proofs.absence.clashes_with_some.Goals as goal

pub restrict_from-w-requires : goal.restrict_from-w-requires
restrict_from-w-requires c =
    let room = witness_room _ _ c.args.roll.accepted _ (rw (c.new-known.ensures, ← c.qubits.ensures.list) at c.gather.ensures) in
    (c.requires, room.0, room.1)

pub condense_from-p-requires : goal.condense_from-p-requires
condense_from-p-requires c =
    let gathered = rw (c.new-known.ensures, ← c.qubits-in-loop-k.ensures.list) at c.gather.ensures in
    (roll_readable _ _ c.args.roll.accepted _ gathered _ c.loop-k-test.true, (witness_room _ _ c.args.roll.accepted _ gathered).0)

pub returns-then-times : goal.returns-then-times
returns-then-times c =
    let b = c.args.roll.bytes.now in
    let n = c.args.roll.count in
    let clash = witness_clash b n c.args.roll.accepted _ (rw c.new-known.ensures at c.gather.ensures) _ c.loop-k-test.true _ _ _
    (rw c.qubits-in-loop-k.ensures.list at c.condense_from-p.ensures) (rw c.qubits.ensures.list at c.restrict_from-w.ensures) in
    clash_here _ (paulis (list_of b)) _ c.loop-k.invariant (rw (list_length _ _ (roll_counted b n c.args.roll.accepted)) c.loop-k-test.true) _
    (roll_pauli b n c.args.roll.accepted _ (rw c.new-known.ensures at c.gather.ensures) _ c.loop-k-test.true) (sym clash ∙ eqb-true _ 1 (sym c.times.ensures.anticommute ∙ c.if-times.true))

pub loop-k-preserved : goal.loop-k-preserved
loop-k-preserved c =
    let b = c.args.roll.bytes.now in
    let n = c.args.roll.count in
    let clash = witness_clash b n c.args.roll.accepted _ (rw c.new-known.ensures at c.gather.ensures) _ c.loop-k-test.true _ _ _
    (rw c.qubits-in-loop-k.ensures.list at c.condense_from-p.ensures) (rw c.qubits.ensures.list at c.restrict_from-w.ensures) in
    clash_next _ (paulis (list_of b)) _ c.loop-k.invariant (rw (list_length _ _ (roll_counted b n c.args.roll.accepted)) c.loop-k-test.true) _
    (roll_pauli b n c.args.roll.accepted _ (rw c.new-known.ensures at c.gather.ensures) _ c.loop-k-test.true) (λ e. eqb-false _ 1 (sym c.times.ensures.anticommute ∙ c.if-times.false) (clash ∙ e))

pub returns : goal.returns
returns c =
    clash_none _ (paulis (list_of c.args.roll.bytes.now)) _ c.loop-k.invariant
    (rw (list_length _ _ (roll_counted c.args.roll.bytes.now c.args.roll.count c.args.roll.accepted)) c.loop-k-test.false)
