use Rattle.std.proofs.Common.{ap, ◌∙◌, eqb, ℕ}
use Rattle.claims.proofs.absence.WitnessLaws.{witness_room, roll_readable, witness_clash}
use Rattle.claims.proofs.absence.clashes_with.Goals as goal

pub restrict_from-w-requires : goal.restrict_from-w-requires
restrict_from-w-requires c =
    let room = witness_room _ _ c.args.roll.accepted _ (rw (c.new-known.ensures, ← c.qubits.ensures.list) at c.gather.ensures) in
    (c.requires.0, room.0, room.1)

pub condense_from-p-requires : goal.condense_from-p-requires
condense_from-p-requires c =
    let gathered = rw (c.new-known.ensures, ← c.qubits-2.ensures.list) at c.gather.ensures in
    (roll_readable _ _ c.args.roll.accepted _ gathered _ c.requires.1, (witness_room _ _ c.args.roll.accepted _ gathered).0)

pub returns : goal.returns
returns c =
    let clash = witness_clash _ _ c.args.roll.accepted _ (rw c.new-known.ensures at c.gather.ensures) _ c.requires.1 _ _ _
    (rw c.qubits-2.ensures.list at c.condense_from-p.ensures) (rw c.qubits.ensures.list at c.restrict_from-w.ensures) in
    c.times.ensures.anticommute ∙ ap (λ (a : ℕ). eqb a 1) clash
