-- The support starts with nothing known.
use Rattle.std.proofs.Common.{◌∙◌}
use Rattle.pauli.proofs.joined.JoinLaws.{own_few}
use Rattle.pauli_group.proofs.group.GroupLaws.{own_gathered, places_are}
use Rattle.sizes.proofs.bound.qubits_of.Goals as goal

pub returns : goal.returns
returns c =
    let g = own_gathered _ _ (rw c.new-known.ensures at c.gather.ensures) in
    c.len.ensures ∙ places_are _ _ g (own_few c.args.roll.bytes.now c.args.roll.count c.args.roll.accepted)
