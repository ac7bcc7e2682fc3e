-- The numbers of the list are gathered, its Paulis are read over their places, and the group is built.
use Rattle.std.proofs.Common.{arith}
use Rattle.pauli_group.proofs.source.SourceLaws.{source_counted}
use Rattle.pauli_group.proofs.group.GroupLaws.{own_gathered, places_few, part_placed, on_places, grouped}
use Rattle.pauli_group.proofs.group.group_of.Goals as goal

pub read-requires : goal.read-requires
read-requires c =
    let g = own_gathered _ _ (rw (c.new.ensures, ← c.qubits-qubits.ensures.list) at c.gather.ensures) in
    let s = source_counted c.args.source in
    (part_placed _ _ g s.qubits c.args.source (λ p m. m), places_few _ _ g s.qubits, omega (arith, s.few))

pub build-requires : goal.build-requires
build-requires c =
    let g = own_gathered _ _ (rw (c.new.ensures, ← c.qubits-qubits.ensures.list) at c.gather.ensures) in
    let s = source_counted c.args.source in
    rw c.count.ensures (s.few, places_few _ _ g s.qubits, on_places _ _ g s.qubits _ _ c.read.ensures.list)

pub returns-clause-group : goal.returns-clause-group
returns-clause-group c =
    let g = own_gathered _ _ (rw (c.new.ensures, ← c.qubits-qubits.ensures.list) at c.gather.ensures) in
    let s = source_counted c.args.source in
    rw (← c.qubits-qubits.ensures.list, c.build.ensures.places)
    (grouped _ _ g s.qubits _ _ c.read.ensures.list _ _ _ s.size (rw c.count.ensures at c.build.ensures.built))
