use Rattle.std.proofs.Common.{arith}
use Rattle.pauli_group.proofs.source.SourceLaws.{source_counted}
use Rattle.pauli_group.proofs.group.GroupLaws.{own_gathered, places_few, part_placed}
use Rattle.pauli_group.proofs.further.ReadLaws.{read_further}
use Rattle.pauli_group.proofs.further.read_one.Goals as goal

pub read-requires : goal.read-requires
read-requires c =
    let g = own_gathered _ _ (rw (c.new.ensures, ← c.qubits.ensures.list) at c.gather.ensures) in
    let s = source_counted c.args.source in
    (part_placed _ _ g s.qubits c.args.source (λ p m. m), places_few _ _ g s.qubits, omega (arith, s.few))

pub returns : goal.returns
returns c =
    let g = own_gathered _ _ (rw (c.new.ensures, ← c.qubits.ensures.list) at c.gather.ensures) in
    let s = source_counted c.args.source in
    rw (← c.qubits.ensures.list) (read_further _ _ g s.qubits _ _ (omega (arith, c.count.ensures, s.few)) (rw (← c.count.ensures) at c.read.ensures.list))
