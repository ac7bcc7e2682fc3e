-- The group is built, its standard generators are written, and the area is cleared.
use Rattle.std.proofs.Common.{ℕ, List, ap, ◌∙◌, arith}
use Rattle.pauli.specs.Told.{answer}
use Rattle.pauli.specs.Writing.{told_bytes, left_in}
use Rattle.pauli_group.proofs.area.AreaLaws.{span_list}
use Rattle.pauli_group.proofs.group.GroupedLaws.{group_on}
use Rattle.pauli_group.proofs.member.FactorLaws.{places_known}
use Rattle.pauli_group.proofs.calls.CallLaws.{group_written}
use Rattle.pauli_group.proofs.source.SourceLaws.{roll_counted}
use Rattle.pauli_group.proofs.calls.write_standard.Goals as goal

pub write_roll-wrote-requires : goal.write_roll-wrote-requires
write_roll-wrote-requires c =
    let g = c.group_of-g in
    let few = g.result.few in
    let list = span_list _ c.paulis.ensures.list c.standards.ensures in
    let known = places_known g.ensures.group in (
      omega (arith, c.paulis.ensures.count, c.standards.ensures, few),
      rw (c.qubits.ensures.list, ← known) few.1,
      rw (list, c.qubits.ensures.list, ← known) (group_on _ _ (roll_counted _ _ c.args.roll.accepted) g.ensures.group),
    )

pub returns : goal.returns
returns c =
    let out = c.args.out.now in
    let wrote = rw (span_list _ c.paulis.ensures.list c.standards.ensures, c.qubits.ensures.list) at c.write_roll-wrote.ensures in
    let roll = group_written _ c.group_of-g.ensures.group in record {
      told = wrote.told ∙ ap (λ (bs : List ℕ). told_bytes (answer bs) out) roll;
      left = wrote.left ∙ ap (λ (bs : List ℕ). left_in (answer bs) out) roll;
      area = c.clear.ensures _ c.told-w;
    }
