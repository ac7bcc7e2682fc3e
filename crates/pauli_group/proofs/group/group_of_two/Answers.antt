use Rattle.std.proofs.Common.{◌+◌, ◌∙◌, ap₂, arith, length-append}
use Rattle.pauli_group.specs.Inner.Sources.{sparse_in}
use Rattle.pauli_group.proofs.source.SourceLaws.{source_counted}
use Rattle.pauli_group.proofs.group.GroupLaws.{places_few, part_placed, on_places, grouped, two_listed, paulis_append}
use mathlib.Core.List.Memᴰ
use Rattle.pauli_group.proofs.group.group_of_two.Goals as goal

pub read-requires : goal.read-requires
read-requires c =
    let pair = c.args.pair in
    let g = rw (← c.qubits-qubits.ensures.list) at c.gather.ensures in (
      part_placed _ _ g pair.qubits pair.left (λ p m. Memᴰ.append_left (sparse_in pair.right) m),
      places_few _ _ g pair.qubits,
      omega (arith, pair.few),
    )

pub read-requires-2 : goal.read-requires-2
read-requires-2 c =
    let pair = c.args.pair in
    let g = rw (← c.qubits-qubits.ensures.list) at c.gather.ensures in (
      part_placed _ _ g pair.qubits pair.right (λ p m. Memᴰ.append_right (sparse_in pair.left) m),
      places_few _ _ g pair.qubits,
      omega (arith, pair.few, c.count-first.ensures),
    )

pub build-requires : goal.build-requires
build-requires c =
    let pair = c.args.pair in
    let g = rw (← c.qubits-qubits.ensures.list) at c.gather.ensures in
    let second = rw c.count-first.ensures at c.read-2.ensures in
    rw (c.count-first.ensures, c.count.ensures) (
      pair.few,
      places_few _ _ g pair.qubits,
      on_places _ _ g pair.qubits _ _ (two_listed _ (sparse_in pair.left) (sparse_in pair.right) _ _ _ _ _ c.read.ensures.list second.list second.rest),
    )

pub returns : goal.returns
returns c =
    let pair = c.args.pair in
    let g = rw (← c.qubits-qubits.ensures.list) at c.gather.ensures in
    let second = rw c.count-first.ensures at c.read-2.ensures in
    let size =
    length-append (sparse_in pair.left) (sparse_in pair.right) ∙ ap₂ ◌+◌ (source_counted pair.left).size (source_counted pair.right).size in
    rw (← c.qubits-qubits.ensures.list, c.build.ensures.places, ← paulis_append (sparse_in pair.left) (sparse_in pair.right))
    (grouped _ _ g pair.qubits _ _ (two_listed _ (sparse_in pair.left) (sparse_in pair.right) _ _ _ _ _ c.read.ensures.list second.list second.rest) _ _ _ size
    (rw (c.count-first.ensures, c.count.ensures) at c.build.ensures.built))
