-- The result is over the places of the named support, whose qubits it is on.
use Rattle.std.proofs.Common.{List, ℕ, ap, ◌∙◌, arith}
use Rattle.pauli.specs.Condense.{list_of}
use Rattle.pauli.specs.Told.{answer}
use Rattle.pauli.specs.Writing.{told_bytes, left_in}
use Rattle.pauli_group.proofs.area.AreaLaws.{span_list}
use Rattle.centralizer.proofs.calls.PutLaws.{result_on, result_written}
use Rattle.centralizer.proofs.calls.write_centralizer.Goals as goal

pub write_roll-wrote-requires : goal.write_roll-wrote-requires
write_roll-wrote-requires c =
    let list = span_list _ c.paulis.ensures.list c.at-list.ensures ∙ c.put_centralizer-count.ensures.list in
    (omega (arith, c.paulis.ensures.count, c.at-list.ensures, c.put_centralizer-count.ensures.few), omega (arith, c.requires.2), rw list (result_on c.args.named.now (list_of c.args.roll.bytes.now)))

pub returns : goal.returns
returns c =
    let named = c.args.named.now in
    let out = c.args.out.now in
    let list = span_list _ c.paulis.ensures.list c.at-list.ensures ∙ c.put_centralizer-count.ensures.list in
    let wrote = rw list at c.write_roll-wrote.ensures in
    let same = result_written named c.requires.3 (list_of c.args.roll.bytes.now) in record {
      told = wrote.told ∙ ap (λ (bs : List ℕ). told_bytes (answer bs) out) same;
      left = wrote.left ∙ ap (λ (bs : List ℕ). left_in (answer bs) out) same;
      area = c.clear.ensures _ c.told-w;
    }
