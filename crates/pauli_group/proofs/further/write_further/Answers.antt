use Rattle.std.proofs.Common.{ℕ, List, ap, ◌∙◌, arith}
use Rattle.pauli.specs.Told.{answer}
use Rattle.pauli.specs.Writing.{told_bytes, left_in}
use Rattle.pauli_group.proofs.area.AreaLaws.{span_list}
use Rattle.pauli_group.proofs.further.FurtherLaws.{further_on, further_written}
use Rattle.pauli_group.proofs.further.write_further.Goals as goal

pub at-list-requires : goal.at-list-requires
at-list-requires c = omega (arith, c.requires.has.few)

pub write_roll-wrote-requires : goal.write_roll-wrote-requires
write_roll-wrote-requires c =
    let f = c.requires.has in
    (omega (arith, c.paulis.ensures.count, c.at-list.ensures, f.few), f.places, rw (span_list _ c.paulis.ensures.list c.at-list.ensures) (further_on f))

pub returns : goal.returns
returns c =
    let wrote = rw (span_list _ c.paulis.ensures.list c.at-list.ensures) at c.write_roll-wrote.ensures in record {
      told = λ f. wrote.told ∙ ap (λ (bs : List ℕ). told_bytes (answer bs) c.args.out.now) (further_written f.has);
      left = λ f. wrote.left ∙ ap (λ (bs : List ℕ). left_in (answer bs) c.args.out.now) (further_written f.has);
      area = c.clear.ensures;
    }
